-- A spelled entry parsed: 01, Sequents, "rows 83 in prefix order (operator, b of operators 1 to 3, 0)". A node is read by its operator, then its operands
-- from what follows; whatever follows the formula is left.
use Rattle.std.specs.Prelude.{ℕ, zero, suc, ◌&&◌, List, [], ◌∷◌, eqb, length}
use Rattle.std.proofs.Math.Option.{Option, none, some}
use Rattle.lists.specs.Choice.{pick}
use Rattle.row.specs.declared.Row.{Row}
use Rattle.formula.specs.Tree.{literal, Tree, constant, identifier, after, unary, binary, division, connective}
use Rattle.formula.specs.Formula.{Formula, plain, some_value, some_after_value}
use Rattle.machine.specs.Operator.{Operator, literalOf, identifierOf, after_of, constant_of, unary_of, binary_of, division_of, connective_of, unknown, operator_numbered}
use Rattle.reply.specs.Spelled.{spelled_tag, some_value_number, some_after_value_number}

-- what is read from the front of the rows, and the rows that are left
abbrev pub Parser : Type 0 → Type 0
Parser A = List Row → Option (A × List Row)

-- something made of what is read
abbrev pub made : {A B : Type 0} → (A → B) → Option (A × List Row) → Option (B × List Row)
made f none = none
made f (some p) = some (f p.0, p.1)

-- two operands, the second from what the first leaves
abbrev pub parse_two : (Tree → Tree → Tree) → Parser Tree → Option (Tree × List Row) → Option (Tree × List Row)
parse_two f read none = none
parse_two f read (some p) = made (f p.0) (read p.1)

-- a node by its operator and column b
abbrev pub parse_node : Operator → ℕ → Parser Tree → Parser Tree
parse_node literalOf b read rs = some (constant (literal b), rs)
parse_node identifierOf b read rs = some (identifier b, rs)
parse_node after_of b read rs = some (after b, rs)
parse_node (constant_of c) b read rs = some (constant c, rs)
parse_node (unary_of o) b read rs = made (unary o) (read rs)
parse_node (binary_of o) b read rs = parse_two (binary o) read (read rs)
parse_node (division_of o) b read rs = parse_two (division o) read (read rs)
parse_node (connective_of o) b read rs = parse_two (connective o) read (read rs)
parse_node unknown b read rs = none

-- a tree of at most as many nodes as the bound says
unfoldable pub parse_tree : ℕ → Parser Tree
parse_tree zero rs = none
parse_tree (suc most) [] = none
parse_tree (suc most) (r ∷ rs) = pick (eqb r.tag spelled_tag) (parse_node (operator_numbered r.a) r.b (parse_tree most) rs) none

-- "with 40 "some value of" and 41 "some after value of" the identifier in b"
unfoldable pub parse_formula : Parser Formula
parse_formula [] = none
parse_formula (r ∷ rs) =
    pick (eqb r.tag spelled_tag && eqb r.a some_value_number) (made (some_value r.b) (parse_tree (length rs) rs))
    (pick (eqb r.tag spelled_tag && eqb r.a some_after_value_number) (made (some_after_value r.b) (parse_tree (length rs) rs))
    (made plain (parse_tree (length (r ∷ rs)) (r ∷ rs))))

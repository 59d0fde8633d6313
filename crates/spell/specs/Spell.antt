-- 01, Sequents: "An entry spelled out is rows 83 in prefix order", as the code counts and writes them: "Rows are written one after another into what is left of
-- the buffer."
use Rattle.std.specs.Prelude.{ℕ, zero, suc, ◌*◌, ◌/◌, ◌^◌, ◌≡◌, Bool, true, false, ◌&&◌, List, [], ◌∷◌, ◌++◌, eqb, ltb, length, take}
use Rattle.lists.specs.Choice.{pick}
use Rattle.lists.specs.Over.{over}
use Rattle.row.specs.declared.Row.{Row}
use Rattle.row.specs.Row.{width, row_length}
use Rattle.formula.specs.Tree.{Tree}
use Rattle.formula.specs.AfterValues.{at_after}
use Rattle.formula.specs.WellDefined.{well_defined}
use Rattle.table.specs.Rows.{Rows, operator_of, left_of, right_of}
use Rattle.table.specs.Lookups.{is_variable_number, operand_node}
use Rattle.machine.specs.Operator.{operator_numbered}
use Rattle.machine.specs.Described.{tree_of, machine_of}
use Rattle.sequent.specs.declared.Entry.{Entry as Numbers}
use Rattle.sequent.specs.Entry.{variable, action_tree, witness_root, formula}
use Rattle.sequent.specs.Forms.{entry_of}
use Rattle.rules.specs.Sorts.{Shape, value, anIdentifier, a_variable, none, one, two, unknown, shape_of}
use Rattle.conditions.specs.declared.Condition.{Condition}
use Rattle.conditions.specs.declared.Condition.TheVariants.{Nothing, Divisor, Operands, LeftTrue, LeftFalse}
use Rattle.conditions.specs.Condition.{condition_of}
use Rattle.reply.specs.Printed.{rows_bytes}
use Rattle.reply.specs.Spelled.{spelled, spell_tree, spell}
use Rattle.spell.specs.declared.Node.{Node}
use Rattle.spell.specs.Operators.{literal_number, identifier_number, after_number, equals_number, less_number, at_most_number, bottom_number}
use Rattle.spell.specs.Operators.{not_number, and_number, or_number, implies_number}

-- refusal 15, room: a count above every buffer's room is as good as the cap, since a buffer has fewer than 2^64 bytes
abbrev pub cap : ℕ
cap = 2 ^ 60

unfoldable pub capped : ℕ → ℕ
capped n = pick (ltb n cap) n cap

-- "into what is left of the buffer": where that starts after some rows; at the end where they have no room
unfoldable pub rest_start : ℕ → ℕ → ℕ
rest_start size rows = pick (ltb (size / row_length width) rows) size (row_length width * rows)

-- how many rows a buffer has room for
abbrev pub room : List ℕ → ℕ
room out = length out / row_length width

-- rows were counted and written into the front of the buffer, as many of them, from the first on, as it has room for
pub record Spelled (rs : List Row) (r : ℕ) (entry exit : List ℕ) : Type 0 where
  pub counted : r ≡ capped (length rs)
  pub written : exit ≡ over (rows_bytes (take (room entry) rs)) entry

-- "(operator, b of operators 1 to 3, 0)": a node without operands
abbrev pub leaf : ℕ → ℕ → Node
leaf operator b = record { operator = operator; b = b; operands = 0; left = 0; right = 0 }

-- a node by its operator's shape: an identifier's row is operator 3 where it is a variable at its after value
abbrev pub node_by : Shape → ℕ → Bool → ℕ → ℕ → ℕ → Node
node_by value o primed b l r = leaf o b
node_by anIdentifier o primed b l r = leaf (pick primed after_number identifier_number) b
node_by a_variable o primed b l r = leaf o b
node_by none o primed b l r = leaf o 0
node_by one o primed b l r = record { operator = o; b = 0; operands = 1; left = l; right = 0 }
node_by two o primed b l r = record { operator = o; b = 0; operands = 2; left = l; right = r }
node_by unknown o primed b l r = leaf bottom_number 0

-- "in prefix order": after a node's row those of its operands, as many as it has, from those of the left one and the right one
abbrev pub operand_rows : ℕ → List Row → List Row → List Row
operand_rows zero l r = []
operand_rows (suc zero) l r = l
operand_rows (suc (suc k)) l r = l ++ r

-- 01, Well-definedness, of a pair in prefix order: the rows before WD(a), those between it and WD(b), given a's, and those after it, given both
-- "÷ and mod"
abbrev pub is_division : Condition → Bool
is_division Nothing = false
is_division Divisor = true
is_division Operands = true
is_division LeftTrue = false
is_division LeftFalse = false

abbrev pub divides : ℕ → Bool
divides operator = is_division (condition_of (operator_numbered operator))

-- "Other pairs: WD(a) ∧ WD(b), but ÷ and mod: (WD(a) ∧ WD(b)) ∧ ..": one ∧, or two
unfoldable pub opening_rows : ℕ → List Row
opening_rows operator = pick (divides operator) (spelled and_number 0 ∷ spelled and_number 0 ∷ []) (spelled and_number 0 ∷ [])

-- "P ∧ Q and P ⇒ Q: WD(P) ∧ (P ⇒ WD(Q)); P ∨ Q: WD(P) ∧ (P ∨ WD(Q))": what P stands under before WD(Q), or 0
abbrev pub guard_of : Condition → ℕ
guard_of Nothing = 0
guard_of Divisor = 0
guard_of Operands = 0
guard_of LeftTrue = implies_number
guard_of LeftFalse = or_number

abbrev pub guard_number : ℕ → ℕ
guard_number operator = guard_of (condition_of (operator_numbered operator))

unfoldable pub guard_rows : ℕ → List Row → List Row
guard_rows operator left = pick (eqb (guard_number operator) 0) [] (spelled (guard_number operator) 0 ∷ left)

-- "¬(b = 0)" of ÷
abbrev pub nonzero_rows : List Row → List Row
nonzero_rows right = spelled not_number 0 ∷ ((spelled equals_number 0 ∷ right) ++ (spelled literal_number 0 ∷ []))

-- 02, request 7: "0 ≤ a ∧ 0 < b" of mod
abbrev pub natural_rows : List Row → List Row → List Row
natural_rows left right =
    (spelled and_number 0 ∷ (spelled at_most_number 0 ∷ spelled literal_number 0 ∷ left)) ++ (spelled less_number 0 ∷ spelled literal_number 0 ∷ right)

abbrev pub closing_of : Condition → List Row → List Row → List Row
closing_of Nothing left right = []
closing_of Divisor left right = nonzero_rows right
closing_of Operands left right = natural_rows left right
closing_of LeftTrue left right = []
closing_of LeftFalse left right = []

unfoldable pub closing_rows : ℕ → List Row → List Row → List Row
closing_rows operator left right = closing_of (condition_of (operator_numbered operator)) left right

-- "after equals before", the after side first: form 4 "if unassigned", and form 10
abbrev pub unchanged_rows : ℕ → List Row
unchanged_rows x = spelled equals_number 0 ∷ spelled after_number x ∷ spelled identifier_number x ∷ []

module _ (t : Rows) where
  -- what node n is spelled by: the operator and b of its row, how many operands follow it, and their nodes; primed is form 2
  unfoldable pub node_of : Bool → ℕ → Node
  node_of primed n =
      pick (eqb n 0) (leaf bottom_number 0)
      (node_by (shape_of (operator_of t n)) (operator_of t n) (primed && is_variable_number t (left_of t n)) (left_of t n) (operand_node n (left_of t n)) (operand_node n (right_of t n)))

  -- "1 node as written; 2 node with every variable at its after value", the latter where primed
  abbrev pub shown_tree : Bool → ℕ → Tree
  shown_tree primed n = pick primed (at_after (variable (machine_of t)) (tree_of t n)) (tree_of t n)

  unfoldable pub shown_rows : Bool → ℕ → List Row
  shown_rows primed n = spell_tree (shown_tree primed n)

  -- "3 WD of a node"
  unfoldable pub defined_rows : ℕ → List Row
  defined_rows n = spell_tree (well_defined (tree_of t n))

  -- "4 event and variable: the action's equation or predicate, or "after equals before" if unassigned"
  unfoldable pub moves_rows : ℕ → ℕ → List Row
  moves_rows e x = spell_tree (action_tree (machine_of t) ((machine_of t).action e x) x)

  -- "6 event and identifier: some value meets the witness": the witness's root
  unfoldable pub witness_node : ℕ → ℕ → ℕ
  witness_node e x = witness_root ((machine_of t).witnesses e) x

  -- "An entry spelled out is rows 83 in prefix order"
  unfoldable pub entry_rows : Numbers → List Row
  entry_rows entry = spell (formula (machine_of t) (entry_of entry))

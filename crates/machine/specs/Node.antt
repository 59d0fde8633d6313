-- 01, Rows: the formula of a node as a relation: there is no case for an unknown operator, nor for an operand that is no earlier node.
use Rattle.std.specs.Prelude.{◌≡◌, ℕ, ◌<◌, T}
use Rattle.table.specs.Rows.{Rows, named, operator_of, left_of, right_of}
use Rattle.formula.specs.Tree.{Constant, literal, Unary, Binary, Division, Connective, Tree, constant, identifier, after, unary, binary, division, connective}
use Rattle.machine.specs.Operator.{Operator, literalOf, identifierOf, after_of, constant_of, unary_of, binary_of, division_of, connective_of, operator_numbered}

-- n is a node with the operator o
pub record NodeOf (t : Rows) (o : Operator) (n : ℕ) : Type 0 where
  pub node : T (named t 20 n)
  pub operator : operator_numbered (operator_of t n) ≡ o

-- "1 literal (b its value), 2 identifier (b), 3 after value of a variable (b)"; "Operands have smaller numbers than their node."
pub data Formed (t : Rows) : ℕ → Tree → Type 0 where
  of_literal : {n : ℕ} → NodeOf t literalOf n → Formed t n (constant (literal (left_of t n)))
  of_identifier : {n : ℕ} → NodeOf t identifierOf n → Formed t n (identifier (left_of t n))
  of_after : {n : ℕ} → NodeOf t after_of n → Formed t n (after (left_of t n))
  of_constant : {n : ℕ} {c : Constant} → NodeOf t (constant_of c) n → Formed t n (constant c)
  of_unary : {n : ℕ} {o : Unary} {u : Tree} → NodeOf t (unary_of o) n
      → left_of t n < n → Formed t (left_of t n) u → Formed t n (unary o u)
  of_binary : {n : ℕ} {o : Binary} {u v : Tree} → NodeOf t (binary_of o) n
      → left_of t n < n → Formed t (left_of t n) u → right_of t n < n → Formed t (right_of t n) v → Formed t n (binary o u v)
  of_division : {n : ℕ} {o : Division} {u v : Tree} → NodeOf t (division_of o) n
      → left_of t n < n → Formed t (left_of t n) u → right_of t n < n → Formed t (right_of t n) v → Formed t n (division o u v)
  of_connective : {n : ℕ} {o : Connective} {u v : Tree} → NodeOf t (connective_of o) n
      → left_of t n < n → Formed t (left_of t n) u → right_of t n < n → Formed t (right_of t n) v → Formed t n (connective o u v)

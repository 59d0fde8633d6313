-- 01, Rows: what the columns of a node hold, by its operator, and the sort of a node.
use Rattle.std.specs.Prelude.{ℕ, Bool, true, false, ◌||◌, eqb}
use Rattle.lists.specs.Choice.{pick}
use Rattle.table.specs.Names.{boolean_type, integer_type}
use Rattle.table.specs.Rows.{Rows, operator_of, left_of, type_of}
use Rattle.machine.specs.Operator as operator
use Rattle.machine.specs.Operator.{Operator, literalOf, identifierOf, after_of, constant_of, unary_of, binary_of, division_of, connective_of, operator_numbered, result_sort}

-- How an operator uses its columns b and c: a literal's value, an identifier, a variable, none, one operand, two operands.
pub data Shape : Type 0 where
  value anIdentifier a_variable none one two unknown : Shape

abbrev pub shape : Operator → Shape
shape literalOf = value
shape identifierOf = anIdentifier
shape after_of = a_variable
shape (constant_of c) = none
shape (unary_of o) = one
shape (binary_of o) = two
shape (division_of o) = two
shape (connective_of o) = two
shape operator.unknown = unknown

unfoldable pub shape_of : ℕ → Shape
shape_of n = shape (operator_numbered n)

abbrev pub names_identifier : Shape → Bool
names_identifier value = false
names_identifier anIdentifier = true
names_identifier a_variable = true
names_identifier none = false
names_identifier one = false
names_identifier two = false
names_identifier unknown = false

-- how many of b and c are operands
abbrev pub operand_count : Shape → ℕ
operand_count value = 0
operand_count anIdentifier = 0
operand_count a_variable = 0
operand_count none = 0
operand_count one = 1
operand_count two = 2
operand_count unknown = 0

module _ (t : Rows) where
  -- the sort of a node, from its operator, whatever its operands are
  unfoldable pub sort_of : ℕ → ℕ
  sort_of n = pick (names_identifier (shape_of (operator_of t n))) (type_of t (left_of t n)) (result_sort (operator_of t n))

  -- an operand of the wanted sort; of = (wanted 0) any that is no predicate
  abbrev pub fitting : ℕ → ℕ → Bool
  fitting wanted n = pick (eqb wanted 0) (eqb (sort_of n) integer_type || eqb (sort_of n) boolean_type) (eqb (sort_of n) wanted)

-- What the code's operators stand for: how the operators' table has them used.
use Rattle.std.specs.Prelude.{ℕ}
use Rattle.machine.specs.Operator.{operand_sort, result_sort}
use Rattle.rules.specs.Sorts as sorts
use Rattle.rules.specs.Sorts.{value, anIdentifier, a_variable, none, one, two, unknown, shape_of}
use Rattle.operators.specs.declared.Shape.{Shape}
use Rattle.operators.specs.declared.Shape.TheVariants as shape
use Rattle.operators.specs.declared.Operator.{Operator}

-- an operator's number, its columns, the sort of its operands and its own
pub record Usage : Type 0 where
  pub number : ℕ
  pub columns : sorts.Shape
  pub operands : ℕ
  pub sort : ℕ

abbrev pub usage_of : ℕ → Usage
usage_of n = record { number = n; columns = shape_of n; operands = operand_sort n; sort = result_sort n }

abbrev pub meant_shape : Shape → sorts.Shape
meant_shape shape.Value = value
meant_shape shape.Identifier = anIdentifier
meant_shape shape.Variable = a_variable
meant_shape shape.NoOperand = none
meant_shape shape.OneOperand = one
meant_shape shape.TwoOperands = two
meant_shape shape.Unknown = unknown

abbrev pub operator_at : ℕ → Shape → ℕ → ℕ → Operator
operator_at n s o r = record { number = n; shape = s; operands = o; sort = r }

abbrev pub meant : Operator → Usage
meant o = record { number = o.number; columns = meant_shape o.shape; operands = o.operands; sort = o.sort }

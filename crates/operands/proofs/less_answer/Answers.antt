-- A faulty operand is the answer; else the comparison of the operands' numbers.
use mathlib.Core.Path.{refl, ap₂, ◌∙◌}
use Rattle.formula.specs.Values.{lessℤ}
use Rattle.formula.specs.Tree.{less}
use Rattle.signed.proofs.Numbers.{less_is}
use Rattle.operands.proofs.Operands.{left_fault, right_fault, both_truths}
use Rattle.operands.proofs.less_answer.Goals as goal

pub returns-in_err-left : goal.returns-in_err-left
returns-in_err-left c = left_fault c.args.right c.in_err-left.was c.from_residual.ensures.1 less

pub returns-in_err-right : goal.returns-in_err-right
returns-in_err-right c = right_fault c.in_ok-left.was c.in_err-right.was c.from_residual-in_err-right.ensures.1 less

pub returns : goal.returns
returns c = both_truths c.in_ok-left.was c.in_ok-right.was less refl (less_is c.number_in.result c.number_in-2.result (record { sfits = c.number_in.type_inv }) (record { sfits = c.number_in-2.type_inv }) ∙ ap₂ lessℤ c.number_in.ensures c.number_in-2.ensures)

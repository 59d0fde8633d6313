-- A faulty operand is the answer; else the comparison of the operands' numbers.
use mathlib.Core.Path.{refl, ap₂, ◌∙◌}
use Rattle.formula.specs.Values.{at_mostℤ}
use Rattle.formula.specs.Tree.{at_most}
use Rattle.signed.proofs.Numbers.{at_most_is}
use Rattle.operands.proofs.Operands.{left_fault, right_fault, both_truths}
use Rattle.operands.proofs.at_most_answer.Goals as goal

pub returns-in_err-left : goal.returns-in_err-left
returns-in_err-left c = left_fault c.args.right c.in_err-left.was c.from_residual.ensures.1 at_most

pub returns-in_err-right : goal.returns-in_err-right
returns-in_err-right c = right_fault c.in_ok-left.was c.in_err-right.was c.from_residual-in_err-right.ensures.1 at_most

pub returns : goal.returns
returns c = both_truths c.in_ok-left.was c.in_ok-right.was at_most refl (at_most_is c.number_in.result c.number_in-2.result (record { sfits = c.number_in.type_inv }) (record { sfits = c.number_in-2.type_inv }) ∙ ap₂ at_mostℤ c.number_in.ensures c.number_in-2.ensures)

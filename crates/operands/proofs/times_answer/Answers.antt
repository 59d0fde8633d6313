-- A faulty operand is the answer; else the product of the operands' numbers.
use mathlib.Core.Path.{ap₂, ◌∙◌}
use lib.IntN.{◌*ℤ◌}
use Rattle.formula.specs.Tree.{times}
use Rattle.signed.proofs.Numbers.{number_found, seen_is}
use Rattle.operands.proofs.Operands.{left_fault, right_fault, both_values}
use Rattle.operands.proofs.times_answer.Goals as goal

pub returns-in_err-left : goal.returns-in_err-left
returns-in_err-left c = left_fault c.args.right c.in_err-left.was c.from_residual.ensures.1 times

pub returns-in_err-right : goal.returns-in_err-right
returns-in_err-right c = right_fault c.in_ok-left.was c.in_err-right.was c.from_residual-in_err-right.ensures.1 times

pub returns : goal.returns
returns c =
    let m = seen_is c.number_in.result c.number_in.type_inv c.number_in.ensures in
    let n = seen_is c.number_in-2.result c.number_in-2.type_inv c.number_in-2.ensures in
    both_values c.in_ok-left.was c.in_ok-right.was times (c.multiply.ensures ∙ ap₂ (λ m n. number_found (m *ℤ n)) m n)

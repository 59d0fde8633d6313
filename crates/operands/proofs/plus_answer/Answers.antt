-- A faulty operand is the answer; else the sum of the operands' numbers.
use mathlib.Core.Path.{ap₂, ◌∙◌}
use lib.IntN.{◌+ℤ◌}
use Rattle.formula.specs.Tree.{plus}
use Rattle.signed.proofs.Numbers.{number_found, seen_is}
use Rattle.operands.proofs.Operands.{left_fault, right_fault, both_values}
use Rattle.operands.proofs.plus_answer.Goals as goal

pub returns-in_err-a : goal.returns-in_err-a
returns-in_err-a c = left_fault c.args.right c.in_err-a.was c.from_residual.ensures.1 plus

pub returns-in_err-b : goal.returns-in_err-b
returns-in_err-b c = right_fault c.in_ok-a.was c.in_err-b.was c.from_residual-in_err-b.ensures.1 plus

pub returns : goal.returns
returns c =
    let m = seen_is c.number_in.result c.number_in.type_inv c.number_in.ensures in
    let n = seen_is c.number_in-2.result c.number_in-2.type_inv c.number_in-2.ensures in
    both_values c.in_ok-a.was c.in_ok-b.was plus (c.add.ensures ∙ ap₂ (λ m n. number_found (m +ℤ n)) m n)

-- A faulty operand is the answer; else the remainder of the operands' numbers, where it is defined.
use mathlib.Core.Path.{sym, ap₂, ◌∙◌}
use Rattle.formula.specs.Values.{remainderℤ}
use Rattle.formula.specs.Tree.{remainder}
use Rattle.signed.proofs.Numbers.{number_found, seen_is}
use Rattle.operands.proofs.Operands.{dividend_fault, divisor_fault, divided, not_divided}
use Rattle.operands.proofs.remainder_answer.Goals as goal

pub returns-in_err-m : goal.returns-in_err-m
returns-in_err-m c = dividend_fault c.args.right c.in_err-m.was c.from_residual.ensures.1 remainder

pub returns-in_err-n : goal.returns-in_err-n
returns-in_err-n c = divisor_fault c.in_ok-m.was c.in_err-n.was c.from_residual-in_err-n.ensures.1 remainder

pub returns-then-remainder_defined : goal.returns-then-remainder_defined
returns-then-remainder_defined c =
    let m = seen_is c.number_in.result c.number_in.type_inv c.number_in.ensures in
    let n = seen_is c.number_in-then-remainder_defined.result c.number_in-then-remainder_defined.type_inv c.number_in-then-remainder_defined.ensures in
    divided c.in_ok-m.was c.in_ok-n.was remainder (sym c.remainder_defined.ensures ∙ c.if-remainder_defined.true) (c.remainder.ensures ∙ ap₂ (λ m n. number_found (remainderℤ m n)) m n)

pub returns : goal.returns
returns c =
    not_divided c.in_ok-m.was c.in_ok-n.was remainder (sym c.remainder_defined.ensures ∙ c.if-remainder_defined.false)

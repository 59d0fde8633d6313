-- A faulty operand is the answer; else the quotient of the operands' numbers, where the divisor is not 0.
use mathlib.Core.Path.{sym, ap, ap₂, ◌∙◌}
use mathlib.Core.Bool.{not}
use Rattle.formula.specs.Values.{quotientℤ}
use Rattle.formula.specs.Tree.{quotient}
use Rattle.signed.proofs.Numbers.{number_found, seen_is}
use Rattle.operands.proofs.Operands.{dividend_fault, divisor_fault, divided, not_divided}
use Rattle.operands.proofs.quotient_answer.Goals as goal

pub returns-in_err-dividend : goal.returns-in_err-dividend
returns-in_err-dividend c = dividend_fault c.args.right c.in_err-dividend.was c.from_residual.ensures.1 quotient

pub returns-in_err-divisor : goal.returns-in_err-divisor
returns-in_err-divisor c = divisor_fault c.in_ok-dividend.was c.in_err-divisor.was c.from_residual-in_err-divisor.ensures.1 quotient

pub returns-then-same : goal.returns-then-same
returns-then-same c =
    not_divided c.in_ok-dividend.was c.in_ok-divisor.was quotient (ap not (sym c.same.ensures ∙ c.if-same.true))

pub returns : goal.returns
returns c =
    let m = seen_is c.number_in.result c.number_in.type_inv c.number_in.ensures in
    let n = seen_is c.number_in-2.result c.number_in-2.type_inv c.number_in-2.ensures in
    divided c.in_ok-dividend.was c.in_ok-divisor.was quotient (ap not (sym c.same.ensures ∙ c.if-same.false)) (c.divide.ensures ∙ ap₂ (λ m n. number_found (quotientℤ m n)) m n)

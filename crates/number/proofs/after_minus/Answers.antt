-- By what stands after the minus: nothing, a zero, or another byte.
use native.Mathlib.Omega.{arith}
use Rattle.number.proofs.Scan.{minus_last, minus_zero, minus_digit}
use Rattle.number.proofs.after_minus.Goals as goal

pub returns-then-columns-at : goal.returns-then-columns-at
returns-then-columns-at c =
    let a = c.args in
    minus_last a.greatest a.columns.now a.at c.if-columns-at.true

pub returns-then-columns-at-eq-ZERO : goal.returns-then-columns-at-eq-ZERO
returns-then-columns-at-eq-ZERO c =
    let a = c.args in
    minus_zero a.greatest a.columns.now a.at (omega arith) c.if-columns-at-eq-ZERO.true

pub returns : goal.returns
returns c =
    let a = c.args in
    minus_digit a.greatest a.columns.now a.at (omega arith) c.if-columns-at-eq-ZERO.false c.digits.ensures

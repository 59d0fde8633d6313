-- The same sign, or the greater magnitude's.
use mathlib.Core.Path.{sym, ap, ◌∙◌}
use Prim.Native.Nat.{◌+◌}
use native.Mathlib.Omega.{arith}
use Rattle.signed.proofs.Numbers.{number_found, outside, sum_both}
use Rattle.signed.proofs.sum.Goals as goal

pub returns-then-m-n : goal.returns-then-m-n
returns-then-m-n c =
    let a = c.args in
    sym (ap number_found (sum_both a.p a.q a.m a.n c.if-p-q.true) ∙ outside a.p (a.m + a.n) (omega arith))

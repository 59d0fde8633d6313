-- Eight tests that all pass, then two.
use native.Mathlib.Omega.{arith}
use Rattle.number.proofs.Leading.{eight_blank}
use Rattle.number.proofs.blank_start.Goals as goal

pub blank_on-requires : goal.blank_on-requires
blank_on-requires c =
    eight_blank c.args.columns.now (omega arith) c.if-first-second.true

-- Two tests that pass.
use native.Mathlib.Omega.{arith}
use Rattle.number.proofs.Leading.{two_blank}
use Rattle.number.proofs.blank_on.Goals as goal

pub returns-then-columns-at : goal.returns-then-columns-at
returns-then-columns-at c =
    two_blank c.args.columns.now c.args.at c.requires (omega arith) c.if-columns-at.true

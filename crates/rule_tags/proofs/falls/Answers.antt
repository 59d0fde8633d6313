-- The first row has none before it.
use native.Mathlib.Omega.{arith}
use borrow.Author.Tests.{le-ltb, lt-ltb}
use Rattle.rule_tags.proofs.falls.Goals as goal

pub returns-then-i-eq0 : goal.returns-then-i-eq0
returns-then-i-eq0 c = simp (le-ltb 0 c.args.i (omega arith))

pub returns : goal.returns
returns c =
    simp (lt-ltb 0 c.args.i (omega arith), c.tag_at-2.ensures, c.tag_at.ensures)

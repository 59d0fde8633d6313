-- By the test.
use borrow.Author.Tests.{eq-eqb, ne_eqb}
use Rattle.scan.proofs.started.Goals as goal

pub returns-then-to-eq0 : goal.returns-then-to-eq0
returns-then-to-eq0 c = rw (eq-eqb _ _ c.if-to-eq0.true)

pub returns-else-to-eq0 : goal.returns-else-to-eq0
returns-else-to-eq0 c = rw (ne_eqb _ _ c.if-to-eq0.false)

-- By whether one was noted.
use borrow.Author.Tests.{eq-eqb, ne_eqb}
use Rattle.scan.proofs.first_noted.Goals as goal

pub returns-then-noted-eq0 : goal.returns-then-noted-eq0
returns-then-noted-eq0 c = rw (eq-eqb _ _ c.if-noted-eq0.true)

pub returns-else-noted-eq0 : goal.returns-else-noted-eq0
returns-else-noted-eq0 c = rw (ne_eqb _ _ c.if-noted-eq0.false)

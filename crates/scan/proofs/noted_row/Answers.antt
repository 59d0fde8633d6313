-- By whether one was noted.
use borrow.Author.Tests.{eq-eqb, ne_eqb}
use Rattle.scan.proofs.noted_row.Goals as goal

pub returns-then-noted-eq0 : goal.returns-then-noted-eq0
returns-then-noted-eq0 c = rw (eq-eqb _ _ c.if-noted-eq0.true)

pub returns : goal.returns
returns c = rw (ne_eqb _ _ c.if-noted-eq0.false)

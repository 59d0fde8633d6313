-- By the wanted sort.
use borrow.Author.Tests.{eq-eqb, ne_eqb}
use Rattle.rule_sorts.proofs.fits.Goals as goal

pub returns-then-wanted-eq-SAME_TYPE : goal.returns-then-wanted-eq-SAME_TYPE
returns-then-wanted-eq-SAME_TYPE c = rw (eq-eqb _ _ c.if-wanted-eq-SAME_TYPE.true)

pub returns : goal.returns
returns c = rw (ne_eqb _ _ c.if-wanted-eq-SAME_TYPE.false)

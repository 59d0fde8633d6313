-- By the test.
use borrow.Author.Tests.{eq-eqb, ne_eqb}
use Rattle.scan.proofs.span_tag.Goals as goal

pub returns-then-tag-eq-BECOMES_SUCH : goal.returns-then-tag-eq-BECOMES_SUCH
returns-then-tag-eq-BECOMES_SUCH c = rw (eq-eqb _ _ c.if-tag-eq-BECOMES_SUCH.true)

pub returns : goal.returns
returns c = rw (ne_eqb _ _ c.if-tag-eq-BECOMES_SUCH.false)

-- By whether the number is at most the highest tag.
use mathlib.Core.Path.{ap}
use borrow.Author.Tests.{le-leb, lt-leb}
use Rattle.select.specs.Selection.{between}
use Rattle.select.proofs.section_span.Goals as goal

pub returns-then-tag-le-VARIANT : goal.returns-then-tag-le-VARIANT
returns-then-tag-le-VARIANT c = rw (le-leb _ _ c.if-tag-le-VARIANT.true) c.span_at.ensures

pub returns : goal.returns
returns c =
    rw (lt-leb _ _ c.if-tag-le-VARIANT.false) (ap (between 0) c.size.ensures)

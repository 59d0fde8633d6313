-- Rows and end are the slot's.
use mathlib.Core.Path.{ap₂, ◌∙◌}
use Rattle.select.specs.declared.Item.TheVariants.{A}
use Rattle.segments.specs.Segments.{segment_of}
use Rattle.segments.proofs.formulas.Goals as goal

pub returns : goal.returns
returns c =
    c.new.ensures ∙ ap₂ (λ r n. segment_of r n 1 A) c.when-rows.ensures c.up_to.ensures

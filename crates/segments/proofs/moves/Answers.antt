-- Rows and end are the table's.
use mathlib.Core.Path.{ap₂, ◌∙◌}
use Rattle.select.specs.declared.Item.TheVariants.{Identifier}
use Rattle.segments.specs.Segments.{segment_of}
use Rattle.segments.proofs.moves.Goals as goal

pub returns : goal.returns
returns c =
    c.new.ensures ∙ ap₂ (λ r n. segment_of r n 4 Identifier) c.when-rows.ensures c.size.ensures

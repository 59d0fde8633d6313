-- Rows and end are the slot's.
use mathlib.Core.Path.{ap, ap₂, ◌∙◌}
use mathlib.Core.Bool.{not}
use Rattle.select.specs.declared.Selection.TheVariants.{OfEvent}
use Rattle.select.specs.declared.Item.TheVariants.{B}
use Rattle.groups.specs.Groups.{when}
use Rattle.segments.specs.Segments.{segment_of}
use Rattle.segments.proofs.guards.Goals as goal

pub returns : goal.returns
returns c =
    let a = c.args in
    c.new.ensures ∙ ap₂ (λ r n. segment_of r n 1 B) (c.when-rows.ensures ∙ ap (λ b. when (not b) (OfEvent 50 a.slot.event)) c.of_none.ensures) c.up_to.ensures

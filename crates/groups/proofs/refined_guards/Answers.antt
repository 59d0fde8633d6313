-- By the event's role.
use mathlib.Core.Path.{ap, ap₂, ◌∙◌}
use Rattle.select.specs.declared.Selection.TheVariants.{OfEvent}
use Rattle.groups.specs.Groups.{when, of_event}
use Rattle.groups.proofs.refined_guards.Goals as goal

pub returns : goal.returns
returns c =
    let a = c.args in
    c.of_event.ensures ∙ ap (of_event a.event) (c.when.ensures ∙ ap₂ (λ b f. when b (OfEvent 50 f)) c.is_refining.ensures c.event_field-refined.ensures)

-- By the event's role.
use mathlib.Core.Path.{sym, ap, ◌∙◌}
use Rattle.select.specs.declared.Selection.TheVariants.{Identifiers}
use Rattle.groups.specs.Groups.{when, of_event}
use Rattle.groups.proofs.simulated.Goals as goal

pub returns-then-is_matched : goal.returns-then-is_matched
returns-then-is_matched c =
    rw (sym c.is_matched.ensures ∙ c.if-is_matched.true) c.of_event.ensures

pub returns : goal.returns
returns c =
    let a = c.args in
    rw (sym c.is_matched.ensures ∙ c.if-is_matched.false)
    (c.of_event-2.ensures ∙ ap (of_event a.event) (c.when.ensures ∙ ap (λ b. when b (Identifiers 6)) c.is_new.ensures))

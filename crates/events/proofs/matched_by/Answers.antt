-- By whether it is an initialisation.
use mathlib.Core.Path.{sym, ◌∙◌}
use Rattle.events.proofs.matched_by.Goals as goal

pub returns-then-is_initial : goal.returns-then-is_initial
returns-then-is_initial c = rw (sym c.is_initial.ensures ∙ c.if-is_initial.true)

pub returns : goal.returns
returns c =
    rw (sym c.is_initial.ensures ∙ c.if-is_initial.false) c.event_field.ensures

-- By the event's class.
use mathlib.Core.Path.{sym, ◌∙◌}
use Rattle.segments.proofs.variant_goal.Goals as goal

pub returns-then-is_convergent : goal.returns-then-is_convergent
returns-then-is_convergent c =
    rw (sym c.is_convergent.ensures ∙ c.if-is_convergent.true) c.of_one.ensures

pub returns : goal.returns
returns c =
    rw (sym c.is_convergent.ensures ∙ c.if-is_convergent.false) c.of_one-2.ensures

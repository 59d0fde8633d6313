-- By the event's class.
use mathlib.Core.Path.{sym, ap, ◌∙◌}
use Rattle.sequent.specs.Numbers.{numbers}
use Rattle.segments.proofs.sim_goal.Goals as goal

pub returns-then-is_new : goal.returns-then-is_new
returns-then-is_new c =
    rw (sym c.is_new.ensures ∙ c.if-is_new.true) c.of_one.ensures

pub returns : goal.returns
returns c =
    let a = c.args in
    rw (sym c.is_new.ensures ∙ c.if-is_new.false) (c.of_event.ensures ∙ ap (λ f. numbers 4 f a.x) c.matched_by.ensures)

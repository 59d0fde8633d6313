-- By whether the slot is of no event.
use mathlib.Core.Path.{sym, ap₂, ◌∙◌}
use mathlib.Core.Bool.{not, ◌&&◌}
use Rattle.segments.proofs.has_concrete.Goals as goal

pub returns-then-of_none : goal.returns-then-of_none
returns-then-of_none c = rw (sym c.of_none.ensures ∙ c.if-of_none.true)

pub returns : goal.returns
returns c =
    rw (sym c.of_none.ensures ∙ c.if-of_none.false) (ap₂ (λ p q. not p && not q) c.is_initial.ensures c.is_abstract.ensures)

-- By whether the event keeps all.
use mathlib.Core.Path.{sym, ◌∙◌}
use Rattle.groups.proofs.invariant_each.Goals as goal

pub returns-then-keeps_all : goal.returns-then-keeps_all
returns-then-keeps_all c = rw (sym c.keeps_all.ensures ∙ c.if-keeps_all.true)

pub returns : goal.returns
returns c = rw (sym c.keeps_all.ensures ∙ c.if-keeps_all.false)

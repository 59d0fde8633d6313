-- By the event's machine.
use mathlib.Core.Path.{sym, ◌∙◌}
use Rattle.events.proofs.of_machine.Goals as goal

pub returns-then-is_abstract : goal.returns-then-is_abstract
returns-then-is_abstract c = rw (sym c.is_abstract.ensures ∙ c.if-is_abstract.true)

pub returns : goal.returns
returns c = rw (sym c.is_abstract.ensures ∙ c.if-is_abstract.false)

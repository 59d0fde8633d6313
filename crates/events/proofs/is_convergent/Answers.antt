-- Machine and class are the event's.
use Rattle.events.proofs.is_convergent.Goals as goal

pub returns : goal.returns
returns c = simp (c.event_field.ensures, c.is_abstract.ensures)

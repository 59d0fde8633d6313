-- Machine and class are the event's.
use Rattle.events.proofs.is_matched.Goals as goal

pub returns : goal.returns
returns c = simp (c.is_abstract.ensures, c.event_field-class.ensures)

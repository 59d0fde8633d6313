-- Both tests are the event's.
use Rattle.events.proofs.keeps_all.Goals as goal

pub returns : goal.returns
returns c = simp (c.is_refining.ensures, c.is_initial.ensures)

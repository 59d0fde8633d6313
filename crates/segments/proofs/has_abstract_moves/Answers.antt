-- The role is the event's.
use Rattle.segments.proofs.has_abstract_moves.Goals as goal

pub returns : goal.returns
returns c = simp c.is_new.ensures

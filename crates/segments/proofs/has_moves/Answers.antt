-- The target of the slot's row is the row's.
use Rattle.segments.proofs.has_moves.Goals as goal

pub returns : goal.returns
returns c = simp (c.is_variable-variable.ensures, c.b_at.ensures)

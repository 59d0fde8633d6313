-- The sets are those of the formula and of the event.
use Rattle.nodes.proofs.touches.Goals as goal

pub returns : goal.returns
returns c =
    simp (c.meets.ensures, c.assigned_by-assigned.ensures, c.note_at-noted.ensures)

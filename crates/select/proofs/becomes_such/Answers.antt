-- The row found is the action's.
use Rattle.select.proofs.becomes_such.Goals as goal

pub returns : goal.returns
returns c =
    simp (c.tag_at.ensures, c.size.ensures, c.action_row-row.ensures)

-- Tag and column are the row's.
use Rattle.select.proofs.row_of_event.Goals as goal

pub returns : goal.returns
returns c = simp (c.a_at.ensures, c.tag_at.ensures)

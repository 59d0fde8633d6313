-- Tag and columns are the row's.
use Rattle.scan.proofs.is_noted.Goals as goal

pub returns : goal.returns
returns c =
    simp (c.b_at-target.ensures, c.a_at-event.ensures, c.tag_at-tag.ensures)

-- Tag and event are the row's.
use Rattle.nodes.proofs.is_noted.Goals as goal

pub returns : goal.returns
returns c = simp (c.a_at-event.ensures, c.tag_at-tag.ensures)

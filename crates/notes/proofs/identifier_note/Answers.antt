-- The set is that of one identifier.
use Rattle.notes.proofs.identifier_note.Goals as goal

pub returns : goal.returns
returns c = rw c.single.ensures

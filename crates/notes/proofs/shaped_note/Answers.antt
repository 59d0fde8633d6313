-- By the case of the shape.
use Rattle.notes.proofs.shaped_note.Goals as goal

pub returns-in-Identifier : goal.returns-in-Identifier
returns-in-Identifier c = simp (c.in-Identifier.is, c.identifier_note.ensures)

pub returns-in-Variable : goal.returns-in-Variable
returns-in-Variable c =
    simp (c.in-Variable.is, c.identifier_note-in-Variable.ensures)

pub returns-in-TwoOperands : goal.returns-in-TwoOperands
returns-in-TwoOperands c = simp (c.in-TwoOperands.is, c.pair_note.ensures)

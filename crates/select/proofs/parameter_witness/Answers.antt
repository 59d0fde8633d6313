-- Target and row are the row's.
use Rattle.select.proofs.parameter_witness.Goals as goal

pub returns : goal.returns
returns c =
    simp (c.row_of_event.ensures, c.is_variable.ensures, c.b_at.ensures)

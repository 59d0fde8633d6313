-- By cases on what there is of a row.
use Rattle.select.proofs.weight.Goals as goal

pub returns-in-Defined : goal.returns-in-Defined
returns-in-Defined c =
    simp (c.divisions.ensures.value, c.item_at.ensures, c.in-Defined.is)

pub returns-in-Witness : goal.returns-in-Witness
returns-in-Witness c =
    simp (c.divisions-in-Witness.ensures.value, c.c_at.ensures, c.in-Witness.is)

pub returns-in-Touched : goal.returns-in-Touched
returns-in-Touched c =
    simp (c.one_if.ensures.value, c.touches.ensures, c.rows.ensures.0, c.a_at.ensures, c.in-Touched.is)

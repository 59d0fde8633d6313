-- By whether it is the witnesses' group.
use mathlib.Core.Path.{ap, ◌∙◌}
use lib.Dec.{eqb}
use borrow.Author.Tests.{eq-eqb, ne_eqb}
use Rattle.table.specs.Rows.{rows_of}
use Rattle.select.specs.Each.{divisions}
use Rattle.walk.proofs.is_wfis.Goals as goal

pub returns-then-slot-eq-WITNESS : goal.returns-then-slot-eq-WITNESS
returns-then-slot-eq-WITNESS c =
    let a = c.args in
    rw (eq-eqb _ _ c.if-slot-eq-WITNESS.true)
    (ap (eqb a.slot.left) (c.divisions.ensures.value ∙ ap (divisions (rows_of a.index.now.table.words.now)) c.c_at.ensures))

pub returns : goal.returns
returns c = rw (ne_eqb _ _ c.if-slot-eq-WITNESS.false)

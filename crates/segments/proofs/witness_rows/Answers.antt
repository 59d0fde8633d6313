-- By whether the slot is of GRD.
use mathlib.Core.Path.{ap, ◌∙◌}
use borrow.Author.Tests.{eq-eqb, ne_eqb}
use Rattle.select.specs.declared.Selection.TheVariants.{OfEvent}
use Rattle.groups.specs.Groups.{when}
use Rattle.segments.proofs.witness_rows.Goals as goal

pub returns-then-slot-eq-GRD : goal.returns-then-slot-eq-GRD
returns-then-slot-eq-GRD c = rw (eq-eqb _ _ c.if-slot-eq-GRD.true)

pub returns : goal.returns
returns c =
    let a = c.args in
    rw (ne_eqb _ _ c.if-slot-eq-GRD.false) (c.when.ensures ∙ ap (λ b. when b (OfEvent 60 a.slot.event)) c.has_witnesses.ensures)

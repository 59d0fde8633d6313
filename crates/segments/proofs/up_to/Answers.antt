-- By whether the slot is of the group.
use borrow.Author.Tests.{eq-eqb, ne_eqb}
use Rattle.segments.proofs.up_to.Goals as goal

pub returns-then-slot-group : goal.returns-then-slot-group
returns-then-slot-group c = rw (eq-eqb _ _ c.if-slot-group.true)

pub returns : goal.returns
returns c = rw (ne_eqb _ _ c.if-slot-group.false) c.size.ensures

-- The loop's invariant: the slot is in the walk and names, with what is left, the place that is searched; each step leaves fewer groups (Slots).
use mathlib.Core.Path.{◌≡◌}
use Rattle.table.specs.Rows.{rows_of}
use Rattle.walk.specs.Slots.{InWalk, position}
use Rattle.walk.proofs.Slots.{groups_from}
use Rattle.walk.proofs.seek.Given as goal

abbrev pub invariant-loop-slot : goal.invariant-loop-slot
invariant-loop-slot l =
    InWalk (rows_of l.index.table.words.now) l.slot × (position (rows_of l.index.table.words.now) l.slot ≡ position (rows_of l.index.table.words.now) l.initial.slot)

abbrev pub decreases-loop-slot : goal.decreases-loop-slot
decreases-loop-slot l = groups_from (rows_of l.index.table.words.now) l.slot

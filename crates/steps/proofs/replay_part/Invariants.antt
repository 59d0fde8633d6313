-- The loop's invariant: so many steps are taken, up to the place.
use Prim.Native.Nat.{◌-◌}
use mathlib.Core.Path.{◌≡◌}
use lib.ListN.{length}
use Rattle.table.specs.Rows.{rows_of}
use Rattle.values.specs.Values.{values_of}
use Rattle.steps.proofs.Parts.{Taken}
use Rattle.steps.proofs.replay_part.Given as goal

abbrev pub invariant-loop-place : goal.invariant-loop-place
invariant-loop-place l =
    (length l.present ≡ length l.initial.present) × (length l.after ≡ length l.initial.after) × Taken (rows_of l.scanned.table.words.now) l.before l.part l.last l.n-2 (values_of l.initial.present l.initial.after) l.n l.place.at (values_of l.present l.after)

abbrev pub decreases-loop-place : goal.decreases-loop-place
decreases-loop-place l = length l.part - l.place.at

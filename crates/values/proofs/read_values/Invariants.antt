-- The loop's invariant: reading on for the identifiers behind x gives what reading for all of them gives.
use mathlib.Core.Path.{◌≡◌}
use lib.ListN.{length}
use Rattle.table.specs.Rows.{rows_of}
use Rattle.values.specs.Values.{values_of}
use Rattle.values.proofs.Reading.{Rest}
use Rattle.values.proofs.read_values.Given as goal

abbrev pub invariant-loop-x : goal.invariant-loop-x
invariant-loop-x l =
    (length l.present ≡ length l.initial.present) × (length l.after ≡ length l.initial.after)
    × Rest (rows_of l.scanned.table.words.now) l.pressing l.e l.run l.initial.place.at (values_of l.initial.present l.initial.after) l.x l.place.at (values_of l.present l.after)

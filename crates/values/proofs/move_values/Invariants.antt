-- The loop's invariant: moving the variables behind x on gives what moving all of them gives.
use mathlib.Core.Path.{◌≡◌}
use lib.ListN.{length}
use Rattle.table.specs.Rows.{rows_of}
use Rattle.recording.specs.Replay.{move, moved}
use Rattle.values.specs.Values.{values_of}
use Rattle.values.proofs.Moving.{variables_from}
use Rattle.values.proofs.move_values.Given as goal

abbrev pub invariant-loop-x : goal.invariant-loop-x
invariant-loop-x l =
    (length l.present ≡ length l.initial.present) × (move (variables_from (rows_of l.table.words.now) l.x) (values_of l.present l.after) ≡ moved (rows_of l.table.words.now) (values_of l.initial.present l.after))

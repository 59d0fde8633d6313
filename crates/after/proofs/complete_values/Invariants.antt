-- The loop's invariant: completing the variables behind x on gives what completing all of them gives.
use mathlib.Core.Path.{◌≡◌}
use lib.ListN.{length}
use Rattle.table.specs.Rows.{rows_of}
use Rattle.values.specs.Values.{values_of}
use Rattle.values.proofs.Moving.{variables_from}
use Rattle.bench.specs.Press.{complete, completed}
use Rattle.after.proofs.complete_values.Given as goal

abbrev pub invariant-loop-x : goal.invariant-loop-x
invariant-loop-x l =
    let t = rows_of l.scanned.table.words.now in
    (length l.after ≡ length l.initial.after) × (complete t l.e (variables_from t l.x) (values_of l.present l.after) ≡ completed t l.e (values_of l.present l.initial.after))

-- The sequents written, held or printed, are those before the slot's (Walk).
use Rattle.std.proofs.Common.{◌≡◌, ◌<◌, length}
use Rattle.obligations.specs.Held.{Waits, written_to, enough}
use Rattle.obligations.proofs.Walk.{Walked}
use Rattle.obligations.proofs.print_sequents.Given as goal

abbrev pub invariant-loop-done : goal.invariant-loop-done
invariant-loop-done l = record {
  room : length l.out ≡ length l.initial.out;
  waits : Waits l.bytes l.batch l.out;
  few : l.batch.held < enough;
  walked : Walked l.bytes l.index.table.words.now l.count l.slot (written_to l.batch) l.done;
}

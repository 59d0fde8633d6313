-- The loop's invariant: the records before i are stored.
use Rattle.std.proofs.Common.{◌≡◌}
use Rattle.records.specs.Numbers.{stored}
use Rattle.records.proofs.store_state.Given as goal

abbrev pub invariant-loop-i : goal.invariant-loop-i
invariant-loop-i l = l.state ≡ stored l.all l.i l.initial.state

-- The loop's invariant: the records before i are loaded.
use Rattle.std.proofs.Common.{◌≡◌}
use Rattle.records.specs.Numbers.{loaded}
use Rattle.records.proofs.load_state.Given as goal

abbrev pub invariant-loop-i : goal.invariant-loop-i
invariant-loop-i l = l.all ≡ loaded l.i l.state

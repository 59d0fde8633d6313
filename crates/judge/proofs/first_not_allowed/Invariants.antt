-- The loop's invariant: no identifier up to x has a fault.
use Prim.Native.Nat.{◌+◌}
use Rattle.table.specs.Rows.{rows_of}
use Rattle.judge.specs.Judge.{variable_fault}
use Rattle.judge.proofs.Faults.{NoneFrom}
use Rattle.judge.proofs.first_not_allowed.Given as goal

abbrev pub invariant-loop-x : goal.invariant-loop-x
invariant-loop-x l = NoneFrom (variable_fault (rows_of l.scanned.table.words.now) l.present l.after l.e) 1 (l.x + 1)

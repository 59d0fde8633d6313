-- The loop's invariant: no row before i has a fault; and no row outside the span of the tag has one.
use Rattle.table.specs.Rows.{rows_of}
use Rattle.judge.specs.Judge.{row_fault}
use Rattle.judge.proofs.Faults.{NoneFrom}
use Rattle.judge.proofs.first_untrue.Given as goal

abbrev pub invariant-loop-i : goal.invariant-loop-i
invariant-loop-i l = NoneFrom (row_fault (rows_of l.scanned.table.words.now) l.present l.tag l.e) 0 l.i

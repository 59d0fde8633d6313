-- The loop's invariant: the rows of the hypotheses before the place are written, and the place is that of one or the end (Written).
use Prim.Native.Nat.{◌-◌}
use Rattle.table.specs.Rows.{rows_of}
use Rattle.entries.specs.Sequent.{hypothesis_count}
use Rattle.entries.specs.Seek.{hypotheses_before}
use Rattle.entries.proofs.Written.{Progress}
use Rattle.entries.proofs.write_hypotheses.Given as goal

abbrev pub invariant-loop-cursor : goal.invariant-loop-cursor
invariant-loop-cursor l = Progress (rows_of l.index.table.words.now) l.slot l.initial.out l.out l.cursor l.at

abbrev pub decreases-loop-cursor : goal.decreases-loop-cursor
decreases-loop-cursor l =
    hypothesis_count (rows_of l.index.table.words.now) l.slot - hypotheses_before (rows_of l.index.table.words.now) l.slot l.cursor

-- The loop's invariant: the actions of the rows before i are noted.
use Rattle.table.specs.Rows.{rows_of}
use Rattle.scan.specs.Spans.{SpannedTo, ActionsTo}
use Rattle.scan.proofs.fill_actions.Given as goal

abbrev pub invariant-loop-i : goal.invariant-loop-i
invariant-loop-i l =
    SpannedTo (rows_of l.words) (rows_of l.words).size l.spans × ActionsTo (rows_of l.words) l.i l.spans

-- The loop's invariant: the numbers are the spans of the rows before i, and no action is noted.
use Rattle.table.specs.Rows.{rows_of}
use Rattle.scan.specs.Spans.{SpannedTo, ActionsTo}
use Rattle.scan.proofs.fill_tags.Given as goal

abbrev pub invariant-loop-i : goal.invariant-loop-i
invariant-loop-i l =
    SpannedTo (rows_of l.words) l.i l.spans × ActionsTo (rows_of l.words) 0 l.spans

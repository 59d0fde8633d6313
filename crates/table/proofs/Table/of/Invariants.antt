-- The loop's invariant: the counts are those of the rows before i.
use mathlib.Core.Path.{◌≡◌}
use Rattle.table.specs.Rows.{rows_of}
use Rattle.table.specs.Counts.{counts_to}
use Rattle.table.proofs.Table.of.Given as goal

abbrev pub invariant-loop-i : goal.invariant-loop-i
invariant-loop-i l = l.table ≡ counts_to (rows_of l.words) l.i

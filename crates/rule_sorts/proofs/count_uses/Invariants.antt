-- The loop's invariant: the numbers are the uses at the rows before i.
use Rattle.table.specs.Rows.{rows_of}
use Rattle.rule_sorts.specs.Uses.{UsedTo}
use Rattle.rule_sorts.proofs.count_uses.Given as goal

abbrev pub invariant-loop-i : goal.invariant-loop-i
invariant-loop-i l = UsedTo (rows_of l.words) l.i l.uses

-- The loop's invariant: no row before i passes; and past the span none does.
use Rattle.lists.specs.Below.{NoneBelow}
use Rattle.table.specs.Rows.{rows_of}
use Rattle.scan.specs.Query.{passes_of}
use Rattle.scan.proofs.find_within.Given as goal

abbrev pub invariant-loop-i : goal.invariant-loop-i
invariant-loop-i l = NoneBelow (passes_of (rows_of l.words) l.query) l.i

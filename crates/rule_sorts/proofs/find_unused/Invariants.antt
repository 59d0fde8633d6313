-- The loop's invariant: no row before i offends.
use Rattle.lists.specs.Below.{NoneBelow}
use Rattle.table.specs.Rows.{rows_of}
use Rattle.rules.specs.Rules.{use_offends}
use Rattle.rule_sorts.proofs.find_unused.Given as goal

abbrev pub invariant-loop-i : goal.invariant-loop-i
invariant-loop-i l = NoneBelow (use_offends (rows_of l.table.words.now)) l.i

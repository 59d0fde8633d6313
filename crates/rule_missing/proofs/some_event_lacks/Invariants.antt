-- The loop's invariant: no row before i is an event that lacks something; and past the events there is none.
use Rattle.lists.specs.Below.{NoneBelow}
use Rattle.table.specs.Rows.{rows_of}
use Rattle.rules.specs.Rules.{event_lacks}
use Rattle.rule_missing.proofs.some_event_lacks.Given as goal

abbrev pub invariant-loop-i : goal.invariant-loop-i
invariant-loop-i l = NoneBelow (event_lacks (rows_of l.scanned.table.words.now)) l.i

-- The loop's invariant: of no row before j the event lacks something; and past the identifiers there is none.
use Rattle.lists.specs.Below.{NoneBelow}
use Rattle.table.specs.Rows.{rows_of}
use Rattle.rules.specs.Rules.{lacks_for}
use Rattle.rule_missing.proofs.event_lacks.Given as goal

abbrev pub invariant-loop-j : goal.invariant-loop-j
invariant-loop-j l = NoneBelow (lacks_for (rows_of l.scanned.table.words.now) l.i) l.j

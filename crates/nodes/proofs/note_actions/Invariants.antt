-- The invariant: the actions of the rows before i are noted. Before the span of the actions and behind it there are none.
use Rattle.table.specs.Rows.{rows_of}
use Rattle.nodes.specs.Steps.{NotedTo}
use Rattle.nodes.proofs.note_actions.Given as goal

abbrev pub invariant-loop-i : goal.invariant-loop-i
invariant-loop-i l = NotedTo (rows_of l.words) 1 l.i l.spans

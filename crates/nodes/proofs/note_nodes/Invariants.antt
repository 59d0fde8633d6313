-- The invariant: the nodes below n are noted, and n is at most one more than the last, which is up to the limit.
use Prim.Native.Nat.{◌+◌, ◌≤◌}
use Rattle.table.specs.Rows.{rows_of}
use Rattle.nodes.specs.Steps.{NotedTo}
use Rattle.nodes.proofs.note_nodes.Given as goal

abbrev pub invariant-loop-n : goal.invariant-loop-n
invariant-loop-n l =
    (l.n ≤ l.last + 1) × NotedTo (rows_of l.table.words.now) l.n (rows_of l.table.words.now).size l.spans

-- The loop's invariant: the place that is sought is kept (Steps). Outside the span no row is of the selection (Selected).
use Prim.Native.Nat.{◌≤◌}
use mathlib.Core.Path.{◌≡◌}
use Rattle.table.specs.Rows.{rows_of}
use Rattle.select.specs.Each.{count_at}
use Rattle.select.specs.Sought.{place_of}
use Rattle.select.proofs.Steps.{sought}
use Rattle.select.proofs.seek_row.Given as goal

abbrev pub invariant-loop-row : goal.invariant-loop-row
invariant-loop-row l =
    (l.row ≤ l.end) × (place_of (count_at (rows_of l.index.table.words.now) l.rows l.each) (sought l.row l.left) ≡ place_of (count_at (rows_of l.index.table.words.now) l.rows l.each) (sought l.start l.initial.left))

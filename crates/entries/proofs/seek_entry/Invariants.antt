-- The loop's invariant: the place stands in the walk, and no hypothesis is lost on the way to it (Seek).
use Prim.Native.Nat.{◌+◌, ◌-◌}
use mathlib.Core.Path.{◌≡◌}
use Rattle.table.specs.Rows.{rows_of}
use Rattle.segments.specs.Segments.{segments}
use Rattle.entries.specs.Seek.{Stands, hypotheses_before}
use Rattle.entries.proofs.seek_entry.Given as goal

abbrev pub invariant-loop-cursor : goal.invariant-loop-cursor
invariant-loop-cursor l =
    Stands (rows_of l.index.table.words.now) l.slot l.cursor × (hypotheses_before (rows_of l.index.table.words.now) l.slot l.cursor + l.cursor.left ≡ hypotheses_before (rows_of l.index.table.words.now) l.slot l.initial.cursor + l.initial.cursor.left)

abbrev pub decreases-loop-cursor : goal.decreases-loop-cursor
decreases-loop-cursor l = segments - l.cursor.segment

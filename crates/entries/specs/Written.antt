-- 01, Sequents: "rows 81 (hypotheses), row 82 (goal)" of a slot's sequent.
use Rattle.std.specs.Prelude.{ℕ, List, [], ◌∷◌, ◌++◌, map}
use Rattle.row.specs.declared.Row.{Row}
use Rattle.table.specs.Rows.{Rows}
use Rattle.sequent.specs.declared.Entry.{Entry as Numbers}
use Rattle.walk.specs.declared.Slot.{Slot}
use Rattle.reply.specs.Row.{row}
use Rattle.reply.specs.Printed.{entry_row}
use Rattle.segments.specs.Segments.{hypothesis_walk}
use Rattle.entries.specs.Sequent.{goal_at}

-- the row of an entry as the code holds it
abbrev pub numbers_row : ℕ → Numbers → Row
numbers_row tag n = row tag n.form n.first n.second

module _ (t : Rows) (s : Slot) where
  unfoldable pub hypothesis_rows : List Row
  hypothesis_rows = map (entry_row 81) (hypothesis_walk t s)

  unfoldable pub entry_rows : List Row
  entry_rows = hypothesis_rows ++ (entry_row 82 (goal_at t s) ∷ [])

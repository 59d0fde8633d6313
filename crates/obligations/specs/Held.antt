-- Bytes of the output that wait to be printed, in front of a buffer with room for one sequent more.
use Rattle.std.specs.Prelude.{ℕ, ◌+◌, ◌*◌, ◌≤◌, List, length, take}
use Rattle.row.specs.Row.{width, row_length}
use Rattle.segments.specs.Segments.{segments}
use Rattle.obligations.specs.declared.Batch.{Batch}
use Rattle.obligations.specs.Output.{StandsAt}

-- what is held stands in the output where the printer does
pub record Waits (bytes : List ℕ) (b : Batch) (out : List ℕ) : Type 0 where
  pub within : b.held ≤ length out
  pub stands : StandsAt bytes b.printer.at (take b.held out)

-- where it ends
abbrev pub written_to : Batch → ℕ
written_to b = b.printer.at + b.held

-- so many bytes are enough to be printed at once
abbrev pub enough : ℕ
enough = 65536

-- room for fewer, and behind them a sequent of a table of so many rows: its rows 80 and 84, its hypotheses, of which a segment has at most one a row, and its goal
abbrev pub room : ℕ → ℕ
room rows = enough + row_length width * (3 + segments * rows)

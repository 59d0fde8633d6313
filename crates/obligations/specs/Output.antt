-- 01, Sequents: "A program reads a table from standard input and prints all sequents, or one row 89 (refusal, row, 0)." The part of this output that is printed next.
use Rattle.std.specs.Prelude.{ℕ, ◌+◌, ◌≤◌, ◌≡◌, List, length, take, drop}
use Rattle.table.specs.Rows.{Rows}
use Rattle.machine.specs.Described.{machine_of}
use Rattle.walk.specs.declared.Slot.{Slot}
use Rattle.reply.specs.Printed.{sequent_rows, rows_bytes}
use Rattle.reply.specs.Replies.{output}
use Rattle.entries.specs.Sequent.{slot_sequent}

-- the part stands in the output for these bytes, from this place on
pub record StandsAt (bytes : List ℕ) (at : ℕ) (part : List ℕ) : Type 0 where
  pub within : at + length part ≤ length (output bytes)
  pub same : part ≡ take (length part) (drop at (output bytes))

-- the rows of a slot's sequent
abbrev pub slot_bytes : Rows → Slot → List ℕ
slot_bytes t s = rows_bytes (sequent_rows (machine_of t) (slot_sequent t s))

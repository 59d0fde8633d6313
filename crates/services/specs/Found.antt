-- Where a service finds its sequent, and what it leaves.
use Rattle.std.specs.Prelude.{ℕ, ◌<◌, ◌≡◌, List, ◌∷◌, Result}
use Rattle.lists.specs.All.{In}
use Rattle.table.specs.Rows.{Rows}
use Rattle.machine.specs.Machine.{Machine}
use Rattle.machine.specs.Described.{machine_of}
use Rattle.sequent.specs.Entry.{formula}
use Rattle.sequent.specs.Sequent.{Sequent}
use Rattle.sequent.specs.Listed.{sequents}
use Rattle.rules.specs.declared.Refusal.{Refusal}
use Rattle.rules.specs.Verdict.{Passes}
use Rattle.row.specs.declared.Row.{Row}
use Rattle.walk.specs.declared.Slot.{Slot}
use Rattle.walk.specs.Headers.{header_kind, header_item}
use Rattle.entries.specs.Sequent.{goal_at, slot_sequent}
use Rattle.entries.specs.Written.{entry_rows}
use Rattle.reply.specs.Row.{row}
use Rattle.reply.specs.Spelled.{spell}
use Rattle.reply.specs.Printed.{identifiers_in, mentioned_row, sequent_rows}
use Rattle.reply.specs.Replies.{Outcome, write_rows, sequent_at, with_sequent, spell_at}
use Rattle.services.specs.declared.Request.{Request}
use Rattle.services.specs.declared.Request.TheVariants as request

abbrev pub outcome : Result ℕ Refusal → List ℕ → Outcome
outcome r out = record { reply = r; buffer = out }

-- "row 80 (kind, event or 0, item)"
abbrev pub header_row : Rows → Slot → Row
header_row t s = row 80 (header_kind t s.event s.group s.row s.left) s.event (header_item t s.event s.group s.row s.left)

-- row 84 of its goal, spelled out, and the rows after row 80
abbrev pub goal_row : Rows → Slot → Row
goal_row t s = mentioned_row (identifiers_in (spell (formula (machine_of t) (goal_at t s))))

unfoldable pub rest_rows : Rows → Slot → List Row
rest_rows t s = goal_row t s ∷ entry_rows t s

-- a slot of a table that passes all checks whose sequent is listed
abbrev pub ListedSlot : Rows → Slot → Type 0
ListedSlot t s = Passes t × In (slot_sequent t s) (sequents (machine_of t))

-- a slot that holds sequent k
pub record Located (t : Rows) (k : ℕ) (s : Slot) : Type 0 where
  pub row : s.row < t.size
  pub holds : sequent_at (sequents (machine_of t)) k ≡ slot_sequent t s
  pub listed : ListedSlot t s

-- what is asked of a sequent of the machines m, and of sequent k
abbrev pub serve_at : Machine → Request → List ℕ → Sequent → Outcome
serve_at m request.Write out s = write_rows (sequent_rows m s) out
serve_at m (request.Spell j) out s = spell_at m s j out

abbrev pub serve_by : Machine → Result ℕ Refusal → ℕ → Request → List ℕ → Outcome
serve_by m v k request out = with_sequent m v k out (serve_at m request out)

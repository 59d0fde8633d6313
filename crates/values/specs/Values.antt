-- How the code reads the rows 91 of a step: from a place in the run, identifier by identifier.
use Rattle.std.specs.Prelude.{◌≡◌, Result, Ok, Err, Bool, not, ◌&&◌, ◌||◌, List, [], ◌∷◌, ◌++◌, ◌⊎◌, ℕ, ◌+◌, ◌*◌, ◌/◌, ◌≤◌, ℤ, length, drop}
use Rattle.lists.specs.Choice.{pick}
use Rattle.lists.specs.Below.{one_if, numbers, keep}
use Rattle.row.specs.Row.{width, row_length}
use Rattle.row.specs.Reading.{Line}
use Rattle.table.specs.Names.{identifier_tag}
use Rattle.table.specs.Rows.{Rows, count}
use Rattle.machine.specs.Described.{action_of}
use Rattle.recording.specs.Lines.{lines}
use Rattle.recording.specs.Rows.{is_state_variable, is_given}
use Rattle.recording.specs.Replay.{Values, Found, bad, read_values}
use Rattle.bench.specs.Choice.{is_such_that}
use Rattle.row.specs.declared.Place.{Place}
use Rattle.values.specs.declared.BadRow.{BadRow}

-- where reading goes on, or the row that is bad
abbrev pub Reached : Type 0
Reached = Result Place BadRow

abbrev pub values_of : List ℤ → List ℤ → Values
values_of present after = record { present = present; after = after }

-- the rows from a place on, and the number of the first of them
abbrev pub lines_at : List ℕ → ℕ → List Line
lines_at run at = lines (drop at run)

abbrev pub row_at : ℕ → ℕ
row_at at = at / row_length width + 1

-- So many rows from a place on are at hand, or nothing follows the bytes that are.
abbrev pub AtHand : List ℕ → ℕ → ℕ → List ℕ → Type 0
AtHand run at rows more = (at + row_length width * rows ≤ length run) ⊎ (more ≡ [])

module _ (t : Rows) where
  -- a variable whose after value the rows tell: in a log each, in a choice for a press those of 52 actions
  abbrev pub is_told : Bool → ℕ → ℕ → Bool
  is_told pressing e x = (not pressing || is_such_that (action_of t e x)) && is_state_variable t x

  -- an identifier with a row 91
  abbrev pub is_wanted : Bool → ℕ → ℕ → Bool
  is_wanted pressing e x = is_given t e x || is_told pressing e x

  unfoldable pub wanted : Bool → ℕ → List ℕ
  wanted pressing e = keep (is_wanted pressing e) (numbers (count t identifier_tag) 1)

  -- what reading on for the identifiers ys finds
  unfoldable pub read_on : Reached → ℕ → List ℕ → List ℕ → Values → Found
  read_on (Ok place) e ys run vs = read_values t e ys (row_at place.at) (lines_at run place.at) vs
  read_on (Err wrong) e ys run vs = bad wrong.row

  -- reading the row 91 of the identifier x at a place, of which is known whether it is given, and reading on; more bytes may follow
  abbrev pub ReadsValue : Bool → ℕ → List ℕ → ℕ → Values → Reached → Values → Type 0
  ReadsValue given x run at vs r ws =
      (more : List ℕ) → AtHand run at 1 more → (e : ℕ) → given ≡ is_given t e x → (ys : List ℕ)
      → read_on r e ys (run ++ more) ws ≡ read_values t e (x ∷ ys) (row_at at) (lines_at (run ++ more) at) vs

  -- the same of an identifier that may have none
  abbrev pub ReadsIdentifier : Bool → ℕ → ℕ → List ℕ → ℕ → Values → Reached → Values → Type 0
  ReadsIdentifier pressing e x run at vs r ws =
      (more : List ℕ) → AtHand run at (one_if (is_wanted pressing e x)) more → (ys : List ℕ)
      → read_on r e ys (run ++ more) ws ≡ read_values t e (pick (is_wanted pressing e x) (x ∷ ys) ys) (row_at at) (lines_at (run ++ more) at) vs

  -- the same of the identifiers xs of an event
  abbrev pub ReadsValues : ℕ → List ℕ → List ℕ → ℕ → Values → Reached → Values → Type 0
  ReadsValues e xs run at vs r ws =
      (more : List ℕ) → AtHand run at (length xs) more → read_on r e [] (run ++ more) ws ≡ read_values t e xs (row_at at) (lines_at (run ++ more) at) vs

-- where reading goes on, it is at this byte of the run
abbrev pub Reaches : Reached → List ℕ → ℕ → Type 0
Reaches (Ok place) run at = (place.at ≡ at) × (place.at ≤ length run)
Reaches (Err wrong) run at = Unit {0}

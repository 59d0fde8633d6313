-- 01, Refusals, of the services besides check: when a call is refused and with what, and what a success leaves in the buffer. A relation; that the services
-- answer by it is a law.
use Rattle.std.specs.Prelude.{ℕ, ◌-◌, ◌≤◌, ◌<◌, ◌≡◌, List, length, get_or, Ok, Err}
use Rattle.lists.specs.Over.{over}
use Rattle.row.specs.declared.Row.{Row}
use Rattle.sequent.specs.Entry.{written, formula}
use Rattle.sequent.specs.Sequent.{Sequent}
use Rattle.sequent.specs.Listed.{sequents}
use Rattle.rules.specs.Refusal.{refused as refusal_of}
use Rattle.rules.specs.Verdict.{verdict as verdict_of}
use Rattle.rules.specs.Offence.{machine}
use Rattle.reply.specs.Printed.{sequent_rows, rows_bytes}
use Rattle.reply.specs.Spelled.{spell}
use Rattle.reply.specs.Replies.{Outcome, refused, sequent_at, entries, write_sequent, spell_entry}

-- "write sequent k, spell entry j of sequent k (goal last)"
pub data Call : Type 0 where
  writing : (k : ℕ) → Call
  spelling : (k j : ℕ) → Call

abbrev pub asked : Call → ℕ
asked (writing k) = k
asked (spelling k j) = k

-- k is one of 1 to n
abbrev pub OneOf : ℕ → ℕ → Type 0
OneOf n k = (1 ≤ k) × (k ≤ n)

module _ (bytes : List ℕ) where
  abbrev pub sequent_asked : Call → Sequent
  sequent_asked q = sequent_at (sequents (machine bytes)) (asked q)

  abbrev pub EntryThere : Call → Type 0
  EntryThere (writing k) = Unit {0}
  EntryThere (spelling k j) = OneOf (length (entries (sequent_asked (spelling k j)))) j

  -- the rows that are asked for
  abbrev pub rows_asked : Call → List Row
  rows_asked (writing k) = sequent_rows (machine bytes) (sequent_asked (writing k))
  rows_asked (spelling k j) = spell (formula (machine bytes) (get_or (entries (sequent_asked (spelling k j))) (j - 1) (written 0)))

  abbrev pub outcome_of : Call → List ℕ → Outcome
  outcome_of (writing k) out = write_sequent bytes k out
  outcome_of (spelling k j) out = spell_entry bytes k j out

-- 01, Refusals: when a call is refused, with which number and row
pub data Refusal (bytes : List ℕ) (q : Call) (out : List ℕ) : ℕ → ℕ → Type 0 where
  -- 1 to 12: the table is refused
  of_table : {c r : ℕ} → verdict_of bytes ≡ Err (refusal_of c r) → Refusal bytes q out c r
  -- 13 sequent: "k not in 1 to the count; row 0"
  no_sequent_there : (n : ℕ) → verdict_of bytes ≡ Ok n → ¬ OneOf n (asked q) → Refusal bytes q out 13 0
  -- 14 entry: "j not in 1 to the entries; row 0"
  no_entry : (n : ℕ) → verdict_of bytes ≡ Ok n → OneOf n (asked q) → ¬ EntryThere bytes q → Refusal bytes q out 14 0
  -- 15 room: "buffer shorter than the rows; row 0"
  no_room : (n : ℕ) → verdict_of bytes ≡ Ok n → OneOf n (asked q) → EntryThere bytes q → length out < length (rows_bytes (rows_asked bytes q))
      → Refusal bytes q out 15 0

-- "Nothing is written on a refusal; on success bytes past the written rows keep their values."
pub data Answer (bytes : List ℕ) (q : Call) (out : List ℕ) : Outcome → Type 0 where
  refusal : {c r : ℕ} → Refusal bytes q out c r → Answer bytes q out (refused c r out)
  success : (n : ℕ) → verdict_of bytes ≡ Ok n → OneOf n (asked q) → EntryThere bytes q → length (rows_bytes (rows_asked bytes q)) ≤ length out
      → Answer bytes q out (record { reply = Ok (length (rows_asked bytes q)); buffer = over (rows_bytes (rows_asked bytes q)) out })

-- 01, Sequents: "The services are: check (accepts a table by giving the count of sequents), write sequent k, spell entry j of sequent k (goal last). A
-- program reads a table from standard input and prints all sequents, or one row 89 (refusal, row, 0)." check is `verdict`.
use Rattle.std.specs.Prelude.{ℕ, ◌-◌, Bool, ◌&&◌, leb, ltb, length, get_or, Result, Ok, Err}
use mathlib.Core.List.{List, [], ◌∷◌, ◌++◌, flat_map}
use Rattle.lists.specs.Choice.{pick}
use Rattle.lists.specs.Over.{over}
use Rattle.row.specs.declared.Row.{Row}
use Rattle.row.specs.Row.{row_bytes, width}
use Rattle.machine.specs.Machine.{Machine}
use Rattle.sequent.specs.Entry.{Entry, written, formula}
use Rattle.sequent.specs.Sequent.{Sequent, sequent}
use Rattle.sequent.specs.Listed.{sequents}
use Rattle.rules.specs.declared.Refusal.{Refusal}
use Rattle.rules.specs.Refusal.{refused as refusal}
use Rattle.rules.specs.Verdict.{verdict as verdict_of}
use Rattle.rules.specs.Offence.{machine}
use Rattle.reply.specs.Row.{row}
use Rattle.reply.specs.Printed.{sequent_rows, rows_bytes}
use Rattle.reply.specs.Spelled.{spell}

-- a reply, and what the caller's buffer holds afterwards
pub record Outcome : Type 0 where
  pub reply : Result ℕ Refusal
  pub buffer : List ℕ

-- "Nothing is written on a refusal"
abbrev pub refused : ℕ → ℕ → List ℕ → Outcome
refused number at out = record { reply = Err (refusal number at); buffer = out }

-- "on success bytes past the written rows keep their values"; refusal 15, room: "buffer shorter than the rows"
unfoldable pub write_rows : List Row → List ℕ → Outcome
write_rows rs out =
    pick (ltb (length out) (length (rows_bytes rs))) (refused 15 0 out) (record { reply = Ok (length rs); buffer = over (rows_bytes rs) out })

-- k is one of 1 to n
abbrev pub among : ℕ → ℕ → Bool
among k n = leb 1 k && leb k n

-- the k-th of a list that has one
abbrev pub sequent_at : List Sequent → ℕ → Sequent
sequent_at ss k = get_or ss (k - 1) (sequent 0 0 0 [] (written 0))

abbrev pub entries : Sequent → List Entry
entries s = s.hypotheses ++ (s.goal ∷ [])

module _ (m : Machine) where
  -- refusal 13, sequent: "k not in 1 to the count"
  abbrev pub with_sequent : Result ℕ Refusal → ℕ → List ℕ → (Sequent → Outcome) → Outcome
  with_sequent (Err r) k out f = refused r.number r.row out
  with_sequent (Ok n) k out f = pick (among k n) (f (sequent_at (sequents m) k)) (refused 13 0 out)

  -- write sequent k, by the verdict
  abbrev pub write_by : Result ℕ Refusal → ℕ → List ℕ → Outcome
  write_by v k out = with_sequent v k out (λ s. write_rows (sequent_rows m s) out)

  -- the bytes of sequent k: what write sequent writes
  abbrev pub sequent_bytes : ℕ → List ℕ
  sequent_bytes k = rows_bytes (sequent_rows m (sequent_at (sequents m) k))

  -- refusal 14, entry: "j not in 1 to the entries"
  abbrev pub spell_at : Sequent → ℕ → List ℕ → Outcome
  spell_at s j out =
      pick (among j (length (entries s))) (write_rows (spell (formula m (get_or (entries s) (j - 1) (written 0)))) out) (refused 14 0 out)

  -- spell entry j of sequent k, by the verdict
  abbrev pub spell_by : Result ℕ Refusal → ℕ → ℕ → List ℕ → Outcome
  spell_by v k j out = with_sequent v k out (λ s. spell_at s j out)

  -- what the program prints, by the verdict
  abbrev pub printed : Result ℕ Refusal → List ℕ
  printed (Err r) = row_bytes width (row 89 r.number r.row 0)
  printed (Ok n) = rows_bytes (flat_map (sequent_rows m) (sequents m))

module _ (bytes : List ℕ) where
  unfoldable pub write_sequent : ℕ → List ℕ → Outcome
  write_sequent k out = write_by (machine bytes) (verdict_of bytes) k out

  unfoldable pub spell_entry : ℕ → ℕ → List ℕ → Outcome
  spell_entry k j out = spell_by (machine bytes) (verdict_of bytes) k j out

  unfoldable pub output : List ℕ
  output = printed (machine bytes) (verdict_of bytes)

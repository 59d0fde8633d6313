-- The walk from sequent to sequent: where the slot is that of the next sequent, its rows are what the output goes on with, and a search that goes on from it
-- comes to the one after. And how long the rows of a sequent are.
use Prim.Native.Nat.{ℕ, ◌+◌, ◌*◌, ◌≤◌, ◌<◌}
use mathlib.Core.Path.{◌≡◌, sym, ap, ◌∙◌, subst}
use mathlib.Core.List.{List}
use mathlib.Core.Logic.{◌⊎◌, inl, inr}
use native.Mathlib.Omega.{arith}
use lib.ListN.{length}
use Rattle.std.specs.Prelude.{Ok}
use Rattle.table.specs.Rows.{Rows, rows_of}
use Rattle.machine.specs.Described.{machine_of}
use Rattle.sequent.specs.Listed.{sequents}
use Rattle.rules.specs.Decoded.{words_of}
use Rattle.rules.specs.Verdict.{Passes, judge, verdict}
use Rattle.rules.proofs.Cases.{judge_passes, judged_count}
use Rattle.rules.proofs.Obeys.{passes_obeys}
use Rattle.rules.specs.Offence.{machine}
use Rattle.walk.specs.declared.Slot.{Slot}
use Rattle.walk.specs.Slots.{slot_at, Within, AtEnd, Holds, InWalk, position, SoughtSlot}
use Rattle.walk.proofs.Find.{walk_count_lem, slot_at_most}
use Rattle.walk.proofs.Counts.{start_within, start_position, passed_end}
use Rattle.entries.specs.Sequent.{hypothesis_count}
use Rattle.verdict.proofs.Filled.{accepted_words}
use Rattle.reply.specs.Printed.{sequent_rows, rows_bytes}
use Rattle.reply.specs.Replies.{sequent_bytes}
use Rattle.reply.proofs.Printed.{rows_length}
use Rattle.services.specs.Found.{ListedSlot, Located}
use Rattle.services.proofs.Found.{sought_located}
use Rattle.services.proofs.Slots.{rows_count}
use Rattle.obligations.specs.Output.{StandsAt, slot_bytes}
use Rattle.obligations.proofs.Stands.{rows_end_of, rows_none, rows_next, sequent_stands}

-- the sequents 1 to p are written, and the slot is where the search for the next ends
pub record Walked (bytes words : List ℕ) (n : ℕ) (s : Slot) (at p : ℕ) : Type 0 where
  pub within : p ≤ n
  pub slot : SoughtSlot (rows_of words) p s
  pub place : at ≡ rows_end_of bytes p

-- what a turn of the walk needs of the slot, and what it comes to
pub record Turn (bytes words : List ℕ) (n : ℕ) (s : Slot) (at p : ℕ) : Type 0 where
  pub row : s.row < (rows_of words).size
  pub left : s.left < 2
  pub stands : StandsAt bytes at (slot_bytes (rows_of words) s)
  pub listed : ListedSlot (rows_of words) s
  pub goes_on : {r : Slot} → r ≡ slot_at s.event s.group s.row (s.left + 1) → InWalk (rows_of words) r
  pub next : {r s' : Slot} {at' : ℕ} → r ≡ slot_at s.event s.group s.row (s.left + 1) → SoughtSlot (rows_of words) (position (rows_of words) r) s'
      → at' ≡ at + length (slot_bytes (rows_of words) s) → Walked bytes words n s' at' (p + 1)

-- a search for the first sequent starts in the walk
pub first_within : (t : Rows) {r : Slot} → r ≡ slot_at 0 0 0 0 → InWalk t r
first_within t q = inl (subst (Within t) (sym q) (start_within t 0))

-- how many bytes the rows of a slot's sequent are
pub slot_length : (t : Rows) (s : Slot) → length (slot_bytes t s) ≡ 38 * (3 + hypothesis_count t s)
slot_length t s = rows_length _ ∙ ap (λ n. 38 * n) (rows_count t s)

module _ (bytes words : List ℕ) (n : ℕ) (read : words ≡ words_of bytes) (accepted : verdict bytes ≡ Ok n) where
  abbrev t : Rows
  t = rows_of words

  judged : judge t ≡ Ok n
  judged = ap (λ ws. judge (rows_of ws)) read ∙ (accepted_words bytes n accepted).0

  passes : Passes t
  passes = judge_passes t n judged

  counted : n ≡ length (sequents (machine_of t))
  counted = judged_count t n judged

  pub first_walked : {r s : Slot} {at : ℕ} → r ≡ slot_at 0 0 0 0 → SoughtSlot t (position t r) s → at ≡ 0 → Walked bytes words n s at 0
  first_walked {r} {s} q h e =
      record { within = omega arith; slot = subst (λ k. SoughtSlot t k s) (ap (position t) q ∙ start_position t 0) h; place = e ∙ sym (rows_none bytes) }

  module _ {s : Slot} {at p : ℕ} (low : p < n) (w : Walked bytes words n s at p) where
    -- the slot holds a sequent
    holds : Holds t s
    holds = by_place w.slot.1
      where
        by_place : Holds t s ⊎ AtEnd t s → Holds t s
        by_place (inl h) = h
        by_place (inr x) = absurd (omega (arith, passed_end t p s w.slot.0 x, walk_count_lem t (passes_obeys t passes), counted))

    located : Located t (p + 1) s
    located = sought_located t passes p s (omega (arith, counted)) w.slot

    slot_rows : sequent_bytes (machine bytes) (p + 1) ≡ slot_bytes t s
    slot_rows =
        ap (λ ws. sequent_bytes (machine_of (rows_of ws)) (p + 1)) (sym read) ∙ ap (λ q. rows_bytes (sequent_rows (machine_of t) q)) located.holds

    pub turn : Turn bytes words n s at p
    turn = record {
      row = located.row;
      left = omega (arith, holds.left, slot_at_most t s.event s.group s.row);
      stands = subst (λ a. StandsAt bytes a (slot_bytes t s)) (sym w.place) (subst (StandsAt bytes (rows_end_of bytes p)) slot_rows (sequent_stands bytes n accepted p low));
      listed = located.listed;
      goes_on = λ {r} q. inl (subst (Within t) (sym q) (record { event = holds.event; group = holds.group; row = omega (arith, holds.row) }));
      next = λ {r} {s'} {at'} q h e. record {
        within = omega arith;
        slot = (let at : position t r ≡ p + 1 = ap (position t) q ∙ omega (arith, w.slot.0) in subst (λ k. SoughtSlot t k s') at h);
        place = e ∙ omega (arith, w.place, rows_next bytes p, ap length slot_rows);
      };
    }

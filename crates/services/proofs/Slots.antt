-- A slot's sequent as rows: row 80, row 84, then its entries; how many they are; and which entry is spelled.
use Prim.Native.Nat.{ℕ, zero, suc, ◌+◌, ◌-◌, ◌/◌, ◌≤◌, ◌<◌}
use mathlib.Core.Path.{◌≡◌, refl, sym, ap, ◌∙◌}
use mathlib.Core.Bool.{Bool, true, false, not, ◌&&◌, true≢false}
use mathlib.Core.List.{List, [], ◌∷◌, ◌++◌, map, flat_map}
use native.Mathlib.Omega.{arith}
use lib.Dec.{ltb, leb}
use lib.ListN.{length, get_or, length-append, length-map}
use borrow.Author.Tests.{lt-ltb, le-ltb, leb-true}
use Rattle.std.specs.Prelude.{Ok}
use Rattle.lists.specs.All.{All}
use Rattle.lists.specs.Over.{over}
use Rattle.lists.proofs.Choice.{chosen, not_chosen}
use Rattle.row.specs.declared.Row.{Row}
use Rattle.row.specs.Row.{row_bytes, width}
use Rattle.table.specs.Rows.{Rows}
use Rattle.machine.specs.Described.{machine_of}
use Rattle.sequent.specs.declared.Entry.{Entry as Numbers}
use Rattle.sequent.specs.Entry.{written, formula}
use Rattle.sequent.specs.Numbers.{numbers_of}
use Rattle.sequent.specs.Forms.{entry_of}
use Rattle.sequent.proofs.Numbers.{entry_of_numbers}
use Rattle.reply.specs.Printed.{entry_row, identifiers_in, mentioned_row, sequent_rows, rows_bytes}
use Rattle.reply.proofs.Mentioned.{identifiers_spelled, goal_identifiers}
use Rattle.reply.specs.Spelled.{spell}
use Rattle.reply.specs.Replies.{refused, write_rows, among, entries, spell_at}
use Rattle.segments.specs.Segments.{hypothesis_walk}
use Rattle.entries.specs.Sequent.{goal_at, slot_sequent, hypothesis_count}
use Rattle.entries.specs.Seek.{entry_at}
use Rattle.entries.specs.Written.{hypothesis_rows, entry_rows}
use Rattle.entries.proofs.Seek.{walk_length}
use Rattle.reply.proofs.Printed.{rows_length}
use Rattle.spell.specs.Spell.{entry_rows as spelled_rows}
use Rattle.walk.specs.declared.Slot.{Slot}
use Rattle.rules.proofs.Obeys.{passes_obeys}
use Rattle.sets.specs.Set.{set_of, Identifier}
use Rattle.sequent.proofs.Entries.{listed_made}
use Rattle.mentioned.specs.Mentioned.{entry_set}
use Rattle.mentioned.proofs.Mentioned.{entry_set_lem}
use Rattle.services.specs.Found.{header_row, goal_row, rest_rows, ListedSlot}

module _ (t : Rows) (s : Slot) where
  pub slot_bytes_lem : rows_bytes (sequent_rows (machine_of t) (slot_sequent t s)) ≡ row_bytes width (header_row t s) ++ rows_bytes (rest_rows t s)
  unfolding sequent_rows rows_bytes rest_rows entry_rows hypothesis_rows flat_map
  slot_bytes_lem = refl

  pub rest_bytes : rows_bytes (rest_rows t s) ≡ row_bytes width (goal_row t s) ++ rows_bytes (entry_rows t s)
  unfolding rows_bytes rest_rows flat_map
  rest_bytes = refl

  -- row 84, from the set of the goal
  pub goal_mentioned : ListedSlot t s → (goal : Numbers) → goal ≡ numbers_of (goal_at t s) → {r : Row}
      → ((xs : List ℕ) → All Identifier xs → entry_set t (entry_of goal) ≡ set_of xs → r ≡ mentioned_row xs) → r ≡ goal_row t s
  goal_mentioned (passes, listed) goal e f =
      let ok = passes_obeys t passes in
      f (identifiers_in (spell (formula (machine_of t) (goal_at t s)))) (goal_identifiers t ok listed)
      (ap (entry_set t) (ap entry_of e ∙ entry_of_numbers (goal_at t s))
      ∙ entry_set_lem t ok (goal_at t s) (listed_made (machine_of t) listed).goal
      ∙ ap set_of (sym (identifiers_spelled (formula (machine_of t) (goal_at t s)))))

  pub entries_count : length (entries (slot_sequent t s)) ≡ hypothesis_count t s + 1
  entries_count = length-append (hypothesis_walk t s) (goal_at t s ∷ []) ∙ ap (λ n. n + 1) (walk_length t s)

  pub rows_count : length (sequent_rows (machine_of t) (slot_sequent t s)) ≡ 3 + hypothesis_count t s
  unfolding sequent_rows
  rows_count =
      let rows : length (map (entry_row 81) (hypothesis_walk t s) ++ (entry_row 82 (goal_at t s) ∷ [])) ≡ hypothesis_count t s + 1 =
      length-append (map (entry_row 81) (hypothesis_walk t s)) (entry_row 82 (goal_at t s) ∷ []) ∙ ap (λ n. n + 1) (length-map (hypothesis_walk t s) (entry_row 81) ∙ walk_length t s) in
      omega (arith, rows)

  -- refusal 14, and the entry that is spelled
  pub no_entry : (j n : ℕ) (out : List ℕ) → n ≡ hypothesis_count t s + 1 → among j n ≡ false → spell_at (machine_of t) (slot_sequent t s) j out ≡ refused 14 0 out
  no_entry j n out e p = not_chosen (among j (length (entries (slot_sequent t s)))) _ _ (ap (among j) (entries_count ∙ sym e) ∙ p)

  pub an_entry : (j n : ℕ) (out : List ℕ) → n ≡ hypothesis_count t s + 1 → among j n ≡ true
      → spell_at (machine_of t) (slot_sequent t s) j out ≡ write_rows (spell (formula (machine_of t) (get_or (entries (slot_sequent t s)) (j - 1) (written 0)))) out
  an_entry j n out e p = chosen (among j (length (entries (slot_sequent t s)))) _ _ (ap (among j) (entries_count ∙ sym e) ∙ p)

  -- behind the hypotheses stands the goal
  last_entry : {A : Type 0} (xs : List A) (x d : A) (k : ℕ) → k ≤ length xs → get_or (xs ++ (x ∷ [])) k d ≡ get_or xs k x
  last_entry [] x d k h = let e : k ≡ 0 = omega arith in ap (λ k. get_or (x ∷ []) k d) e ∙ sym (ap (λ k. get_or [] k x) e)
  last_entry (y ∷ ys) x d zero h = refl
  last_entry (y ∷ ys) x d (suc k) h = last_entry ys x d k (omega arith)

  pub spelled_entry_lem : (j : ℕ) (entry : Numbers) → j - 1 ≤ hypothesis_count t s → entry ≡ numbers_of (entry_at t s (j - 1))
      → spell (formula (machine_of t) (get_or (entries (slot_sequent t s)) (j - 1) (written 0))) ≡ spelled_rows t entry
  unfolding spelled_rows
  spelled_entry_lem j entry h e =
      ap (λ x. spell (formula (machine_of t) x))
      (last_entry (hypothesis_walk t s) (goal_at t s) (written 0) (j - 1) (omega (arith, walk_length t s)) ∙ sym (ap entry_of e ∙ entry_of_numbers (entry_at t s (j - 1))))

-- whether rows have room, by their number
pub no_room : (rs : List Row) (out : List ℕ) → length out / 38 < length rs → write_rows rs out ≡ refused 15 0 out
unfolding write_rows
no_room rs out h = chosen (ltb (length out) (length (rows_bytes rs))) _ _ (lt-ltb (length out) (length (rows_bytes rs)) (omega (arith, rows_length rs)))

pub room : (rs : List Row) (out : List ℕ) → length rs ≤ length out / 38
    → write_rows rs out ≡ record { reply = Ok (length rs); buffer = over (rows_bytes rs) out }
unfolding write_rows
room rs out h = not_chosen (ltb (length out) (length (rows_bytes rs))) _ _ (le-ltb (length out) (length (rows_bytes rs)) (omega (arith, rows_length rs)))

both_true : (p q : Bool) → p && q ≡ true → (p ≡ true) × (q ≡ true)
both_true true q e = (refl, e)
both_true false q e = absurd (true≢false (sym e))

pub among_low : (j n : ℕ) → among j n ≡ true → 1 ≤ j
among_low j n e = leb-true 1 j (both_true (leb 1 j) (leb j n) e).0

pub among_high : (j n : ℕ) → among j n ≡ true → j ≤ n
among_high j n e = leb-true j n (both_true (leb 1 j) (leb j n) e).1

-- the code's test is the other way round
pub not_true : (b : Bool) → not b ≡ true → b ≡ false
not_true true e = sym e
not_true false e = refl

pub not_false : (b : Bool) → not b ≡ false → b ≡ true
not_false true e = refl
not_false false e = sym e

-- The services answer by 01's table of refusals, and only so: a call is refused with a number and a row iff the table says it, the buffer is then as it was,
-- and a success has written its rows over the start of the buffer, where they read back, and has kept the rest. By the cases of the definitions.
use Prim.Native.Nat.{ℕ, ◌+◌, ◌-◌, ◌*◌, ◌≤◌, ◌<◌}
use mathlib.Core.Path.{◌≡◌, refl, sym, ap, ◌∙◌, subst}
use mathlib.Core.Bool.{Bool, true, false, true≢false}
use mathlib.Core.List.{List}
use mathlib.Core.Logic.{◌↔◌, ◌⊎◌, inl, inr, ⊎_elim}
use native.Mathlib.Omega.{arith}
use borrow.Author.Tests.{ltb-true, ltb-false, lt-ltb}
use lib.Dec.{leb, ltb, leb→le, le→leb}
use lib.ListN.{length, get_or, drop}
use lib.Seq.{get_or-append-add, get_or-drop}
use Rattle.std.specs.Prelude.{Result, Ok, Err}
use Rattle.lists.specs.All.{All}
use Rattle.lists.specs.Choice.{pick}
use Rattle.lists.specs.Over.{over}
use Rattle.lists.proofs.Choice.{chosen, not_chosen}
use Rattle.lists.proofs.Over.{over_length}
use Rattle.formula.proofs.Truth.{and_split, and_join, test_true, true_test}
use Rattle.row.specs.declared.Row.{Row}
use Rattle.row.specs.declared.Read.TheVariants as read
use Rattle.row.specs.Row.{greatest, width, row_length, Writable}
use Rattle.row.specs.Reading.{read_at}
use Rattle.sequent.specs.Sequent.{Sequent}
use Rattle.rules.specs.declared.Refusal as rules
use Rattle.rules.specs.Refusal.{refused as refusal_of}
use Rattle.rules.specs.Decoded.{row_count}
use Rattle.rules.specs.Verdict.{verdict as verdict_of}
use Rattle.rules.specs.Offence.{machine}
use Rattle.rules.proofs.Refused.{refused_number, refused_inside, refused_row}
use Rattle.reply.specs.Printed.{rows_bytes}
use Rattle.reply.specs.Replies.{Outcome, refused, write_rows, among, entries, with_sequent, write_by, spell_at, spell_by, write_sequent, spell_entry}
use Rattle.reply.specs.Answers.{Call, writing, spelling, asked, OneOf, sequent_asked, EntryThere, rows_asked, outcome_of}
use Rattle.reply.specs.Answers.{Refusal, of_table, no_sequent_there, no_entry, no_room, Answer, refusal, success}
use Rattle.reply.proofs.Members.{sequent_listed, entry_listed}
use Rattle.reply.proofs.Printed.{rows_length}
use Rattle.reply.proofs.ReadBack.{rows_read_lem}
use Rattle.reply.proofs.Writable.{sequent_rows_writable, spelled_rows_writable}

among_one : (k n : ℕ) → among k n ≡ true → OneOf n k
among_one k n e = let s = and_split (leb 1 k) (leb k n) (true_test _ e) in (leb→le 1 k s.0, leb→le k n s.1)

one_among : (k n : ℕ) → OneOf n k → among k n ≡ true
one_among k n h = test_true _ (and_join (leb 1 k) (leb k n) (le→leb 1 k h.0) (le→leb k n h.1))

not_one : (k n : ℕ) → among k n ≡ false → ¬ OneOf n k
not_one k n e h = true≢false (sym (one_among k n h) ∙ e)

not_among : (k n : ℕ) → ¬ OneOf n k → among k n ≡ false
not_among k n h = go (among k n) refl
  where
    go : (b : Bool) → among k n ≡ b → among k n ≡ false
    go true e = absurd (h (among_one k n e))
    go false e = e

module _ (bytes : List ℕ) where
  -- enough room, or refusal 15
  rows_answered : (q : Call) (out : List ℕ) (n : ℕ) → verdict_of bytes ≡ Ok n → OneOf n (asked q) → EntryThere bytes q
      → Answer bytes q out (write_rows (rows_asked bytes q) out)
  unfolding write_rows
  rows_answered q out n v h e = go (ltb (length out) (length (rows_bytes (rows_asked bytes q)))) refl
    where
      go : (b : Bool) → ltb (length out) (length (rows_bytes (rows_asked bytes q))) ≡ b
          → Answer bytes q out (pick b (refused 15 0 out) (record { reply = Ok (length (rows_asked bytes q)); buffer = over (rows_bytes (rows_asked bytes q)) out }))
      go true p = refusal (no_room n v h e (ltb-true _ _ p))
      go false p = success n v h e (ltb-false _ _ p)

  -- the refusals of the table, then 13
  sequent_answered : (q : Call) (out : List ℕ) (f : Sequent → Outcome)
      → ((n : ℕ) → verdict_of bytes ≡ Ok n → OneOf n (asked q) → Answer bytes q out (f (sequent_asked bytes q)))
      → (v : Result ℕ rules.Refusal) → verdict_of bytes ≡ v → Answer bytes q out (with_sequent (machine bytes) v (asked q) out f)
  sequent_answered q out f g (Err r) e = refusal (of_table e)
  sequent_answered q out f g (Ok n) e = go (among (asked q) n) refl
    where
      go : (b : Bool) → among (asked q) n ≡ b → Answer bytes q out (pick b (f (sequent_asked bytes q)) (refused 13 0 out))
      go true p = g n e (among_one (asked q) n p)
      go false p = refusal (no_sequent_there n e (not_one (asked q) n p))

  pub answered : (q : Call) (out : List ℕ) → Answer bytes q out (outcome_of bytes q out)
  unfolding write_sequent spell_entry
  answered (writing k) out = sequent_answered (writing k) out _ (λ n v h. rows_answered (writing k) out n v h tt) (verdict_of bytes) refl
  answered (spelling k j) out = sequent_answered q out _ entry (verdict_of bytes) refl
    where
      q : Call
      q = spelling k j

      count : ℕ
      count = length (entries (sequent_asked bytes q))

      entry : (n : ℕ) → verdict_of bytes ≡ Ok n → OneOf n k → Answer bytes q out (spell_at (machine bytes) (sequent_asked bytes q) j out)
      entry n v h = go (among j count) refl
        where
          go : (b : Bool) → among j count ≡ b → Answer bytes q out (pick b (write_rows (rows_asked bytes q) out) (refused 14 0 out))
          go true p = rows_answered q out n v h (among_one j count p)
          go false p = refusal (no_entry n v h (not_one j count p))

  -- what the table of refusals says is what is answered
  refused_as : (q : Call) (out : List ℕ) {c r : ℕ} → Refusal bytes q out c r → outcome_of bytes q out ≡ refused c r out
  unfolding write_sequent spell_entry write_rows
  refused_as (writing k) out (of_table e) = ap (λ v. write_by (machine bytes) v k out) e
  refused_as (writing k) out (no_sequent_there n e h) =
      ap (λ v. write_by (machine bytes) v k out) e ∙ not_chosen (among k n) _ _ (not_among k n h)
  refused_as (writing k) out (no_entry n e h f) = absurd (f tt)
  refused_as (writing k) out (no_room n e h f l) =
      ap (λ v. write_by (machine bytes) v k out) e ∙ chosen (among k n) _ _ (one_among k n h) ∙ chosen (ltb (length out) _) _ _ (lt-ltb (length out) _ l)
  refused_as (spelling k j) out (of_table e) = ap (λ v. spell_by (machine bytes) v k j out) e
  refused_as (spelling k j) out (no_sequent_there n e h) =
      ap (λ v. spell_by (machine bytes) v k j out) e ∙ not_chosen (among k n) _ _ (not_among k n h)
  refused_as (spelling k j) out (no_entry n e h f) =
      ap (λ v. spell_by (machine bytes) v k j out) e ∙ chosen (among k n) _ _ (one_among k n h) ∙ not_chosen (among j _) _ _ (not_among j _ f)
  refused_as (spelling k j) out (no_room n e h f l) =
      ap (λ v. spell_by (machine bytes) v k j out) e ∙ chosen (among k n) _ _ (one_among k n h) ∙ chosen (among j _) _ _ (one_among j _ f)
      ∙ chosen (ltb (length out) _) _ _ (lt-ltb (length out) _ l)

  rows_writable : (q : Call) (n : ℕ) → verdict_of bytes ≡ Ok n → OneOf n (asked q) → EntryThere bytes q
      → All (Writable greatest width) (rows_asked bytes q)
  rows_writable (writing k) n v h e = sequent_rows_writable bytes n v (sequent_listed bytes n k v h.0 h.1).member
  rows_writable (spelling k j) n v h e =
      spelled_rows_writable bytes n v (sequent_listed bytes n k v h.0 h.1).member (entry_listed (sequent_asked bytes (spelling k j)) j e.0 e.1).member

-- what an answer says of the reply and of the buffer
module _ {bytes : List ℕ} {q : Call} {out : List ℕ} where
  answer_refused : {o : Outcome} → Answer bytes q out o → (c r : ℕ) → o.reply ≡ Err (refusal_of c r) → Refusal bytes q out c r × (o.buffer ≡ out)
  answer_refused (refusal {c = a} {r = b} h) c r e =
      let same : refusal_of a b ≡ refusal_of c r = cc in
      (subst (λ x. Refusal bytes q out x.number x.row) same h, refl)
  answer_refused (success n v h e l) c r p = absurd (let z : ◌≡◌ {A = ℕ} 0 1 = cc in omega arith)

  answer_length : {o : Outcome} → Answer bytes q out o → length o.buffer ≡ length out
  answer_length (refusal h) = refl
  answer_length (success n v h e l) = over_length (rows_bytes (rows_asked bytes q)) out l

  answer_count : {o : Outcome} → Answer bytes q out o → (n : ℕ) → o.reply ≡ Ok n → n ≡ length (rows_asked bytes q)
  answer_count (refusal h) n p = absurd (let z : ◌≡◌ {A = ℕ} 0 1 = cc in omega arith)
  answer_count (success m v h e l) n p = cc

  answer_rest : {o : Outcome} → Answer bytes q out o → (n : ℕ) → o.reply ≡ Ok n → (i : ℕ) → row_length width * n ≤ i
      → get_or o.buffer i 0 ≡ get_or out i 0
  unfolding over
  answer_rest (refusal h) n p i l = refl
  answer_rest (success m v h e room) n p i l =
      let rows : List Row = rows_asked bytes q in
      let same : n ≡ length rows = cc in
      let at : i ≡ length (rows_bytes rows) + (i - length (rows_bytes rows)) = omega (arith, rows_length rows) in
      ap (λ x. get_or (over (rows_bytes rows) out) x 0) at
      ∙ get_or-append-add (rows_bytes rows) (drop (length (rows_bytes rows)) out) (i - length (rows_bytes rows)) 0
      ∙ get_or-drop (length (rows_bytes rows)) out (i - length (rows_bytes rows)) 0
      ∙ ap (λ x. get_or out x 0) (sym at)

  answer_reads : {o : Outcome} → Answer bytes q out o → (n : ℕ) → o.reply ≡ Ok n → (d : Row) (i : ℕ) → i < n
      → read_at greatest width o.buffer (row_length width * i) ≡ read.Next (get_or (rows_asked bytes q) i d) (record { at = row_length width * i + row_length width })
  unfolding over
  answer_reads (refusal h) n p d i l = absurd (let z : ◌≡◌ {A = ℕ} 0 1 = cc in omega arith)
  answer_reads (success m v h e room) n p d i l =
      let rows : List Row = rows_asked bytes q in
      let same : n ≡ length rows = cc in
      rows_read_lem rows (drop (length (rows_bytes rows)) out) (rows_writable bytes q m v h e) d i (omega arith)

module _ (bytes : List ℕ) (q : Call) (out : List ℕ) where
  -- refused iff the table of refusals says so; no number is returned in another case
  pub refused_exactly : (c r : ℕ) → ((outcome_of bytes q out).reply ≡ Err (refusal_of c r)) ↔ Refusal bytes q out c r
  refused_exactly c r = (λ e. (answer_refused (answered bytes q out) c r e).0, λ h. ap (λ o. o.reply) (refused_as bytes q out h))

  -- "Nothing is written on a refusal"
  pub refused_buffer : (c r : ℕ) → (outcome_of bytes q out).reply ≡ Err (refusal_of c r) → (outcome_of bytes q out).buffer ≡ out
  refused_buffer c r e = (answer_refused (answered bytes q out) c r e).1

  -- the buffer keeps its length, and on success every byte past the written rows
  pub buffer_length : length (outcome_of bytes q out).buffer ≡ length out
  buffer_length = answer_length (answered bytes q out)

  pub written_count : (n : ℕ) → (outcome_of bytes q out).reply ≡ Ok n → n ≡ length (rows_asked bytes q)
  written_count n e = answer_count (answered bytes q out) n e

  pub bytes_past : (n : ℕ) → (outcome_of bytes q out).reply ≡ Ok n → (i : ℕ) → row_length width * n ≤ i
      → get_or (outcome_of bytes q out).buffer i 0 ≡ get_or out i 0
  bytes_past n e i h = answer_rest (answered bytes q out) n e i h

  -- the written rows, read from the buffer
  pub buffer_reads : (n : ℕ) → (outcome_of bytes q out).reply ≡ Ok n → (d : Row) (i : ℕ) → i < n
      → read_at greatest width (outcome_of bytes q out).buffer (row_length width * i)
      ≡ read.Next (get_or (rows_asked bytes q) i d) (record { at = row_length width * i + row_length width })
  buffer_reads n e d i h = answer_reads (answered bytes q out) n e d i h

  -- "row 0" at numbers 1 and 12 to 15, else a row of the table, counted from 1
  pub refusal_inside : {c r : ℕ} → Refusal bytes q out c r → r ≤ row_count bytes
  refusal_inside (of_table {c} {r} e) = refused_inside bytes c r e
  refusal_inside (no_sequent_there n e h) = omega arith
  refusal_inside (no_entry n e h f) = omega arith
  refusal_inside (no_room n e h f l) = omega arith

  pub refusal_row : {c r : ℕ} → Refusal bytes q out c r → (r ≡ 0) ↔ ((c ≡ 1) ⊎ (12 ≤ c))
  refusal_row (of_table {c} {r} e) =
      let n = refused_number bytes c r e in
      let z = refused_row bytes c r e in
      (λ p. ⊎_elim inl (λ h. inr (omega arith)) (z.0 p), λ h. z.1 (⊎_elim inl (λ l. inr (omega (arith, n.1))) h))
  refusal_row (no_sequent_there n e h) = (λ p. inr (omega arith), λ p. refl)
  refusal_row (no_entry n e h f) = (λ p. inr (omega arith), λ p. refl)
  refusal_row (no_room n e h f l) = (λ p. inr (omega arith), λ p. refl)

-- the numbers of write are 1 to 13 and 15, those of spell 1 to 15
pub write_number : (bytes : List ℕ) (k : ℕ) (out : List ℕ) {c r : ℕ} → Refusal bytes (writing k) out c r → ((1 ≤ c) × (c ≤ 13)) ⊎ (c ≡ 15)
write_number bytes k out (of_table {c} {r} e) = let n = refused_number bytes c r e in inl (n.0, omega (arith, n.1))
write_number bytes k out (no_sequent_there n e h) = inl (omega arith, omega arith)
write_number bytes k out (no_entry n e h f) = absurd (f tt)
write_number bytes k out (no_room n e h f l) = inr refl

pub spell_number : (bytes : List ℕ) (k j : ℕ) (out : List ℕ) {c r : ℕ} → Refusal bytes (spelling k j) out c r → (1 ≤ c) × (c ≤ 15)
spell_number bytes k j out (of_table {c} {r} e) = let n = refused_number bytes c r e in (n.0, omega (arith, n.1))
spell_number bytes k j out (no_sequent_there n e h) = (omega arith, omega arith)
spell_number bytes k j out (no_entry n e h f) = (omega arith, omega arith)
spell_number bytes k j out (no_room n e h f l) = (omega arith, omega arith)

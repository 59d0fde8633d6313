-- What is known once rows are read: the verdict goes on from there, and the words hold the rows' numbers.
use Prim.Native.Nat.{ℕ, zero, suc, ◌+◌, ◌*◌, ◌%◌, ◌≤◌, ◌<◌}
use mathlib.Core.Path.{◌≡◌, refl, ap, sym, ◌∙◌}
use mathlib.Core.Bool.{Bool, true, false, ◌&&◌, true≢false}
use mathlib.Core.List.{List}
use native.Mathlib.Omega.{arith}
use native.Mathlib.Numerals.{add-one}
use borrow.Author.Tests.{lt-leb, le-leb, leb-true, ne_eqb, ltb-true, ltb-false}
use lib.Dec.{ltb, leb, eqb}
use lib.ListN.{length, take, drop, length-append}
use lib.Seq.{take_at}
use Rattle.std.specs.Prelude.{Result, Ok, Err}
use Rattle.lists.specs.Choice.{pick}
use Rattle.lists.specs.Over.{over}
use Rattle.lists.proofs.Choice.{chosen, not_chosen}
use Rattle.lists.proofs.First.{first_least}
use Rattle.row.specs.Row.{width, row_length}
use Rattle.row.specs.Reading.{Line}
use Rattle.std.specs.Prelude.{Some, None, Result, Ok, Err}
use Rattle.rules.specs.Decoded.{framed, row_count, line_of, not_row, line_words, words_of, decoded}
use Rattle.rules.specs.declared.Refusal.{Refusal}
use Rattle.rules.specs.Refusal.{refused}
use Rattle.rules.specs.Verdict.{judge, verdict}
use Rattle.rules.proofs.Cases.{verdict_frame, verdict_column, verdict_judge}
use Rattle.decode.specs.declared.Malformed.{Malformed}
use Rattle.decode.specs.Decode.{first_bad, words_to, decoded_of}
use Rattle.decode.proofs.Words.{words_none, words_more}
use Rattle.verdict.specs.Loaded.{end_row, loaded_rows, loaded_of, loaded_words, judged}

refused_not_words : (number row n : ℕ) → ◌≡◌ {A = Result ℕ Refusal} (Err (refused number row)) (Ok n) → ⊥
refused_not_words number row n e = let z : ◌≡◌ {A = ℕ} 0 1 = cc in omega arith

abbrev words_in : Result ℕ Refusal → ℕ
words_in (Ok n) = n
words_in (Err r) = 0

module _ (bytes : List ℕ) where
  abbrev rows : ℕ
  rows = row_count bytes

  -- how decoding ends, by whether a row is not in the row form
  abbrev ended : Bool → Result ℕ Malformed
  ended b = pick b (Err (record { row = first_bad bytes rows })) (Ok rows)

  pub bad_at_most : first_bad bytes rows ≤ rows
  bad_at_most = omega (arith, (first_least (λ i. not_row (line_of bytes i)) rows 0).to)

  -- check 1
  frame_false : framed bytes ≡ false → loaded_of bytes ≡ Err (refused 1 0)
  unfolding loaded_of
  frame_false p = not_chosen (framed bytes) _ _ p

  and_false : (p q : Bool) → q ≡ false → p && q ≡ false
  and_false true q e = e
  and_false false q e = refl

  pub too_long : 65536 < length bytes → framed bytes ≡ false
  too_long h = ap (λ b. b && eqb (length bytes % row_length width) 0) (lt-leb (length bytes) 65536 h)

  pub torn : ¬ (length bytes % 38 ≡ 0) → framed bytes ≡ false
  torn h = and_false (leb (length bytes) 65536) (eqb (length bytes % 38) 0) (ne_eqb (length bytes % 38) 0 h)

  pub whole : length bytes ≤ 65536 → length bytes % 38 ≡ 0 → framed bytes ≡ true
  whole h e = ap (λ b. b && eqb (length bytes % 38) 0) (le-leb (length bytes) 65536 h) ∙ ap (λ n. eqb n 0) e

  -- what is answered and what the words hold, by check 1
  pub refused_frame : framed bytes ≡ false → (words : List ℕ) → (Err (refused 1 0) ≡ loaded_of bytes) × (words ≡ loaded_words bytes words)
  unfolding loaded_words
  refused_frame p words = (sym (frame_false p), sym (not_chosen (framed bytes) _ _ p))

  frame_true : framed bytes ≡ true → loaded_of bytes ≡ loaded_rows (decoded_of (first_bad bytes rows) rows)
  unfolding loaded_of
  frame_true p = chosen (framed bytes) _ _ p

  words_true : framed bytes ≡ true → (words : List ℕ) → loaded_words bytes words ≡ over (words_to bytes (first_bad bytes rows)) words
  unfolding loaded_words
  words_true p words = chosen (framed bytes) _ _ p

  pub passed_frame : framed bytes ≡ true → (words out : List ℕ) → out ≡ over (words_to bytes (first_bad bytes rows)) words
      → (loaded_rows (decoded_of (first_bad bytes rows) rows) ≡ loaded_of bytes) × (out ≡ loaded_words bytes words)
  passed_frame p words out e = (sym (frame_true p), e ∙ sym (words_true p words))

  pub decoded_row : end_row (decoded_of (first_bad bytes rows) rows) ≤ rows
  decoded_row = by_test (ltb (first_bad bytes rows) rows) refl
    where
      by_test : (b : Bool) → ltb (first_bad bytes rows) rows ≡ b → end_row (decoded_of (first_bad bytes rows) rows) ≤ rows
      by_test true p = rw p bad_at_most
      by_test false p = rw p (omega arith)

  -- the verdict goes on from there
  pub verdict_judged : verdict bytes ≡ judged bytes (loaded_of bytes)
  verdict_judged = by_tests (framed bytes) (ltb (first_bad bytes rows) rows) refl refl
    where
      loaded : (c : Bool) → framed bytes ≡ true → ltb (first_bad bytes rows) rows ≡ c → loaded_of bytes ≡ loaded_rows (ended c)
      loaded c p q = frame_true p ∙ ap (λ b. loaded_rows (ended b)) q

      by_tests : (b c : Bool) → framed bytes ≡ b → ltb (first_bad bytes rows) rows ≡ c → verdict bytes ≡ judged bytes (loaded_of bytes)
      by_tests false c p q = verdict_frame bytes p ∙ sym (ap (judged bytes) (frame_false p))
      by_tests true true p q = verdict_column bytes p (ltb-true (first_bad bytes rows) rows q) ∙ sym (ap (judged bytes) (loaded true p q))
      by_tests true false p q = verdict_judge bytes p (ltb-false (first_bad bytes rows) rows q) ∙ sym (ap (judged bytes) (loaded false p q))

  -- all rows are in the row form
  rows_words : (b : Bool) (n : ℕ) → ltb (first_bad bytes rows) rows ≡ b → loaded_rows (ended b) ≡ Ok n
      → (first_bad bytes rows ≡ rows) × (4 * rows ≡ n)
  rows_words true n p e = absurd (refused_not_words 2 (first_bad bytes rows + 1) n e)
  rows_words false n p e = (omega (arith, ltb-false (first_bad bytes rows) rows p, bad_at_most), ap words_in e)

  line_words_lem : (l : Line) → not_row l ≡ false → length (line_words l) ≡ 4
  line_words_lem (Some r) e = refl
  line_words_lem None e = absurd (true≢false e)

  words_length : (n : ℕ) → ((i : ℕ) → i < n → not_row (line_of bytes i) ≡ false) → length (words_to bytes n) ≡ 4 * n
  words_length zero h = ap length (words_none bytes)
  words_length (suc n) h =
      ap (λ m. length (words_to bytes m)) (sym (add-one n)) ∙ ap length (words_more bytes n)
      ∙ length-append (words_to bytes n) (line_words (line_of bytes n))
      ∙ omega (arith, words_length n (λ i l. h i (omega arith)), line_words_lem (line_of bytes n) (h n (omega arith)))

  record AllRows (n : ℕ) : Type 0 where
    frame : framed bytes ≡ true
    all : first_bad bytes rows ≡ rows
    size : 4 * rows ≡ n

  all_rows : (n : ℕ) → loaded_of bytes ≡ Ok n → AllRows n
  all_rows n e = by_frame (framed bytes) refl
    where
      by_frame : (b : Bool) → framed bytes ≡ b → AllRows n
      by_frame false p = absurd (refused_not_words 1 0 n (sym (frame_false p) ∙ e))
      by_frame true p =
          let whole = rows_words (ltb (first_bad bytes rows) rows) n refl (sym (frame_true p) ∙ e) in
          record { frame = p; all = whole.0; size = whole.1 }

  -- their words, which are those of the rows over the start of what was lent
  words_size : (n : ℕ) → loaded_of bytes ≡ Ok n → length (words_of bytes) ≡ n
  unfolding words_of words_to
  words_size n e =
      let a = all_rows n e in
      words_length rows (λ i l. (first_least (λ i. not_row (line_of bytes i)) rows 0).before i (omega arith) (omega (arith, a.all))) ∙ a.size

  words_held : (start : List ℕ) (n : ℕ) → loaded_of bytes ≡ Ok n → take n (loaded_words bytes start) ≡ words_of bytes
  unfolding over words_to words_of
  words_held start n e =
      let a = all_rows n e in
      ap (take n) (words_true a.frame start ∙ ap (λ m. over (words_to bytes m) start) a.all)
      ∙ take_at (words_of bytes) (drop (length (words_of bytes)) start) n (words_size n e)

  -- 65,536 bytes hold 1,724 rows
  words_small : (n : ℕ) → loaded_of bytes ≡ Ok n → n ≤ 6896
  words_small n e =
      let a = all_rows n e in
      omega (arith, a.size, leb-true (length bytes) 65536 (and_left (leb (length bytes) 65536) (eqb (length bytes % 38) 0) a.frame))
    where
      and_left : (p q : Bool) → p && q ≡ true → p ≡ true
      and_left true q e = refl
      and_left false q e = e

  -- the filled part of an array of 6,896 words
  pub record Filled (words : List ℕ) (n : ℕ) : Type 0 where
    pub within : n ≤ length words
    pub size : n ≡ length (take n words)
    pub small : length (take n words) ≤ 6896
    pub holds : take n words ≡ words_of bytes

  pub filled : (start words : List ℕ) (n : ℕ) → length words ≡ 6896 → words ≡ loaded_words bytes start → loaded_of bytes ≡ Ok n → Filled words n
  filled start words n e q p =
      let holds : take n words ≡ words_of bytes = ap (take n) q ∙ words_held start n p in
      let size : length (take n words) ≡ n = ap length holds ∙ words_size n p in
      record { within = omega (arith, words_small n p); size = sym size; small = omega (arith, size, words_small n p); holds = holds }

  -- an accepted table is judged so by its rows, which are within the limit
  pub accepted_words : (n : ℕ) → verdict bytes ≡ Ok n → (judge (decoded bytes) ≡ Ok n) × (length (words_of bytes) ≤ 6896)
  accepted_words n e = by_loaded (loaded_of bytes) refl
    where
      by_loaded : (l : Result ℕ Refusal) → loaded_of bytes ≡ l → (judge (decoded bytes) ≡ Ok n) × (length (words_of bytes) ≤ 6896)
      by_loaded (Ok m) p = (sym (verdict_judged ∙ ap (judged bytes) p) ∙ e, omega (arith, words_size m p, words_small m p))
      by_loaded (Err r) p =
          let q : Err r ≡ Ok n = sym (verdict_judged ∙ ap (judged bytes) p) ∙ e in
          absurd (let z : ◌≡◌ {A = ℕ} 0 1 = cc in omega arith)

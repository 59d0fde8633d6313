-- The numbers of a table are in range: its columns because they were read, its counts because it has at most 1,724 rows. Each row that is read is in the
-- row form (`row_form`), and the words of a table are those of its rows.
use Prim.Native.Nat.{ℕ, zero, suc, ◌+◌, ◌*◌, ◌≤◌, ◌<◌, ◌^◌}
use mathlib.Core.Path.{◌≡◌, refl}
use mathlib.Core.Bool.{Bool, true, false}
use mathlib.Core.List.{List, [], ◌∷◌}
use native.Mathlib.Omega.{arith}
use borrow.Author.Tests.{lt-ltb, le-leb}
use lib.Dec.{leb, leb→le}
use lib.ListN.{length, get_or, length-take, length-drop}
use Rattle.lists.specs.All.{All, all_nil, all_cons}
use Rattle.lists.proofs.All.{all_in, all_flat}
use Rattle.lists.proofs.Below.{in_numbers}
use Rattle.lists.proofs.Flat.{flat_length, sum_at_most}
use Rattle.number.specs.Number.{InRange}
use Rattle.row.specs.Row.{greatest, width, row_length, part}
use Rattle.row.specs.Reading.{Line}
use Rattle.std.specs.Prelude.{Some, None}
use Rattle.row.proofs.Form.{row_form}
use Rattle.table.specs.Rows.{Rows}
use Rattle.formula.proofs.Truth.{and_split, true_test}
use Rattle.rules.specs.Decoded.{framed, row_count, line_of, line_words, words_of, decoded}
use Rattle.rules.specs.Offence.{frame, NoOffence}

-- 01, Rows: "from −2147483648 to 2147483647"
abbrev pub Ranged : ℕ → Type 0
Ranged n = InRange greatest n

pub small_ranged : (n : ℕ) → n ≤ greatest → Ranged n
small_ranged n h = record { word = omega arith; range = simp (lt-ltb n (2 ^ 63) (omega arith)) (le-leb n greatest h) }

pub zero_ranged : Ranged 0
zero_ranged = small_ranged 0 (omega arith)

module _ (bytes : List ℕ) where
  line_ranged : (i : ℕ) → i < row_count bytes → All Ranged (line_words (line_of bytes i))
  unfolding line_of
  line_ranged i h = go (line_of bytes i) refl
    where
      go : (l : Line) → line_of bytes i ≡ l → All Ranged (line_words l)
      go (Some r) e =
          let row : List ℕ = part bytes (row_length width * i) (row_length width * i + row_length width) in
          let whole : length row ≡ row_length width = simp (length-take, length-drop) (omega arith) in
          let w = (row_form greatest width (omega arith) row r whole e).0 in
          all_cons w.tag_range (all_cons w.a_range (all_cons w.b_range (all_cons w.c_range all_nil)))
      go None e = all_nil

  words_ranged : All Ranged (words_of bytes)
  unfolding words_of
  words_ranged = all_flat _ (all_in _ (λ i h. line_ranged i (omega (arith, (in_numbers (row_count bytes) 0 i h).1))))

  word_ranged : (j : ℕ) → Ranged (get_or (words_of bytes) j 0)
  word_ranged j = at (words_of bytes) words_ranged j
    where
      at : (ws : List ℕ) → All Ranged ws → (j : ℕ) → Ranged (get_or ws j 0)
      at [] h j = zero_ranged
      at (w ∷ ws) (all_cons h hs) zero = h
      at (w ∷ ws) (all_cons h hs) (suc j) = at ws hs j

  -- a table has no more rows than its bytes hold, and those are few
  pub size_rows : (decoded bytes).size ≤ row_count bytes
  unfolding words_of
  size_rows =
      let most = sum_at_most (λ i. length (line_words (line_of bytes i))) 4 (λ i. four (line_of bytes i)) (row_count bytes) in
      omega (arith, flat_length (λ i. line_words (line_of bytes i)) (row_count bytes))
    where
      four : (l : Line) → length (line_words l) ≤ 4
      four (Some r) = omega arith
      four None = omega arith

  pub rows_few : framed bytes ≡ true → row_count bytes ≤ 1724
  rows_few f = omega (arith, leb→le (length bytes) 65536 (and_split (leb (length bytes) 65536) _ (true_test _ f)).0)

-- a table whose columns are in range and whose rows are few
pub record RangedRows (t : Rows) : Type 0 where
  pub tag : (i : ℕ) → Ranged (t.tag i)
  pub a : (i : ℕ) → Ranged (t.a i)
  pub b : (i : ℕ) → Ranged (t.b i)
  pub c : (i : ℕ) → Ranged (t.c i)
  pub few : t.size ≤ 1724

pub framed_ranged : (bytes : List ℕ) → framed bytes ≡ true → RangedRows (decoded bytes)
framed_ranged bytes f = record {
  tag = λ i. word_ranged bytes (4 * i);
  a = λ i. word_ranged bytes (4 * i + 1);
  b = λ i. word_ranged bytes (4 * i + 2);
  c = λ i. word_ranged bytes (4 * i + 3);
  few = omega (arith, size_rows bytes, rows_few bytes f);
}

pub accepted_framed : (bytes : List ℕ) → NoOffence bytes → framed bytes ≡ true
accepted_framed bytes none = go (framed bytes) refl
  where
    go : (b : Bool) → framed bytes ≡ b → framed bytes ≡ true
    go true e = e
    go false e = absurd (none 1 0 (frame e))

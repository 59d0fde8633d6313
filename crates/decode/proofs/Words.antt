-- Laws of decoding: what is read at a row's place, and the words with one row more.
use Prim.Native.Nat.{ℕ, ◌+◌, ◌-◌, ◌*◌, ◌≤◌, ◌<◌}
use mathlib.Core.Path.{◌≡◌, refl, ap, sym, ◌∙◌}
use mathlib.Core.Bool.{Bool, true, false, true≢false}
use mathlib.Core.List.{List, [], ◌++◌, flat_map}
use native.Mathlib.Omega.{arith}
use native.Mathlib.Numerals.{add-one}
use borrow.Author.Tests.{lt-ltb, le-ltb}
use lib.ListN.{length}
use Rattle.lists.specs.Over.{over}
use Rattle.lists.specs.Below.{first, numbers}
use Rattle.lists.proofs.First.{first_here, first_end}
use Rattle.lists.proofs.Flat.{flat_next}
use Rattle.row.specs.Row.{greatest, width}
use Rattle.row.specs.Reading.{read_at, found_at, Line}
use Rattle.row.specs.declared.Row.{Row}
use Rattle.std.specs.Prelude.{Some, None, Ok, Err}
use Rattle.row.specs.declared.Place.{Place}
use Rattle.row.specs.declared.Read.{Read}
use Rattle.row.specs.declared.Read.TheVariants as read
use Rattle.rules.specs.Decoded.{line_of, not_row, line_words}
use Rattle.decode.specs.Decode.{four, first_bad, words_to, decoded_of}

module _ (bytes : List ℕ) (i at : ℕ) (place : at ≡ 38 * i) (inside : 38 * i + 38 ≤ length bytes) where
  -- what is read at the place of the row i
  pub read_row : read_at greatest width bytes at ≡ found_at (38 * i + 38) (line_of bytes i)
  unfolding line_of
  read_row = rw place (simp (lt-ltb (38 * i) (length bytes) (omega arith), le-ltb (length bytes) (38 * i + 38) inside))

pub words_none : (bytes : List ℕ) → words_to bytes 0 ≡ []
unfolding words_to numbers flat_map
words_none bytes = refl

pub words_more : (bytes : List ℕ) (i : ℕ) → words_to bytes (i + 1) ≡ words_to bytes i ++ line_words (line_of bytes i)
unfolding words_to
words_more bytes i = rw add-one (flat_next (λ i. line_words (line_of bytes i)) i)

-- what a read says of the line
pub next_line : (n : ℕ) (l : Line) (r : Row) (p : Place) → found_at n l ≡ read.Next r p → (l ≡ Some r) × (p.at ≡ n)
next_line n (Some s) r p e =
    let q : s ≡ r = cc in
    let o : record { at = n } ≡ p = cc in
    (ap Some q, sym (ap (λ x. x.at) o))
next_line n None r p e = absurd (let z : ◌≡◌ {A = ℕ} 0 1 = cc in omega arith)

-- a read that yields no row: the line is not in the row form
abbrev pub is_next : Read → Bool
is_next (read.Next r p) = true
is_next read.Malformed = false
is_next read.End = false

not_next : (n : ℕ) (l : Line) → is_next (found_at n l) ≡ false → not_row l ≡ true
not_next n (Some s) e = absurd (true≢false e)
not_next n None e = refl

pub words_four : (l : Line) (r : Row) → l ≡ Some r → (line_words l ≡ four r) × (not_row l ≡ false)
words_four l r e = (ap line_words e, ap not_row e)

-- a turn that reads no row: the row is the first bad one, and the words are those of the rows before it
pub stops_at : (bytes ws words : List ℕ) (rows i at : ℕ) (r : Read) → i < rows → 38 * rows ≤ length bytes → at ≡ 38 * i → r ≡ read_at greatest width bytes at → is_next r ≡ false
    → first (λ i. not_row (line_of bytes i)) (rows - i) i ≡ first_bad bytes rows → words ≡ over (words_to bytes i) ws
    → (Err (record { row = i }) ≡ decoded_of (first_bad bytes rows) rows) × (words ≡ over (words_to bytes (first_bad bytes rows)) ws)
stops_at bytes ws words rows i at r h fits place e stop search put =
    let line = ap is_next (sym (read_row bytes i at place (omega arith)) ∙ sym e) ∙ stop in
    let bad : first_bad bytes rows ≡ i = sym search ∙ first_here (λ i. not_row (line_of bytes i)) rows i h (not_next (38 * i + 38) (line_of bytes i) line) in
    (rw bad (simp (lt-ltb i rows h)), put ∙ ap (λ n. over (words_to bytes n) ws) (sym bad))

-- the search that has come to the end found none
pub none_bad : (bytes : List ℕ) (rows i : ℕ) → rows ≤ i → i ≤ rows → first (λ i. not_row (line_of bytes i)) (rows - i) i ≡ first_bad bytes rows
    → first_bad bytes rows ≡ rows
none_bad bytes rows i h g e = sym e ∙ first_end (λ i. not_row (line_of bytes i)) rows i h ∙ omega arith

pub reply_all : (bytes : List ℕ) (rows : ℕ) → first_bad bytes rows ≡ rows → Ok rows ≡ decoded_of (first_bad bytes rows) rows
reply_all bytes rows e = rw e (simp (le-ltb rows rows (omega arith)))

-- Laws of writing: one column more, the columns' count, and columns that hold spaces.
use mathlib.Core.Path.{◌≡◌, refl, ap, sym, ◌∙◌}
use mathlib.Core.List.{List, [], ◌∷◌, ◌++◌}
use mathlib.Core.Bool.{Bool}
use Prim.Native.Nat.{ℕ, zero, suc, ◌≤◌, ◌<◌, ◌+◌, ◌-◌, ◌/◌, ◌%◌}
use native.Mathlib.Numerals.{add-one, sub-one}
use native.Mathlib.Nat.{not-suc-le-zero, le_of_suc-le-suc}
use native.Mathlib.Omega.{arith}
use borrow.Author.Tests.{le-leb, lt-leb}
use lib.ListN.{length, take, drop, set, replicate, length-append, take-append-drop}
use Rattle.std.proofs.lemmas.List.{length-take-le}
use Rattle.std.proofs.lemmas.Grind.{replicate_next}
use lib.Seq.{append_snoc, take_at, drop_at, take-take, take-set-le}
use Rattle.lists.specs.Choice.{pick}
use Rattle.lists.specs.Over.{over}
use Rattle.number.specs.Number.{space, minus, digit_zero, Text, Spaces, Minus, Digits, last_of, before_digits, before_of, columns_of}

-- what stands from j on once j is stored
drop_set : (l : List ℕ) (j a : ℕ) → j < length l → drop j (set l j a) ≡ a ∷ drop (suc j) l
drop_set [] j a h = absurd (not-suc-le-zero h)
drop_set (x ∷ l) zero a h = refl
drop_set (x ∷ l) (suc j) a h = drop_set l j a (le_of_suc-le-suc h)

-- one column more is stored before those from i on
written_back : (text : Text) (out : List ℕ) (i : ℕ) → 0 < i → i ≤ length out
    → columns_of (i - 1) (before_of text) ++ drop (i - 1) (set out (i - 1) (last_of text)) ≡ columns_of i text ++ drop i out
unfolding columns_of
written_back text out zero pos h = absurd (not-suc-le-zero pos)
written_back text out (suc j) pos h = rw (sub-one, drop_set, append_snoc)

pub written_length : (width : ℕ) (text : Text) → length (columns_of width text) ≡ width
unfolding columns_of
written_length zero text = refl
written_length (suc width) text = rw (length-append, written_length width (before_of text), add-one)

-- a text over the first columns, and what is left after them
pub over_columns : (width : ℕ) (text : Text) (out : List ℕ) → over (columns_of width text) out ≡ columns_of width text ++ drop width out
unfolding over
over_columns width text out = rw (written_length width text)

-- what stood in the columns before is gone
pub over_blank : (width : ℕ) (text : Text) (out blank written : List ℕ) → blank ≡ over (columns_of width Spaces) out → written ≡ over (columns_of width text) blank
    → written ≡ over (columns_of width text) out
unfolding over
over_blank width text out blank written b w =
    let size = written_length width in
    w ∙ rw (b, size text, size Spaces, drop_at (columns_of width Spaces) (drop width out) width (size Spaces))

pub written_done : (out whole : List ℕ) (text : Text) (i : ℕ) → i ≤ 0 → columns_of i text ++ drop i out ≡ whole → out ≡ whole
unfolding columns_of
written_done out whole text i h e = let none : i ≡ 0 = omega arith in rw none at e

pub no_columns : (out : List ℕ) (text : Text) (i : ℕ) → i ≤ 0 → out ≡ over (columns_of i text) out
unfolding columns_of over
no_columns out text i h = let none : i ≡ 0 = omega arith in rw none

spaces_columns : (width : ℕ) → replicate width space ≡ columns_of width Spaces
unfolding columns_of
spaces_columns zero = refl
spaces_columns (suc width) =
    ap (λ n. replicate n space) (sym (add-one width)) ∙ replicate_next width space ∙ ap (λ xs. xs ++ (space ∷ [])) (spaces_columns width)

-- the first columns are filled with spaces
pub blank_filled : (width : ℕ) (out filled : List ℕ) → width ≤ length out → filled ≡ replicate (length (take width out)) space
    → filled ++ drop width out ≡ over (columns_of width Spaces) out
blank_filled width out filled h e =
    let size : length (take width out) ≡ width = length-take-le width out h in
    rw (e, size, spaces_columns width) (sym (over_columns width Spaces out))

pub blank_done : (width : ℕ) (out xs : List ℕ) → out ≡ over (columns_of width Spaces) xs → take width out ≡ columns_of width Spaces
unfolding over
blank_done width out xs e = ap (take width) e ∙ take_at (columns_of width Spaces) (drop (length (columns_of width Spaces)) xs) width (written_length width Spaces)

-- the columns before the last one hold spaces too
spaces_before : (out : List ℕ) (i : ℕ) → 0 < i → take i out ≡ columns_of i Spaces → take (i - 1) out ≡ columns_of (i - 1) Spaces
unfolding columns_of
spaces_before out zero p e = absurd (not-suc-le-zero p)
spaces_before out (suc j) p e =
    rw sub-one (sym (take-take j (suc j) out (omega arith)) ∙ ap (take j) e ∙ take_at (columns_of j Spaces) (space ∷ []) j (written_length j Spaces))

pub still_blank : (out : List ℕ) (i a : ℕ) → 0 < i → take i out ≡ columns_of i Spaces → take (i - 1) (set out (i - 1) a) ≡ columns_of (i - 1) Spaces
still_blank out i a p e = take-set-le (i - 1) out (i - 1) a (omega arith) ∙ spaces_before out i p e

-- spaces stay where nothing is stored
pub all_blank : (out : List ℕ) (width : ℕ) → take width out ≡ columns_of width Spaces → out ≡ over (columns_of width Spaces) out
all_blank out width e = sym (take-append-drop width out) ∙ ap (λ xs. xs ++ drop width out) e ∙ sym (over_columns width Spaces out)

-- a minus in the last of columns that hold spaces
pub sign_stored : (out : List ℕ) (i : ℕ) → 0 < i → i ≤ length out → take i out ≡ columns_of i Spaces → set out (i - 1) minus ≡ over (columns_of i Minus) out
sign_stored out i p h e =
    let xs : List ℕ = set out (i - 1) minus in
    all_blank xs (i - 1) (still_blank out i minus p e) ∙ over_columns (i - 1) Spaces xs ∙ written_back Minus out i p h ∙ sym (over_columns i Minus out)

-- a digit is stored in the column before i; what the columns before it shall hold
module _ (negative : Bool) (m : ℕ) (out whole : List ℕ) (i : ℕ) (pos : 0 < i) (h : i ≤ length out) (e : columns_of i (Digits negative m) ++ drop i out ≡ whole) where
  stored : columns_of (i - 1) (before_digits negative m) ++ drop (i - 1) (set out (i - 1) (digit_zero + m % 10)) ≡ whole
  stored = written_back (Digits negative m) out i pos h ∙ e

  pub stored_first : m < 10 → over (columns_of (i - 1) (pick negative Minus Spaces)) (set out (i - 1) (digit_zero + m % 10)) ≡ whole
  stored_first l = over_columns (i - 1) (pick negative Minus Spaces) (set out (i - 1) (digit_zero + m % 10)) ∙ (simp (lt-leb 10 m l) at stored)

  pub stored_later : 10 ≤ m → columns_of (i - 1) (Digits negative (m / 10)) ++ drop (i - 1) (set out (i - 1) (digit_zero + m % 10)) ≡ whole
  stored_later l = simp (le-leb 10 m l) at stored

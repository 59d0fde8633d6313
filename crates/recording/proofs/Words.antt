-- A logged value and its word: each gives the other back.
use Prim.Native.Nat.{ℕ, zero, suc, ◌-◌, ◌≤◌, ◌<◌, ◌^◌}
use mathlib.Core.Path.{◌≡◌, refl, ap, ◌∙◌}
use mathlib.Core.Bool.{Bool, true, false, not, ◌||◌}
use native.Mathlib.Omega.{arith}
use lib.Dec.{T, ltb, leb, eqb}
use lib.IntN.{ℤ, pos, negsuc, neg_ℤ}
use borrow.Author.Tests.{ltb-true, ltb-false, leb-true, lt-ltb, le-ltb}
use Rattle.lists.specs.Choice.{pick}
use Rattle.lists.specs.Below.{one_if}
use Rattle.formula.specs.Values.{ValueType, integer, boolean, Value, whole_number, equalℤ}
use Rattle.formula.proofs.Truth.{test_true}
use Rattle.answer.specs.Stored.{stored_value}
use Rattle.machine.specs.Described.{type_numbered}
use Rattle.recording.specs.Rows.{is_logged}
use Rattle.recording.specs.Recorded.{word_of, logged_word}

-- a number's word
number_word : (w : ℕ) → w < 2 ^ 64 → word_of (whole_number w) ≡ w
number_word w h = go (ltb w (2 ^ 63)) refl
  where
    negative : (m : ℕ) → 1 ≤ m → m ≤ 2 ^ 63 → word_of (neg_ℤ (pos m)) ≡ 2 ^ 64 - m
    negative (suc n) l k = simp (lt-ltb n (2 ^ 63) k)
    negative zero l k = elim l [ ]

    go : (b : Bool) → ltb w (2 ^ 63) ≡ b → word_of (pick b (pos w) (neg_ℤ (pos (2 ^ 64 - w)))) ≡ w
    go true e = ap (λ b. pick b w (2 ^ 64)) e
    go false e = let k : 2 ^ 63 ≤ w = ltb-false w (2 ^ 63) e in negative (18446744073709551616 - w) (omega arith) (omega arith) ∙ omega arith

word_number : (z : ℤ) → word_of z < 2 ^ 64 → whole_number (word_of z) ≡ z
word_number (pos n) h = go (ltb n (2 ^ 63)) refl h
  where
    go : (b : Bool) → ltb n (2 ^ 63) ≡ b → pick b n (2 ^ 64) < 2 ^ 64 → whole_number (pick b n (2 ^ 64)) ≡ pos n
    go true e h = ap (λ b. pick b (pos n) (neg_ℤ (pos (18446744073709551616 - n)))) e
    go false e h = absurd (omega (arith, h))
word_number (negsuc n) h = go (ltb n (2 ^ 63)) refl h
  where
    go : (b : Bool) → ltb n (2 ^ 63) ≡ b → pick b (2 ^ 64 - suc n) (2 ^ 64) < 2 ^ 64 → whole_number (pick b (2 ^ 64 - suc n) (2 ^ 64)) ≡ negsuc n
    go true e h =
        let l : n < 2 ^ 63 = ltb-true n (2 ^ 63) e in
        let k : 2 ^ 63 ≤ 18446744073709551616 - suc n = omega arith in
        let s : 18446744073709551616 - (18446744073709551616 - suc n) ≡ suc n = omega arith in
        simp (le-ltb (18446744073709551616 - suc n) (2 ^ 63) k) (ap (λ m. neg_ℤ (pos m)) s)
    go false e h = absurd (omega (arith, h))

truth_word : (w : ℕ) → w ≤ 1 → one_if (equalℤ (whole_number w) (pos 1)) ≡ w
truth_word zero h = refl
truth_word (suc zero) h = refl
truth_word (suc (suc w)) h = absurd (omega (arith, h))

-- what a row holds is the word of the value that is stored
pub stored_word : (n w : ℕ) → w < 2 ^ 64 → T (is_logged n w) → logged_word (type_numbered n) (stored_value (type_numbered n) (whole_number w)) ≡ w
unfolding type_numbered
stored_word n w h l = go (eqb n 2) l
  where
    go : (b : Bool) → T (not b || leb w 1) → logged_word (pick b boolean integer) (stored_value (pick b boolean integer) (whole_number w)) ≡ w
    go true l = truth_word w (leb-true w 1 (test_true (leb w 1) l))
    go false l = number_word w h

-- the stored value of a value's word
pub word_stored : (type : ValueType) (v : Value type) → logged_word type v < 2 ^ 64 → stored_value type (whole_number (logged_word type v)) ≡ v
word_stored integer z h = word_number z h
word_stored boolean true h = refl
word_stored boolean false h = refl

-- a value's word is one that a row may hold
pub word_logged : (n : ℕ) (v : Value (type_numbered n)) → T (is_logged n (logged_word (type_numbered n) v))
unfolding type_numbered
word_logged n v = go (eqb n 2) v
  where
    go : (b : Bool) (v : Value (pick b boolean integer)) → T (not b || leb (logged_word (pick b boolean integer) v) 1)
    go true true = tt
    go true false = tt
    go false v = tt

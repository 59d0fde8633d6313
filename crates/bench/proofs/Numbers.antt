-- The number of a value and the value of a number, each from the other.
use Prim.Native.Nat.{ℕ, zero, suc, ◌≤◌}
use mathlib.Core.Path.{◌≡◌, refl, sym, ap₂, ◌∙◌}
use mathlib.Core.Bool.{Bool, true, false, true≢false, not, ◌||◌}
use native.Mathlib.Omega.{arith}
use lib.Dec.{T, eqb, leb}
use lib.IntN.{ℤ, pos, negsuc}
use borrow.Author.Tests.{leb-true, ne_eqb}
use Rattle.lists.specs.Choice.{pick}
use Rattle.formula.specs.Values.{ValueType, integer, boolean, Value, wrap, whole_number, equalℤ}
use Rattle.formula.proofs.Truth.{test_true}
use Rattle.answer.specs.Stored.{stored_value}
use Rattle.machine.specs.Described.{type_numbered}
use Rattle.recording.specs.Rows.{is_logged}
use Rattle.bench.specs.State.{is_of_type}
use Rattle.bench.specs.Press.{number_in}

pub number_stored : (type : ValueType) (v : Value type) → stored_value type (number_in (wrap type v)) ≡ v
number_stored integer z = refl
number_stored boolean true = refl
number_stored boolean false = refl

-- a number that is 0 or 1
truth_number : (z : ℤ) → (equalℤ z (pos 0) || equalℤ z (pos 1)) ≡ true → number_in (wrap boolean (equalℤ z (pos 1))) ≡ z
truth_number (pos zero) h = refl
truth_number (pos (suc zero)) h = refl
truth_number (pos (suc (suc n))) h = absurd (true≢false (sym h ∙ ap₂ ◌||◌ (ne_eqb (suc (suc n)) 0 (λ e. omega arith)) (ne_eqb (suc (suc n)) 1 (λ e. omega arith))))
truth_number (negsuc n) h = absurd (true≢false (sym h))

pub stored_number : (n : ℕ) (z : ℤ) → is_of_type n z ≡ true → number_in (wrap (type_numbered n) (stored_value (type_numbered n) z)) ≡ z
unfolding type_numbered
stored_number n z h = go (eqb n 2) h
  where
    go : (b : Bool) → (not b || (equalℤ z (pos 0) || equalℤ z (pos 1))) ≡ true → number_in (wrap (pick b boolean integer) (stored_value (pick b boolean integer) z)) ≡ z
    go true h = truth_number z h
    go false h = refl

pub number_of_type : (n : ℕ) (v : Value (type_numbered n)) → is_of_type n (number_in (wrap (type_numbered n) v)) ≡ true
unfolding type_numbered
number_of_type n v = go (eqb n 2) v
  where
    go : (b : Bool) (v : Value (pick b boolean integer)) → (not b || (equalℤ (number_in (wrap (pick b boolean integer) v)) (pos 0) || equalℤ (number_in (wrap (pick b boolean integer) v)) (pos 1))) ≡ true
    go true true = refl
    go true false = refl
    go false v = refl

-- what a row 91 may hold
pub word_of_type : (n w : ℕ) → T (is_logged n w) → is_of_type n (whole_number w) ≡ true
word_of_type n w h = go (eqb n 2) h
  where
    small : (w : ℕ) → w ≤ 1 → (equalℤ (whole_number w) (pos 0) || equalℤ (whole_number w) (pos 1)) ≡ true
    small zero l = refl
    small (suc zero) l = refl
    small (suc (suc w)) l = absurd (omega (arith, l))

    go : (b : Bool) → T (not b || leb w 1) → (not b || (equalℤ (whole_number w) (pos 0) || equalℤ (whole_number w) (pos 1))) ≡ true
    go true h = small w (leb-true w 1 (test_true (leb w 1) h))
    go false h = refl

-- The walk down the rows finds the first row that passes: what it has found from i on is the search from i on.
use Prim.Native.Nat.{ℕ, zero, suc, ◌-◌, ◌≤◌}
use mathlib.Core.Path.{◌≡◌, refl, ap, sym, ◌∙◌}
use mathlib.Core.Bool.{Bool, true, false}
use native.Mathlib.Omega.{arith}
use native.Mathlib.Nat.{sub-zero}
use native.Mathlib.Numerals.{add-one}
use Rattle.lists.specs.Choice.{pick}
use Rattle.lists.specs.Below.{first}
use Rattle.lists.proofs.First.{first_here, first_next, first_end}
use Rattle.rule_sorts.specs.Walk.{first_before}

module _ (P : ℕ → Bool) where
  pub before_none : (found i : ℕ) → i ≡ 0 → found ≡ first_before P i found
  unfolding first_before
  before_none found i e = rw e refl

  pub before_row : (i found r : ℕ) → ¬ (i ≡ 0) → r ≡ first_before P (i - 1) (pick (P (i - 1)) (i - 1) found) → r ≡ first_before P i found
  unfolding first_before
  before_row zero found r h e = absurd (h refl)
  before_row (suc i) found r h e = let q : suc i - 1 ≡ i = omega arith in e ∙ ap (λ j. first_before P j (pick (P j) j found)) q

  found_from : (n i : ℕ) → i ≤ n → first_before P i (first P (n - i) i) ≡ first P n 0
  unfolding first_before
  found_from n zero h = ap (λ k. first P k 0) (sub-zero n)
  found_from n (suc i) h = ap (first_before P i) (by_test (P i) refl) ∙ found_from n i (omega arith)
    where
      by_test : (b : Bool) → P i ≡ b → pick b i (first P (n - suc i) (suc i)) ≡ first P (n - i) i
      by_test true e = sym (first_here P n i (omega arith) e)
      by_test false e = ap (λ j. first P (n - j) j) (sym (add-one i)) ∙ sym (first_next P n i (omega arith) e)

  pub first_found : (n : ℕ) → first_before P n n ≡ first P n 0
  first_found n = ap (first_before P n) (sym (first_end P n n (omega arith))) ∙ found_from n n (omega arith)

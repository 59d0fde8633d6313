-- The law of `first`: it lies in the range or at its end, what lies before it does not pass, and it passes where it is not the end.
use Prim.Native.Nat.{ℕ, zero, suc, ◌+◌, ◌-◌, ◌≤◌, ◌<◌}
use mathlib.Core.Path.{◌≡◌, refl, ap, sym, ◌∙◌, subst}
use mathlib.Core.Bool.{Bool, true, false, true≢false}
use mathlib.Core.Logic.{◌⊎◌, ⊎_elim}
use native.Mathlib.Omega.{arith}
use native.Mathlib.Nat.{eq-or-lt_of_le}
use native.Mathlib.Numerals.{add-one}
use lib.Dec.{ltb}
use borrow.Author.Tests.{ltb-true, ltb-false}
use Rattle.lists.specs.Choice.{pick}
use Rattle.lists.specs.Below.{NoneBelow, first}
use Rattle.lists.proofs.Choice.{chosen, not_chosen}

pub record Least (P : ℕ → Bool) (n i k : ℕ) : Type 0 where
  pub from : i ≤ k
  pub to : k ≤ i + n
  pub before : (j : ℕ) → i ≤ j → j < k → P j ≡ false
  pub passes : k < i + n → P k ≡ true

pub first_least : (P : ℕ → Bool) (n i : ℕ) → Least P n i (first P n i)
unfolding first
first_least P zero i = record { from = omega arith; to = omega arith; before = λ j h l. absurd (omega arith); passes = λ h. absurd (omega arith) }
first_least P (suc n) i = go (P i) refl (first_least P n (suc i))
  where
    go : (b : Bool) → P i ≡ b → Least P n (suc i) (first P n (suc i)) → Least P (suc n) i (pick b i (first P n (suc i)))
    go true e h = record { from = omega arith; to = omega arith; before = λ j g l. absurd (omega arith); passes = λ l. e }
    go false e h = record {
      from = omega (arith, h.from);
      to = omega (arith, h.to);
      before = λ j g l. ⊎_elim (λ (q : i ≡ j). subst (λ x. P x ≡ false) q e) (λ (q : i < j). h.before j q l) (eq-or-lt_of_le g);
      passes = λ l. h.passes (omega arith);
    }

-- whatever passes comes no earlier
pub least_at_most : {P : ℕ → Bool} {n i k : ℕ} → Least P n i k → (j : ℕ) → i ≤ j → P j ≡ true → k ≤ j
least_at_most {k} h j g e = go (ltb j k) refl
  where
    go : (b : Bool) → ltb j k ≡ b → k ≤ j
    go true l = absurd (true≢false (sym e ∙ h.before j g (ltb-true j k l)))
    go false l = ltb-false j k l

-- A search from i on, below n: it ends at i, goes on past i, or has come to the end.
module _ (P : ℕ → Bool) (n i : ℕ) where
  one_left : i < n → n - i ≡ suc (n - suc i)
  one_left h = omega arith

  pub first_here : i < n → P i ≡ true → first P (n - i) i ≡ i
  unfolding first
  first_here h e = ap (λ k. first P k i) (one_left h) ∙ chosen (P i) i (first P (n - suc i) (suc i)) e

  pub first_next : i < n → P i ≡ false → first P (n - i) i ≡ first P (n - (i + 1)) (i + 1)
  unfolding first
  first_next h e = ap (λ k. first P k i) (one_left h) ∙ not_chosen (P i) i (first P (n - suc i) (suc i)) e ∙ ap (λ j. first P (n - j) j) (sym (add-one i))

  pub first_end : n ≤ i → first P (n - i) i ≡ i
  unfolding first
  first_end h = let z : n - i ≡ 0 = omega arith in rw z

-- The search below n by what does not pass: the first is i where none below i passes but i does, and n where none below n does.
module _ (P : ℕ → Bool) where
  pub none_next : (i : ℕ) → NoneBelow P i → P i ≡ false → NoneBelow P (i + 1)
  none_next i none e j h = ⊎_elim (λ (q : j ≡ i). subst (λ x. P x ≡ false) (sym q) e) (λ (q : j < i). none j q) (eq-or-lt_of_le (omega arith))

  not_below : (n i : ℕ) → NoneBelow P i → i ≤ n → i ≤ first P n 0
  not_below n i none h = go (ltb (first P n 0) i) refl
    where
      go : (b : Bool) → ltb (first P n 0) i ≡ b → i ≤ first P n 0
      go true l = let k : first P n 0 < i = ltb-true _ i l in absurd (true≢false (sym ((first_least P n 0).passes (omega arith)) ∙ none (first P n 0) k))
      go false l = ltb-false _ i l

  pub first_at : (n i : ℕ) → NoneBelow P i → i < n → P i ≡ true → i ≡ first P n 0
  first_at n i none h e = omega (arith, not_below n i none (omega arith), least_at_most (first_least P n 0) i (omega arith) e)

  pub first_none : (n : ℕ) → NoneBelow P n → n ≡ first P n 0
  first_none n none = omega (arith, not_below n n none (omega arith), (first_least P n 0).to)

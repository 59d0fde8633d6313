-- From "some value passes the test" a value that passes it: the least number of a search is unique, so the truncation may be
-- left, and the values of each type are searched by a number.
use mathlib.Core.Path.{◌≡◌}
use mathlib.Core.Bool.{Bool, true, false, not, ◌||◌}
use mathlib.Core.Logic.{◌⊎◌, inl, inr, ⊎_elim, ∥∥₁_elim, ∥∥₁_map}
use mathlib.Core.HLevel.{Σ_prop_path, Π_prop, ×_prop}
use Prim.Native.Nat.{ℕ, zero, suc, ◌≤◌, ◌<◌}
use native.Mathlib.Omega.{arith}
use lib.Dec.{T, T_prop, T_not, ltb, ltb→lt, nltb→le}
use lib.IntN.{pos, negsuc}
use Rattle.formula.specs.Values.{ValueType, integer, boolean, Value, as_truth}
use Rattle.formula.specs.Tree.{Tree}
use Rattle.formula.specs.Evaluate.{Env, with_present, with_after, evaluate, True}
use Rattle.formula.specs.Formula.{some_value, some_after_value, Holds}
use Rattle.formula.proofs.Truth.{or_left, or_right, or_either, test_or_not}

module _ (f : ℕ → Bool) where
  -- n passes, and nothing below it does
  abbrev Least : ℕ → Type 0
  Least n = T (f n) × ((k : ℕ) → k < n → T (not (f k)))

  least_prop : (n : ℕ) → IsProp (Least n)
  least_prop n = ×_prop (T_prop (f n)) (Π_prop (λ k. Π_prop (λ h. T_prop (not (f k)))))

  least_unique : (a b : ℕ) → Least a → Least b → a ≡ b
  least_unique a b p q = omega (arith, not_below a b p q, not_below b a q p)
    where
      not_below : (a b : ℕ) → Least a → Least b → b ≤ a
      not_below a b p q =
          ⊎_elim (λ t. absurd (T_not (f a) (q.1 a (ltb→lt a b t)) p.0)) (λ t. nltb→le a b t) (test_or_not (ltb a b))

  -- the least number below n that passes, or none does
  least_below : (n : ℕ) → ((k : ℕ) × Least k) ⊎ ((k : ℕ) → k < n → T (not (f k)))
  least_below zero = inr (λ k h. absurd (omega arith))
  least_below (suc n) = go (least_below n) (test_or_not (f n))
    where
      go : ((k : ℕ) × Least k) ⊎ ((k : ℕ) → k < n → T (not (f k))) → T (f n) ⊎ T (not (f n)) →
          ((k : ℕ) × Least k) ⊎ ((k : ℕ) → k < suc n → T (not (f k)))
      go (inl r) d = inl r
      go (inr b) (inl t) = inl (n, (t, b))
      go (inr b) (inr t) = inr (λ k h. last k h (test_or_not (ltb k n)))
        where
          last : (k : ℕ) → k < suc n → T (ltb k n) ⊎ T (not (ltb k n)) → T (not (f k))
          last k h (inl l) = b k (ltb→lt k n l)
          last k h (inr g) = let e : k ≡ n = omega (arith, nltb→le k n g) in rw e t

  least_from : (n : ℕ) → T (f n) → (k : ℕ) × Least k
  least_from n t = ⊎_elim (λ r. r) (λ b. (n, (t, b))) (least_below n)

  pub choose_number : ∥ ((n : ℕ) × T (f n)) ∥₁ → (n : ℕ) × T (f n)
  choose_number h =
      let r = ∥∥₁_elim h (λ u v. Σ_prop_path least_prop (least_unique u.0 v.0 u.1 v.1)) (λ s. least_from s.0 s.1) in
      (r.0, r.1.0)

-- whether a value that the number n stands for passes
abbrev passes : (t : ValueType) → (Value t → Bool) → ℕ → Bool
passes integer f n = f (pos n) || f (negsuc n)
passes boolean f n = f true || f false

passes_some : (t : ValueType) (f : Value t → Bool) (v : Value t) → T (f v) → (n : ℕ) × T (passes t f n)
passes_some integer f (pos n) t = (n, or_left (f (pos n)) (f (negsuc n)) t)
passes_some integer f (negsuc n) t = (n, or_right (f (pos n)) (f (negsuc n)) t)
passes_some boolean f true t = (0, or_left (f true) (f false) t)
passes_some boolean f false t = (0, or_right (f true) (f false) t)

passes_value : (t : ValueType) (f : Value t → Bool) (n : ℕ) → T (passes t f n) → (v : Value t) × T (f v)
passes_value integer f n t = ⊎_elim (λ h. (pos n, h)) (λ h. (negsuc n, h)) (or_either (f (pos n)) (f (negsuc n)) t)
passes_value boolean f n t = ⊎_elim (λ h. (true, h)) (λ h. (false, h)) (or_either (f true) (f false) t)

pub choose_value : (t : ValueType) (f : Value t → Bool) → ∥ ((v : Value t) × T (f v)) ∥₁ → (v : Value t) × T (f v)
choose_value t f h = let r = choose_number (passes t f) (∥∥₁_map h (λ s. passes_some t f s.0 s.1)) in passes_value t f r.0 r.1

module _ {type : ℕ → ValueType} (ρ : Env type) (x : ℕ) (t : Tree) where
  -- "some value meets it" gives a value that does
  pub choose_present : Holds ρ (some_value x t) → (v : Value (type x)) × True (with_present ρ x v) t
  choose_present h = choose_value (type x) (λ v. as_truth (evaluate (with_present ρ x v) t)) h

  pub choose_after : Holds ρ (some_after_value x t) → (v : Value (type x)) × True (with_after ρ x v) t
  choose_after h = choose_value (type x) (λ v. as_truth (evaluate (with_after ρ x v) t)) h

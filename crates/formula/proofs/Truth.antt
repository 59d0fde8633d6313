-- A computed test as a fact: `T` of ∧, ∨ and ¬, by cases on the truth values.
use mathlib.Core.Path.{◌≡◌, refl, subst}
use mathlib.Core.Bool.{Bool, true, false, true≢false, not, ◌&&◌, ◌||◌}
use mathlib.Core.Logic.{◌⊎◌, inl, inr}
use Prim.Native.Nat.{ℕ}
use lib.Dec.{T, eqb, eqb_refl}
use Rattle.lists.specs.Choice.{pick}

pub and_split : (a b : Bool) → T (a && b) → T a × T b
and_split true b t = (tt, t)
and_split false b t = absurd t

pub and_join : (a b : Bool) → T a → T b → T (a && b)
and_join true b s t = t
and_join false b s t = absurd s

pub or_left : (a b : Bool) → T a → T (a || b)
or_left true b t = tt
or_left false b t = absurd t

pub or_right : (a b : Bool) → T b → T (a || b)
or_right true b t = tt
or_right false b t = t

pub or_either : (a b : Bool) → T (a || b) → T a ⊎ T b
or_either true b t = inl tt
or_either false b t = inr t

pub test_or_not : (b : Bool) → T b ⊎ T (not b)
test_or_not true = inl tt
test_or_not false = inr tt

pub test_true : (b : Bool) → T b → b ≡ true
test_true true t = refl
test_true false t = absurd t

pub true_test : (b : Bool) → b ≡ true → T b
true_test b e = rw e tt

pub test_false : (b : Bool) → T (not b) → b ≡ false
test_false true t = absurd t
test_false false t = refl

pub or_cases : {C : Type 0} (a b : Bool) → T (a || b) → (T a → C) → (T b → C) → C
or_cases true b t f g = f tt
or_cases false b t f g = g t

-- a test that failed
pub or_neither : (a b : Bool) → (a || b) ≡ false → (a ≡ false) × (b ≡ false)
or_neither true b e = absurd (true≢false e)
or_neither false b e = (refl, e)

pub and_not_right : (a b : Bool) → (a && b) ≡ false → T a → b ≡ false
and_not_right true b e t = e
and_not_right false b e t = absurd t

pub not_false_test : (b : Bool) → not b ≡ false → T b
not_false_test true e = tt
not_false_test false e = absurd (true≢false e)

pub false_refutes : (b : Bool) → b ≡ false → T b → ⊥
false_refutes true e t = true≢false e
false_refutes false e t = t

-- nothing offends against a rule, so what it speaks of meets it
pub rule_met : (a b : Bool) → (a && not b) ≡ false → T a → T b
rule_met a b e t = not_false_test b (and_not_right a (not b) e t)

-- equal numbers pass the test of equality
pub eq→eqb : (m n : ℕ) → m ≡ n → T (eqb m n)
eq→eqb m n e = subst (λ x. T (eqb m x)) e (eqb_refl m)

-- a choice whose test is known
module _ {A : Type 0} where
  pub choice_true : (b : Bool) (x y : A) → T b → ◌≡◌ {A = A} (pick b x y) x
  choice_true true x y t = refl
  choice_true false x y t = absurd t

  pub choice_false : (b : Bool) (x y : A) → T (not b) → ◌≡◌ {A = A} (pick b x y) y
  choice_false true x y t = absurd t
  choice_false false x y t = refl

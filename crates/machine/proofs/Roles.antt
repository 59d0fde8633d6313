-- The numbers of an event's row and its role say the same, for the machines and classes that 01 allows. By the tests that the numbers meet, for all roles at once.
use Prim.Native.Nat.{ℕ, ◌≤◌, ◌<◌}
use mathlib.Core.Path.{◌≡◌, refl, sym, subst, subst₂}
use mathlib.Core.Bool.{Bool, true, false}
use mathlib.Core.Logic.{◌⊎◌, inl, inr}
use native.Mathlib.Omega.{arith}
use lib.Dec.{eqb}
use borrow.Author.Tests.{eqb-true, eqb-false, ne_eqb}
use Rattle.lists.specs.Choice.{pick}
use Rattle.machine.specs.Machine.{Role, abstract_initialisation, abstract_ordinary, concrete_initialisation, refining, convergent, anticipated}
use Rattle.machine.specs.Described.{role_numbered}

-- 01: "machine: 1 abstract, 2 concrete; class: 0 initialisation, 1 ordinary, 2 convergent (concrete only)"; 02, request 1: "Event class 3, concrete only"
pub record EventNumbers (machine class : ℕ) : Type 0 where
  pub machine_is : (machine ≡ 1) ⊎ (machine ≡ 2)
  pub abstract_class : machine ≡ 1 → class ≤ 1
  pub concrete_class : class ≤ 3

-- what a role says of the machine, the class and the refined event
abbrev pub RoleSays : ℕ → ℕ → ℕ → Role → Type 0
RoleSays machine class refined abstract_initialisation = (machine ≡ 1) × (class ≡ 0)
RoleSays machine class refined abstract_ordinary = (machine ≡ 1) × (class ≡ 1)
RoleSays machine class refined (concrete_initialisation f) = (machine ≡ 2) × (class ≡ 0) × (f ≡ 1)
RoleSays machine class refined (refining f) = (machine ≡ 2) × (class ≡ 1) × (f ≡ refined)
RoleSays machine class refined convergent = (machine ≡ 2) × (class ≡ 2)
RoleSays machine class refined anticipated = (machine ≡ 2) × (class ≡ 3)

-- a role by the tests that its numbers meet: abstract, class 0, class 1, class 2
pub role_cases : (machine class refined : ℕ) (P : Bool → Bool → Bool → Bool → Role → Type 0) → ((o v : Bool) → P true true o v abstract_initialisation)
    → ((o v : Bool) → P true false o v abstract_ordinary) → P false true false false (concrete_initialisation 1) → P false false true false (refining refined)
    → P false false false true convergent → P false false false false anticipated
    → P (eqb machine 1) (eqb class 0) (eqb class 1) (eqb class 2) (role_numbered machine class refined)
unfolding role_numbered
role_cases machine class refined P ai ao ci re co an = go (eqb machine 1) (eqb class 0) (eqb class 1) (eqb class 2)
    (λ p. (only 0 p 1 (omega arith), only 0 p 2 (omega arith))) (λ p. only 1 p 2 (omega arith))
  where
    -- a class is not also a later one
    only : (k : ℕ) → eqb class k ≡ true → (l : ℕ) → k < l → eqb class l ≡ false
    only k p l h = ne_eqb class l (omega (arith, eqb-true class k p))

    initial : (o v : Bool) → o ≡ false → v ≡ false → P false true o v (concrete_initialisation 1)
    initial o v p q = subst₂ (λ o v. P false true o v (concrete_initialisation 1)) (sym p) (sym q) ci

    ordinary : (v : Bool) → v ≡ false → P false false true v (refining refined)
    ordinary v q = subst (λ v. P false false true v (refining refined)) (sym q) re

    go : (a z o v : Bool) → (z ≡ true → (o ≡ false) × (v ≡ false)) → (o ≡ true → v ≡ false)
        → P a z o v (pick a (pick z abstract_initialisation abstract_ordinary) (pick z (concrete_initialisation 1) (pick o (refining refined) (pick v convergent anticipated))))
    go true true o v h k = ai o v
    go true false o v h k = ao o v
    go false true o v h k = initial o v (h refl).0 (h refl).1
    go false false true v h k = ordinary v (k refl)
    go false false false true h k = co
    go false false false false h k = an

pub role_says : (machine class refined : ℕ) → EventNumbers machine class → RoleSays machine class refined (role_numbered machine class refined)
role_says machine class refined ok =
    role_cases machine class refined
    (λ a z o v ro. eqb machine 1 ≡ a → eqb class 0 ≡ z → eqb class 1 ≡ o → eqb class 2 ≡ v → RoleSays machine class refined ro)
    (λ o v p q r s. (eqb-true machine 1 p, eqb-true class 0 q))
    (λ o v p q r s. let e = eqb-true machine 1 p in (e, omega (arith, ok.abstract_class e, eqb-false class 0 q)))
    (λ p q r s. (concrete ok.machine_is p, eqb-true class 0 q, refl))
    (λ p q r s. (concrete ok.machine_is p, eqb-true class 1 r, refl))
    (λ p q r s. (concrete ok.machine_is p, eqb-true class 2 s))
    (λ p q r s. (concrete ok.machine_is p, omega (arith, ok.concrete_class, eqb-false class 0 q, eqb-false class 1 r, eqb-false class 2 s)))
    refl refl refl refl
  where
    concrete : (machine ≡ 1) ⊎ (machine ≡ 2) → eqb machine 1 ≡ false → machine ≡ 2
    concrete (inl k) p = absurd (eqb-false machine 1 p k)
    concrete (inr k) p = k

-- A step has no fault exactly where each formula that is judged has the value that it has to have: of a list of faults, of one formula, of one variable.
use mathlib.Core.Path.{◌≡◌, refl, sym, ap, ◌∙◌}
use mathlib.Core.Bool.{Bool, true, false, true≢false}
use mathlib.Core.List.{List, [], ◌∷◌}
use Prim.Native.Nat.{ℕ}
use native.Mathlib.Omega.{arith}
use lib.Dec.{eqb}
use borrow.Author.Tests.{eqb-true, eq-eqb}
use Rattle.lists.specs.Choice.{pick}
use Rattle.lists.specs.All.{All, all_nil, all_cons}
use Rattle.formula.specs.Values.{AnyValue, equal_value}
use Rattle.formula.proofs.Truth.{test_true, true_test}
use Rattle.formula.proofs.Values.{equal_value_eq, eq_equal_value}
use Rattle.answer.specs.Answer.{Answer, value, outside, undefined}
use Rattle.recording.specs.Faults.{no_fault, log_fault, differs, fault_of, first_fault}

-- no number of a list is a fault
pub first_none : (fs : List ℕ) → first_fault fs ≡ no_fault → All (λ f. f ≡ no_fault) fs
unfolding first_fault
first_none [] e = all_nil
first_none (f ∷ fs) e = go (eqb f no_fault) refl e (first_none fs)
  where
    go : (b : Bool) → eqb f no_fault ≡ b → pick b (first_fault fs) f ≡ no_fault → (first_fault fs ≡ no_fault → All (λ f. f ≡ no_fault) fs) → All (λ f. f ≡ no_fault) (f ∷ fs)
    go true h e rest = all_cons (eqb-true f no_fault h) (rest e)
    go false h e rest = absurd (true≢false (sym (eq-eqb f no_fault e) ∙ h))

pub none_first : {fs : List ℕ} → All (λ f. f ≡ no_fault) fs → first_fault fs ≡ no_fault
unfolding first_fault
none_first all_nil = refl
none_first (all_cons {x = f} {xs = fs} h hs) = ap (λ b. pick b (first_fault fs) f) (eq-eqb f no_fault h) ∙ none_first hs

-- values that have to be equal
pub differs_none : (v w : AnyValue) → differs v w ≡ no_fault → v ≡ w
differs_none v w e = go (equal_value v w) refl e
  where
    go : (b : Bool) → equal_value v w ≡ b → pick b no_fault log_fault ≡ no_fault → v ≡ w
    go true h e = equal_value_eq v w (true_test _ h)
    go false h e = absurd (let z : ◌≡◌ {A = ℕ} 18 0 = e in omega arith)

pub none_differs : (v w : AnyValue) → v ≡ w → differs v w ≡ no_fault
none_differs v w e = ap (λ b. pick b no_fault log_fault) (test_true (equal_value v w) (eq_equal_value v w e))

-- a formula's answer
pub fault_none : (v : AnyValue) (a : Answer) → fault_of v a ≡ no_fault → a ≡ value v
fault_none v (value w) e = ap value (sym (differs_none v w e))
fault_none v outside e = absurd (let z : ◌≡◌ {A = ℕ} 16 0 = e in omega arith)
fault_none v undefined e = absurd (let z : ◌≡◌ {A = ℕ} 17 0 = e in omega arith)

pub none_fault : (v : AnyValue) (a : Answer) → a ≡ value v → fault_of v a ≡ no_fault
none_fault v a e = ap (fault_of v) e ∙ none_differs v v refl

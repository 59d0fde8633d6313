-- The first fault of a list: of one that is joined, of the members that pass a test, and of numbers one after another.
use mathlib.Core.Path.{◌≡◌, refl, sym, ap, ◌∙◌}
use mathlib.Core.Bool.{Bool, true, false}
use mathlib.Core.List.{List, [], ◌∷◌, ◌++◌, map}
use Prim.Native.Nat.{ℕ, zero, suc, ◌+◌, ◌≤◌, ◌<◌}
use native.Mathlib.Omega.{arith}
use native.Mathlib.Decide.{ℕ_discrete}
use borrow.Author.Tests.{eq-eqb, ne_eqb}
use lib.Dec.{eqb}
use Rattle.lists.specs.Choice.{pick}
use Rattle.lists.specs.Below.{numbers, keep}
use Rattle.recording.specs.Faults.{no_fault, first_fault}
use Rattle.std.specs.Prelude.{Result}
use Rattle.std.specs.Result.{IsErrAnd}
use Rattle.std.proofs.lemmas.Result.{err_from_is_err_and}
use Rattle.judge.specs.declared.StepFault.{StepFault}
use Rattle.judge.specs.declared.StepFault.TheVariants.{Outside, Undefined, NotAllowed}
use Rattle.judge.specs.Judge.{number_of, fault_number, fault_or}

-- a fault's number is that of a fault
pub is_fault : (e : StepFault) {a : ℕ} → number_of e ≡ a → a ≡ 0 → ⊥
is_fault Outside p q = omega (arith, p, q)
is_fault Undefined p q = omega (arith, p, q)
is_fault NotAllowed p q = omega (arith, p, q)

-- the fault that is handed on
pub handed_on : (k : Result Unit StepFault) (e : StepFault) {a : ℕ} → IsErrAnd k (λ y. y ≡ e) → number_of e ≡ a → fault_number k ≡ a
handed_on k e h p = let q = err_from_is_err_and k h in rw (q.1, q.2) p

pub first_join : (xs ys : List ℕ) → first_fault (xs ++ ys) ≡ fault_or (first_fault xs) (first_fault ys)
unfolding first_fault
first_join [] ys = refl
first_join (f ∷ fs) ys = go (eqb f 0) refl (first_join fs ys)
  where
    go : (b : Bool) → eqb f 0 ≡ b → first_fault (fs ++ ys) ≡ fault_or (first_fault fs) (first_fault ys) → pick b (first_fault (fs ++ ys)) f ≡ fault_or (pick b (first_fault fs) f) (first_fault ys)
    go true e h = h
    go false e h = sym (ap (λ b. pick b (first_fault ys) f) e)

-- those that don't pass count as no fault
pub first_keep : {A : Type 0} (P : A → Bool) (f : A → ℕ) (xs : List A) → first_fault (map f (keep P xs)) ≡ first_fault (map (λ x. pick (P x) (f x) no_fault) xs)
unfolding first_fault keep
first_keep P f [] = refl
first_keep {A} P f (x ∷ xs) = go (P x) (first_keep P f xs)
  where
    others : List ℕ
    others = map (λ x. pick (P x) (f x) no_fault) xs

    go : (b : Bool) → first_fault (map f (keep P xs)) ≡ first_fault others → first_fault (map f (pick b (x ∷ keep P xs) (keep P xs))) ≡ pick (eqb (pick b (f x) no_fault) 0) (first_fault others) (pick b (f x) no_fault)
    go true h = ap (λ g. pick (eqb (f x) 0) g (f x)) h
    go false h = h

-- of the numbers from s on: the first that has a fault, or none
module _ (F : ℕ → ℕ) where
  abbrev pub NoneFrom : ℕ → ℕ → Type 0
  NoneFrom s i = (j : ℕ) → s ≤ j → j < i → F j ≡ no_fault

  pub first_none : (n s : ℕ) → NoneFrom s (s + n) → first_fault (map F (numbers n s)) ≡ no_fault
  unfolding first_fault numbers
  first_none zero s h = refl
  first_none (suc n) s h =
      ap (λ b. pick b (first_fault (map F (numbers n (suc s)))) (F s)) (eq-eqb (F s) 0 (h s (omega arith) (omega arith)))
      ∙ first_none n (suc s) (λ j l k. h j (omega arith) (omega arith))

  pub first_found : (n s i : ℕ) → s ≤ i → i < s + n → NoneFrom s i → (F i ≡ 0 → ⊥) → F i ≡ first_fault (map F (numbers n s))
  unfolding first_fault numbers
  first_found zero s i l k h e = absurd (omega (arith, l, k))
  first_found (suc n) s i l k h e = go (ℕ_discrete s i) (λ m. first_found n (suc s) i m (omega arith) (λ j x y. h j (omega arith) y) e)
    where
      rest : ℕ
      rest = first_fault (map F (numbers n (suc s)))

      go : Dec (s ≡ i) → (suc s ≤ i → F i ≡ rest) → F i ≡ pick (eqb (F s) 0) rest (F s)
      go (yes q) later = ap F (sym q) ∙ sym (ap (λ b. pick b rest (F s)) (ne_eqb (F s) 0 (λ z. e (ap F (sym q) ∙ z))))
      go (no q) later = later (omega (arith, q)) ∙ sym (ap (λ b. pick b rest (F s)) (eq-eqb (F s) 0 (h s (omega arith) (omega (arith, q)))))

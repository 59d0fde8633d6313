-- Laws of "some member passes": through ++, for tests that agree, and what a test that passes or fails says of the members, each by recursion on the list.
use Prim.Native.Nat.{ℕ}
use mathlib.Core.Path.{◌≡◌, refl, sym, ap, ◌∙◌, subst, fun_ext}
use mathlib.Core.Bool.{Bool, true, false, ◌||◌, or_assoc, true≢false}
use mathlib.Core.List.{List, [], ◌∷◌, ◌++◌}
use lib.Dec.{eqb}
use borrow.Author.Tests.{eq-eqb, eqb-true}
use Rattle.lists.specs.All.{In, here, there}
use Rattle.lists.specs.Different.{some_of, has}

-- tests that agree
pub some_same : (P Q : ℕ → Bool) → ((x : ℕ) → P x ≡ Q x) → (xs : List ℕ) → some_of P xs ≡ some_of Q xs
some_same P Q h xs = ap (λ R. some_of R xs) (fun_ext h)

pub some_join : (P : ℕ → Bool) (xs ys : List ℕ) → some_of P (xs ++ ys) ≡ (some_of P xs || some_of P ys)
unfolding some_of
some_join P [] ys = refl
some_join P (x ∷ xs) ys = ap (λ b. P x || b) (some_join P xs ys) ∙ sym (or_assoc (P x) (some_of P xs) (some_of P ys))

-- a member that passes
pub some_in : (P : ℕ → Bool) {x : ℕ} {xs : List ℕ} → In x xs → P x ≡ true → some_of P xs ≡ true
unfolding some_of
some_in P (here {xs = ys} e) p = rw (ap P (sym e) ∙ p)
some_in P (there {x = y} i) p = go (P y) (some_in P i p)
  where
    go : (b : Bool) {c : Bool} → c ≡ true → (b || c) ≡ true
    go true h = refl
    go false h = h

-- where some member passes, one is found
pub some_member : (P : ℕ → Bool) (xs : List ℕ) → some_of P xs ≡ true → (x : ℕ) × In x xs × (P x ≡ true)
unfolding some_of
some_member P [] h = absurd (true≢false (sym h))
some_member P (y ∷ ys) h = go (P y) refl h (some_member P ys)
  where
    go : (b : Bool) → P y ≡ b → (b || some_of P ys) ≡ true → (some_of P ys ≡ true → (x : ℕ) × In x ys × (P x ≡ true))
        → (x : ℕ) × In x (y ∷ ys) × (P x ≡ true)
    go true e h rest = (y, here refl, e)
    go false e h rest = let r = rest h in (r.0, there r.1, r.2)

-- membership as a test
pub has_in : (x : ℕ) {xs : List ℕ} → In x xs → has xs x ≡ true
has_in x i = some_in (λ y. eqb x y) i (eq-eqb x x refl)

pub in_has : (x : ℕ) (xs : List ℕ) → has xs x ≡ true → In x xs
in_has x xs h = let r = some_member (λ y. eqb x y) xs h in subst (λ y. In y xs) (sym (eqb-true x r.0 r.2)) r.1

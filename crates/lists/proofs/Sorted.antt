-- Two lists with the same members, each in the order of one asymmetric relation, are equal: by recursion on both, the first members are equal, since each would
-- otherwise stand before the other, and the rests have the same members, since the first one does not stand in either.
use mathlib.Core.Path.{◌≡◌, refl, sym, ap₂, subst, ◌∙◌}
use mathlib.Core.List.{List, [], ◌∷◌}
use mathlib.Core.Logic.{◌↔◌, ⊎_elim}
use Rattle.lists.specs.All.{In, here, there}
use Rattle.lists.specs.Pairwise.{Pairwise}
use Rattle.lists.proofs.All.{all_at, in_nil, in_cons}
use Rattle.lists.proofs.Distinct.{pairwise_head, pairwise_tail}

module _ {A : Type 0} {R : A → A → Type 0} (asymmetric : (x y : A) → R x y → R y x → ⊥) where
  abbrev SameMembers : List A → List A → Type 0
  SameMembers xs ys = (a : A) → In a xs ↔ In a ys

  heads_same : {x y : A} {xs ys : List A} → Pairwise R (x ∷ xs) → Pairwise R (y ∷ ys) → SameMembers (x ∷ xs) (y ∷ ys) → x ≡ y
  heads_same {x} {y} h k same =
      ⊎_elim (λ p. p)
      (λ i. ⊎_elim sym (λ j. absurd (asymmetric x y (all_at (pairwise_head h) j) (all_at (pairwise_head k) i))) (in_cons ((same y).1 (here refl))))
      (in_cons ((same x).0 (here refl)))

  -- a member of one rest is a member of the other
  tail_in : {a x y : A} {xs ys : List A} → Pairwise R (x ∷ xs) → x ≡ y → (In a (x ∷ xs) → In a (y ∷ ys)) → In a xs → In a ys
  tail_in {a} {x} h e into i =
      let after : R x a = all_at (pairwise_head h) i in
      ⊎_elim (λ p. let q : R x x = subst (R x) (p ∙ sym e) after in absurd (asymmetric x x q q)) (λ j. j) (in_cons (into (there i)))

  pub sorted_same : (xs ys : List A) → Pairwise R xs → Pairwise R ys → SameMembers xs ys → xs ≡ ys
  sorted_same [] [] h k same = refl
  sorted_same [] (y ∷ ys) h k same = absurd (in_nil ((same y).1 (here refl)))
  sorted_same (x ∷ xs) [] h k same = absurd (in_nil ((same x).0 (here refl)))
  sorted_same (x ∷ xs) (y ∷ ys) h k same =
      let e : x ≡ y = heads_same h k same in
      ap₂ (λ (z : A) (zs : List A). z ∷ zs) e
      (sorted_same xs ys (pairwise_tail h) (pairwise_tail k) (λ a. (tail_in h e (same a).0, tail_in k (sym e) (same a).1)))

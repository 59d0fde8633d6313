-- How "every member and each later one" goes through ++, map, flat_map and keep, each by recursion on the list or the derivation, and what it says of places.
use mathlib.Core.Path.{◌≡◌, refl, sym, subst}
use mathlib.Core.Bool.{Bool, true, false}
use mathlib.Core.List.{List, [], ◌∷◌, ◌++◌, map, flat_map}
use mathlib.Core.Logic.{⊎_elim}
use Prim.Native.Nat.{ℕ, zero, suc, ◌≤◌, ◌<◌}
use native.Mathlib.Nat.{not-suc-le-zero}
use native.Mathlib.Decide.{dec_lt}
use native.Mathlib.Omega.{arith}
use lib.ListN.{length, get_or}
use Rattle.lists.specs.Choice.{pick}
use Rattle.lists.specs.All.{All, all_nil, In, here, there}
use Rattle.lists.specs.Pairwise.{Pairwise, pairwise_nil, pairwise_cons}
use Rattle.lists.specs.Below.{numbers, keep}
use Rattle.lists.proofs.All.{all_left, all_right, all_join, all_at, all_in, all_map, all_unmap, in_nil, in_cons, in_unflat}

-- no member stands twice
abbrev pub Distinct : {A : Type 0} → List A → Type 0
Distinct xs = Pairwise (λ x y. ¬ (x ≡ y)) xs

-- each number is less than all later ones
abbrev pub Ascending : List ℕ → Type 0
Ascending xs = Pairwise (λ x y. x < y) xs

pub in_kept : {A : Type 0} (P : A → Bool) (xs : List A) {a : A} → In a (keep P xs) → In a xs
unfolding keep
in_kept P [] i = i
in_kept {A} P (x ∷ xs) {a} i = by_test (P x) i (in_kept P xs)
  where
    by_test : (b : Bool) → In a (pick b (x ∷ keep P xs) (keep P xs)) → (In a (keep P xs) → In a xs) → In a (x ∷ xs)
    by_test true i rest = ⊎_elim here (λ j. there (rest j)) (in_cons i)
    by_test false i rest = there (rest i)

pub in_place : {A : Type 0} (xs : List A) (d : A) (i : ℕ) → i < length xs → In (get_or xs i d) xs
in_place [] d i h = absurd (not-suc-le-zero h)
in_place (x ∷ xs) d zero h = here refl
in_place (x ∷ xs) d (suc i) h = there (in_place xs d i (omega arith))

module _ {A : Type 0} {R : A → A → Type 0} where
  pub pairwise_head : {x : A} {xs : List A} → Pairwise R (x ∷ xs) → All (R x) xs
  pairwise_head (pairwise_cons h hs) = h

  pub pairwise_tail : {x : A} {xs : List A} → Pairwise R (x ∷ xs) → Pairwise R xs
  pairwise_tail (pairwise_cons h hs) = hs

  pub pairwise_left : (xs ys : List A) → Pairwise R (xs ++ ys) → Pairwise R xs
  pairwise_left [] ys h = pairwise_nil
  pairwise_left (x ∷ xs) ys h = pairwise_cons (all_left xs ys (pairwise_head h)) (pairwise_left xs ys (pairwise_tail h))

  pub pairwise_right : (xs : List A) {ys : List A} → Pairwise R (xs ++ ys) → Pairwise R ys
  pairwise_right [] h = h
  pairwise_right (x ∷ xs) h = pairwise_right xs (pairwise_tail h)

  pub pairwise_across : (xs : List A) {ys : List A} {a b : A} → Pairwise R (xs ++ ys) → In a xs → In b ys → R a b
  pairwise_across [] h i j = absurd (in_nil i)
  pairwise_across (x ∷ xs) {b = b} h (here e) j = subst (λ y. R y b) (sym e) (all_at (all_right xs (pairwise_head h)) j)
  pairwise_across (x ∷ xs) h (there i) j = pairwise_across xs (pairwise_tail h) i j

  pub pairwise_join : {xs ys : List A} → Pairwise R xs → Pairwise R ys → ((a b : A) → In a xs → In b ys → R a b) → Pairwise R (xs ++ ys)
  pairwise_join pairwise_nil k across = k
  pairwise_join {ys = ys} (pairwise_cons {x = x} h hs) k across =
      pairwise_cons (all_join h (all_in ys (λ b j. across x b (here refl) j))) (pairwise_join hs k (λ a b i j. across a b (there i) j))

  pub pairwise_one : (x : A) → Pairwise R (x ∷ [])
  pairwise_one x = pairwise_cons all_nil pairwise_nil

  pub pairwise_imp : {S : A → A → Type 0} {xs : List A} → Pairwise R xs → ((x y : A) → In x xs → In y xs → R x y → S x y) → Pairwise S xs
  pairwise_imp pairwise_nil f = pairwise_nil
  pairwise_imp (pairwise_cons {x = x} {xs = xs} h hs) f =
      pairwise_cons (all_in xs (λ y j. f x y (here refl) (there j) (all_at h j))) (pairwise_imp hs (λ y z i j. f y z (there i) (there j)))

  pub pairwise_keep : (P : A → Bool) {xs : List A} → Pairwise R xs → Pairwise R (keep P xs)
  unfolding keep
  pairwise_keep P pairwise_nil = pairwise_nil
  pairwise_keep P (pairwise_cons {x = x} {xs = xs} h hs) = by_test (P x) (pairwise_keep P hs)
    where
      by_test : (b : Bool) → Pairwise R (keep P xs) → Pairwise R (pick b (x ∷ keep P xs) (keep P xs))
      by_test true k = pairwise_cons (all_in (keep P xs) (λ y j. all_at h (in_kept P xs j))) k
      by_test false k = k

  -- of two places the earlier is related to the later
  pub pairwise_places : {xs : List A} → Pairwise R xs → (d : A) (i j : ℕ) → i < j → j < length xs → R (get_or xs i d) (get_or xs j d)
  pairwise_places pairwise_nil d i j l k = absurd (not-suc-le-zero k)
  pairwise_places (pairwise_cons h hs) d i zero l k = absurd (not-suc-le-zero l)
  pairwise_places (pairwise_cons {xs = xs} h hs) d zero (suc j) l k = all_at h (in_place xs d j (omega arith))
  pairwise_places (pairwise_cons h hs) d (suc i) (suc j) l k = pairwise_places hs d i j (omega arith) (omega arith)

-- where nothing later is S-related, and S is symmetric, S-related places are one place
pub pairwise_once : {A : Type 0} {S : A → A → Type 0} {xs : List A} → ((x y : A) → S x y → S y x) → Pairwise (λ x y. ¬ S x y) xs
    → (d : A) (i j : ℕ) → i < length xs → j < length xs → S (get_or xs i d) (get_or xs j d) → i ≡ j
pairwise_once {xs = xs} back h d i j k l s = by_order (dec_lt i j) (dec_lt j i)
  where
    by_order : Dec (i < j) → Dec (j < i) → i ≡ j
    by_order (yes a) b = absurd (pairwise_places h d i j a l s)
    by_order (no a) (yes b) = absurd (pairwise_places h d j i b k (back (get_or xs i d) (get_or xs j d) s))
    by_order (no a) (no b) = omega arith

module _ {A B : Type 0} {R : B → B → Type 0} (f : A → B) where
  pub pairwise_map : {xs : List A} → Pairwise (λ x y. R (f x) (f y)) xs → Pairwise R (map f xs)
  pairwise_map pairwise_nil = pairwise_nil
  pairwise_map (pairwise_cons h hs) = pairwise_cons (all_map f h) (pairwise_map hs)

  pub pairwise_unmap : (xs : List A) → Pairwise R (map f xs) → Pairwise (λ x y. R (f x) (f y)) xs
  pairwise_unmap [] h = pairwise_nil
  pairwise_unmap (x ∷ xs) h = pairwise_cons (all_unmap f xs (pairwise_head h)) (pairwise_unmap xs (pairwise_tail h))

module _ {A B : Type 0} {R : B → B → Type 0} (f : A → List B) where
  pub pairwise_flat : {xs : List A} → ((x : A) → In x xs → Pairwise R (f x)) → Pairwise (λ x y. (a b : B) → In a (f x) → In b (f y) → R a b) xs
      → Pairwise R (flat_map f xs)
  unfolding flat_map
  pairwise_flat each pairwise_nil = pairwise_nil
  pairwise_flat each (pairwise_cons {x = x} {xs = xs} h hs) =
      pairwise_join (each x (here refl)) (pairwise_flat (λ y i. each y (there i)) hs)
      (λ a b i j. let (y, k, l) = in_unflat f xs j in all_at h k a b i l)

-- a function that is injective on the members keeps them distinct
pub distinct_map : {A B : Type 0} (f : A → B) {xs : List A} → Distinct xs → ((x y : A) → In x xs → In y xs → f x ≡ f y → x ≡ y) → Distinct (map f xs)
distinct_map f h injective = pairwise_map f (pairwise_imp h (λ x y i j different e. different (injective x y i j e)))

pub numbers_from : (n i : ℕ) {k : ℕ} → In k (numbers n i) → i ≤ k
unfolding numbers
numbers_from zero i j = absurd (in_nil j)
numbers_from (suc n) i j = ⊎_elim (λ e. omega arith) (λ k. omega (arith, numbers_from n (suc i) k)) (in_cons j)

pub numbers_rise : (n i : ℕ) → Ascending (numbers n i)
unfolding numbers
numbers_rise zero i = pairwise_nil
numbers_rise (suc n) i = pairwise_cons (all_in (numbers n (suc i)) (λ k j. numbers_from n (suc i) j)) (numbers_rise n (suc i))

pub rising_distinct : {xs : List ℕ} → Ascending xs → Distinct xs
rising_distinct h = pairwise_imp h (λ x y i j less same. omega arith)

pub numbers_distinct : (n i : ℕ) → Distinct (numbers n i)
numbers_distinct n i = rising_distinct (numbers_rise n i)

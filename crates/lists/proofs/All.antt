-- How "every member", membership and the first fault go through ++, map and flat_map, each by recursion on the list or on the derivation.
use mathlib.Core.Path.{◌≡◌, refl, sym, ap, ap₂, subst}
use mathlib.Core.List.{List, [], ◌∷◌, ◌++◌, map, flat_map}
use mathlib.Core.Logic.{◌⊎◌, inl, inr}
use Prim.Native.Nat.{ℕ}
use native.Mathlib.Decide.{ℕ_discrete}
use Rattle.lists.specs.All.{All, all_nil, all_cons, In, here, there, First, fault_here, fault_later}

module _ {A : Type 0} {P : A → Type 0} where
  pub all_head : {x : A} {xs : List A} → All P (x ∷ xs) → P x
  all_head (all_cons h hs) = h

  pub all_tail : {x : A} {xs : List A} → All P (x ∷ xs) → All P xs
  all_tail (all_cons h hs) = hs

  pub all_left : (xs ys : List A) → All P (xs ++ ys) → All P xs
  all_left [] ys h = all_nil
  all_left (x ∷ xs) ys h = all_cons (all_head h) (all_left xs ys (all_tail h))

  pub all_right : (xs : List A) {ys : List A} → All P (xs ++ ys) → All P ys
  all_right [] h = h
  all_right (x ∷ xs) h = all_right xs (all_tail h)

  pub all_join : {xs ys : List A} → All P xs → All P ys → All P (xs ++ ys)
  all_join all_nil k = k
  all_join (all_cons h hs) k = all_cons h (all_join hs k)

  pub all_at : {xs : List A} {a : A} → All P xs → In a xs → P a
  all_at (all_cons h hs) (here e) = subst P (sym e) h
  all_at (all_cons h hs) (there i) = all_at hs i
  all_at {a = a} all_nil x3 = elim x3 [ ]

  -- a property shown of each member from its membership
  pub all_in : (xs : List A) → ((a : A) → In a xs → P a) → All P xs
  all_in [] f = all_nil
  all_in (x ∷ xs) f = all_cons (f x (here refl)) (all_in xs (λ a i. f a (there i)))

pub all_imp : {A : Type 0} {P Q : A → Type 0} → ((x : A) → P x → Q x) → {xs : List A} → All P xs → All Q xs
all_imp f all_nil = all_nil
all_imp f (all_cons {x = x} h hs) = all_cons (f x h) (all_imp f hs)

module _ {A B : Type 0} {P : B → Type 0} (f : A → B) where
  pub all_map : {xs : List A} → All (λ x. P (f x)) xs → All P (map f xs)
  all_map all_nil = all_nil
  all_map (all_cons h hs) = all_cons h (all_map hs)

  pub all_unmap : (xs : List A) → All P (map f xs) → All (λ x. P (f x)) xs
  all_unmap [] h = all_nil
  all_unmap (x ∷ xs) h = all_cons (all_head h) (all_unmap xs (all_tail h))

module _ {A B : Type 0} {P : B → Type 0} (f : A → List B) where
  pub all_flat : {xs : List A} → All (λ x. All P (f x)) xs → All P (flat_map f xs)
  unfolding flat_map
  all_flat all_nil = all_nil
  all_flat (all_cons h hs) = all_join h (all_flat hs)

  pub all_unflat : (xs : List A) → All P (flat_map f xs) → All (λ x. All P (f x)) xs
  unfolding flat_map
  all_unflat [] h = all_nil
  all_unflat (x ∷ xs) h = all_cons (all_left (f x) (flat_map f xs) h) (all_unflat xs (all_right (f x) h))

module _ {A : Type 0} {a : A} where
  pub in_nil : In a [] → ⊥
  in_nil i = elim i [ ]

  pub in_cons : {x : A} {xs : List A} → In a (x ∷ xs) → (a ≡ x) ⊎ In a xs
  in_cons (here e) = inl e
  in_cons (there i) = inr i

  pub in_left : {xs : List A} (ys : List A) → In a xs → In a (xs ++ ys)
  in_left ys (here e) = here e
  in_left ys (there i) = there (in_left ys i)

  pub in_right : (xs : List A) {ys : List A} → In a ys → In a (xs ++ ys)
  in_right [] i = i
  in_right (x ∷ xs) i = there (in_right xs i)

  pub in_either : (xs : List A) {ys : List A} → In a (xs ++ ys) → In a xs ⊎ In a ys
  in_either [] i = inr i
  in_either (x ∷ xs) {ys} i = first (in_cons i) (in_either xs)
    where
      later : In a xs ⊎ In a ys → In a (x ∷ xs) ⊎ In a ys
      later (inl i) = inl (there i)
      later (inr i) = inr i

      first : (a ≡ x) ⊎ In a (xs ++ ys) → (In a (xs ++ ys) → In a xs ⊎ In a ys) → In a (x ∷ xs) ⊎ In a ys
      first (inl e) split = inl (here e)
      first (inr i) split = later (split i)

module _ {A B : Type 0} (f : A → B) where
  pub in_map : {x : A} {xs : List A} → In x xs → In (f x) (map f xs)
  in_map (here e) = here (ap f e)
  in_map (there i) = there (in_map i)

  -- by functions that agree on the members
  pub map_same : (g : A → B) (xs : List A) → ((x : A) → In x xs → f x ≡ g x) → map f xs ≡ map g xs
  map_same g [] h = refl
  map_same g (x ∷ xs) h = ap₂ ◌∷◌ (h x (here refl)) (map_same g xs (λ y i. h y (there i)))

  pub in_unmap : {b : B} (xs : List A) → In b (map f xs) → (x : A) × In x xs × (b ≡ f x)
  in_unmap [] i = absurd (in_nil i)
  in_unmap {b} (x ∷ xs) i = first (in_cons i) (in_unmap xs)
    where
      first : (b ≡ f x) ⊎ In b (map f xs) → (In b (map f xs) → (y : A) × In y xs × (b ≡ f y)) → (y : A) × In y (x ∷ xs) × (b ≡ f y)
      first (inl e) rest = (x, here refl, e)
      first (inr i) rest = let r = rest i in (r.0, there r.1, r.2)

module _ {A B : Type 0} (f : A → List B) where
  pub in_flat : {x : A} {b : B} {xs : List A} → In x xs → In b (f x) → In b (flat_map f xs)
  unfolding flat_map
  in_flat {b = b} (here {xs = xs} e) j = in_left (flat_map f xs) (subst (λ y. In b (f y)) e j)
  in_flat (there {x = y} i) j = in_right (f y) (in_flat i j)

  pub in_unflat : {b : B} (xs : List A) → In b (flat_map f xs) → (x : A) × In x xs × In b (f x)
  unfolding flat_map
  in_unflat [] i = absurd (in_nil i)
  in_unflat {b} (x ∷ xs) i = first (in_either (f x) i) (in_unflat xs)
    where
      first : In b (f x) ⊎ In b (flat_map f xs) → (In b (flat_map f xs) → (y : A) × In y xs × In b (f y)) → (y : A) × In y (x ∷ xs) × In b (f y)
      first (inl j) rest = (x, here refl, j)
      first (inr i) rest = let r = rest i in (r.0, there r.1, r.2)

pub in_dec : (n : ℕ) (xs : List ℕ) → Dec (In n xs)
in_dec n [] = no in_nil
in_dec n (x ∷ xs) = decide (ℕ_discrete n x) (in_dec n xs)
  where
    neither : (n ≡ x → ⊥) → (In n xs → ⊥) → In n (x ∷ xs) → ⊥
    neither f g (here e) = f e
    neither f g (there i) = g i

    decide : Dec (n ≡ x) → Dec (In n xs) → Dec (In n (x ∷ xs))
    decide (yes e) d = yes (here e)
    decide (no f) (yes i) = yes (there i)
    decide (no f) (no g) = no (neither f g)

-- a list without members is empty
pub in_none : {A : Type 0} (xs : List A) → ((a : A) → In a xs → ⊥) → xs ≡ []
in_none [] f = refl
in_none (x ∷ xs) f = absurd (f x (here refl))

-- ---- the first fault of a list
module _ {A N : Type 0} {Fine : A → Type 0} {Fault : A → N → Type 0} {n : N} where
  pub first_nil : First Fine Fault [] n → ⊥
  first_nil f = elim f [ ]

  pub first_left : {xs : List A} (ys : List A) → First Fine Fault xs n → First Fine Fault (xs ++ ys) n
  first_left ys (fault_here h) = fault_here h
  first_left ys (fault_later h f) = fault_later h (first_left ys f)

  pub first_right : {xs ys : List A} → All Fine xs → First Fine Fault ys n → First Fine Fault (xs ++ ys) n
  first_right all_nil f = f
  first_right (all_cons h hs) f = fault_later h (first_right hs f)

  pub first_either : (xs : List A) {ys : List A} → First Fine Fault (xs ++ ys) n → First Fine Fault xs n ⊎ (All Fine xs × First Fine Fault ys n)
  first_either [] f = inr (all_nil, f)
  first_either (x ∷ xs) (fault_here h) = inl (fault_here h)
  first_either (x ∷ xs) {ys} (fault_later h f) = go (first_either xs f)
    where
      go : First Fine Fault xs n ⊎ (All Fine xs × First Fine Fault ys n) → First Fine Fault (x ∷ xs) n ⊎ (All Fine (x ∷ xs) × First Fine Fault ys n)
      go (inl f) = inl (fault_later h f)
      go (inr (hs, f)) = inr (all_cons h hs, f)

  -- the member with the first fault
  pub first_in : {xs : List A} → First Fine Fault xs n → (x : A) × In x xs × Fault x n
  first_in (fault_here {x = x} h) = (x, here refl, h)
  first_in (fault_later h f) = let (x, i, g) = first_in f in (x, there i, g)

-- of the members of a list, of which each is mapped to another that is as fine or has the same fault
module _ {A B N : Type 0} {Fine : A → Type 0} {Fault : A → N → Type 0} {Fine' : B → Type 0} {Fault' : B → N → Type 0} {n : N} (f : A → B) where
  pub first_map : {xs : List A} → ((x : A) → In x xs → Fine x → Fine' (f x)) → ((x : A) → In x xs → Fault x n → Fault' (f x) n)
      → First Fine Fault xs n → First Fine' Fault' (map f xs) n
  first_map g h (fault_here {x = x} b) = fault_here (h x (here refl) b)
  first_map g h (fault_later {x = x} a r) = fault_later (g x (here refl) a) (first_map (λ y i. g y (there i)) (λ y i. h y (there i)) r)

  pub first_unmap : (xs : List A) → ((x : A) → In x xs → Fine' (f x) → Fine x) → ((x : A) → In x xs → Fault' (f x) n → Fault x n)
      → First Fine' Fault' (map f xs) n → First Fine Fault xs n
  first_unmap [] g h r = absurd (first_nil r)
  first_unmap (x ∷ xs) g h (fault_here b) = fault_here (h x (here refl) b)
  first_unmap (x ∷ xs) g h (fault_later a r) = fault_later (g x (here refl) a) (first_unmap xs (λ y i. g y (there i)) (λ y i. h y (there i)) r)

-- a member is fine or has one fault: then the list's members are all fine or one of them has the first fault, which is one
module _ {A N : Type 0} {Fine : A → Type 0} {Fault : A → N → Type 0} (apart : (x : A) (n : N) → Fine x → Fault x n → ⊥) where
  pub first_not_fine : {xs : List A} {n : N} → All Fine xs → First Fine Fault xs n → ⊥
  first_not_fine (all_cons h hs) (fault_here {x = x} {n = n} f) = apart x n h f
  first_not_fine (all_cons h hs) (fault_later k f) = first_not_fine hs f
  first_not_fine {n = n} all_nil x3 = elim x3 [ ]

  pub first_one : ((x : A) (m n : N) → Fault x m → Fault x n → m ≡ n) → {xs : List A} {m n : N} → First Fine Fault xs m → First Fine Fault xs n → m ≡ n
  first_one one (fault_here {x = x} {n = m} f) (fault_here {n = n} g) = one x m n f g
  first_one one (fault_here {x = x} {n = m} f) (fault_later h g) = absurd (apart x m h f)
  first_one one (fault_later h f) (fault_here {x = x} {n = n} g) = absurd (apart x n h g)
  first_one one (fault_later h f) (fault_later k g) = first_one one f g

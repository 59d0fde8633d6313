-- Laws of flat_map: through ++, map and keep, and over the numbers below a bound, where its length is a sum and its members stand behind sums. Each by
-- recursion on the list or on the bound.
use Prim.Native.Nat.{ℕ, zero, suc, ◌+◌, ◌-◌, ◌*◌, ◌≤◌, ◌<◌}
use mathlib.Core.Path.{◌≡◌, refl, sym, ap, ap₂, ◌∙◌, subst, fun_ext}
use mathlib.Core.Bool.{Bool, true, false, ◌&&◌}
use mathlib.Core.List.{List, [], ◌∷◌, ◌++◌, map, flat_map, map-append, append_assoc, append-nil}
use mathlib.Core.Logic.{⊎_elim}
use native.Mathlib.Nat.{eq-or-lt_of_le, suc-mul}
use native.Mathlib.Numerals.{add-one}
use native.Mathlib.Omega.{arith}
use lib.Dec.{ltb}
use lib.ListN.{length, get_or, length-append, length-map, get_or-append}
use lib.Seq.{get_or-append-add}
use borrow.Author.Tests.{lt-ltb, le-ltb}
use Rattle.lists.specs.Choice.{pick}
use Rattle.lists.specs.All.{In, here, there}
use Rattle.lists.specs.Below.{one_if, count_below, numbers, keep}
use Rattle.lists.specs.Sum.{sum_below}
use Rattle.lists.proofs.Below.{in_numbers}

-- a choice by two tests
pub pick_and : {A : Type 0} (p q : Bool) (xs : List A) → pick (p && q) xs [] ≡ pick p (pick q xs []) []
pick_and true q xs = refl
pick_and false q xs = refl

module _ {A B : Type 0} where
  pub flat_none : (xs : List A) → flat_map {A = A} {B = B} (λ x. []) xs ≡ []
  unfolding flat_map
  flat_none [] = refl
  flat_none (x ∷ xs) = flat_none xs

  pub flat_join : (f : A → List B) (xs ys : List A) → flat_map f (xs ++ ys) ≡ flat_map f xs ++ flat_map f ys
  unfolding flat_map
  flat_join f [] ys = refl
  flat_join f (x ∷ xs) ys = rw (flat_join f xs ys, append_assoc)

  pub flat_same : (f g : A → List B) (xs : List A) → ((x : A) → In x xs → f x ≡ g x) → flat_map f xs ≡ flat_map g xs
  unfolding flat_map
  flat_same f g [] h = refl
  flat_same f g (x ∷ xs) h = rw (h x (here refl), flat_same f g xs (λ y i. h y (there i)))

  -- a list as the members that pass, each by itself
  pub flat_keep : (P : A → Bool) (f : A → List B) (xs : List A) → flat_map f (keep P xs) ≡ flat_map (λ x. pick (P x) (f x) []) xs
  unfolding flat_map keep
  flat_keep P f [] = refl
  flat_keep P f (x ∷ xs) = by_test (P x) (flat_keep P f xs)
    where
      rest : List B
      rest = flat_map (λ x. pick (P x) (f x) []) xs

      by_test : (b : Bool) → flat_map f (keep P xs) ≡ rest → flat_map f (pick b (x ∷ keep P xs) (keep P xs)) ≡ pick b (f x) [] ++ rest
      by_test true e = ap (λ r. f x ++ r) e
      by_test false e = e

  pub flat_one : (f : A → B) (xs : List A) → map f xs ≡ flat_map (λ x. f x ∷ []) xs
  unfolding flat_map
  flat_one f [] = refl
  flat_one f (x ∷ xs) = ap (λ r. f x ∷ r) (flat_one f xs)

  pub flat_map_lem : {C : Type 0} (f : B → List C) (g : A → B) (xs : List A) → flat_map f (map g xs) ≡ flat_map (λ x. f (g x)) xs
  unfolding flat_map
  flat_map_lem f g [] = refl
  flat_map_lem f g (x ∷ xs) = ap (λ r. f (g x) ++ r) (flat_map_lem f g xs)

  pub map_flat : {C : Type 0} (h : B → C) (f : A → List B) (xs : List A) → map h (flat_map f xs) ≡ flat_map (λ x. map h (f x)) xs
  unfolding flat_map
  map_flat h f [] = refl
  map_flat h f (x ∷ xs) = map-append h (f x) (flat_map f xs) ∙ ap (λ r. map h (f x) ++ r) (map_flat h f xs)

  pub flat_ext : (f g : A → List B) (xs : List A) → ((x : A) → f x ≡ g x) → flat_map f xs ≡ flat_map g xs
  flat_ext f g xs h = ap (λ k. flat_map k xs) (fun_ext h)

  -- a test that does not turn on the member, and lists of one member or none
  pub flat_when : (b : Bool) (P : A → Bool) (f : A → List B) (xs : List A)
      → pick b (flat_map (λ x. pick (P x) (f x) []) xs) [] ≡ flat_map (λ x. pick (b && P x) (f x) []) xs
  flat_when true P f xs = refl
  flat_when false P f xs = sym (flat_none xs)

  pub flat_single : (b : Bool) (f : A → List B) (x : A) → flat_map f (pick b (x ∷ []) []) ≡ pick b (f x) []
  unfolding flat_map
  flat_single true f x = append-nil (f x)
  flat_single false f x = refl

-- lists made of the members that pass, through one map or two
module _ {A B C : Type 0} (P : A → Bool) (g : A → B) (xs : List A) where
  pub flat_kept : (f : B → List C) → flat_map f (map g (keep P xs)) ≡ flat_map (λ x. pick (P x) (f (g x)) []) xs
  flat_kept f = flat_map_lem f g (keep P xs) ∙ flat_keep P (λ x. f (g x)) xs

  pub map_kept : (f : B → C) → map f (map g (keep P xs)) ≡ flat_map (λ x. pick (P x) (f (g x) ∷ []) []) xs
  map_kept f = flat_one f (map g (keep P xs)) ∙ flat_kept (λ b. f b ∷ [])

module _ {A : Type 0} where
  pub keep_keep : (P Q : A → Bool) (xs : List A) → keep P (keep Q xs) ≡ keep (λ x. Q x && P x) xs
  unfolding keep
  keep_keep P Q [] = refl
  keep_keep P Q (x ∷ xs) = by_test (Q x) (keep_keep P Q xs)
    where
      both : List A
      both = keep (λ x. Q x && P x) xs

      by_test : (b : Bool) → keep P (keep Q xs) ≡ both → keep P (pick b (x ∷ keep Q xs) (keep Q xs)) ≡ pick (b && P x) (x ∷ both) both
      by_test true e = rw e
      by_test false e = e

  pub keep_join : (P : A → Bool) (xs ys : List A) → keep P (xs ++ ys) ≡ keep P xs ++ keep P ys
  unfolding keep
  keep_join P [] ys = refl
  keep_join P (x ∷ xs) ys = by_test (P x) (keep_join P xs ys)
    where
      by_test : (b : Bool) → keep P (xs ++ ys) ≡ keep P xs ++ keep P ys
          → pick b (x ∷ keep P (xs ++ ys)) (keep P (xs ++ ys)) ≡ pick b (x ∷ keep P xs) (keep P xs) ++ keep P ys
      by_test true e = ap (λ r. x ∷ r) e
      by_test false e = e

  pub keep_over : {B : Type 0} (P : A → Bool) (f : B → List A) (xs : List B) → keep P (flat_map f xs) ≡ flat_map (λ x. keep P (f x)) xs
  unfolding keep flat_map
  keep_over P f [] = refl
  keep_over P f (x ∷ xs) = keep_join P (f x) (flat_map f xs) ∙ ap (λ ys. keep P (f x) ++ ys) (keep_over P f xs)

  pub keep_none : (P : A → Bool) (xs : List A) → ((x : A) → In x xs → P x ≡ false) → keep P xs ≡ []
  unfolding keep
  keep_none P [] h = refl
  keep_none P (x ∷ xs) h = rw (h x (here refl)) (keep_none P xs (λ y i. h y (there i)))

  -- a test that does not turn on the member
  pub map_when : {B : Type 0} (f : A → B) (b : Bool) (P : A → Bool) (xs : List A)
      → map f (keep (λ x. b && P x) xs) ≡ pick b (map f (keep P xs)) []
  map_when f true P xs = refl
  map_when f false P xs = ap (map f) (keep_none (λ x. false) xs (λ x i. refl))

  pub keep_map : {B : Type 0} (P : B → Bool) (f : A → B) (xs : List A) → keep P (map f xs) ≡ map f (keep (λ x. P (f x)) xs)
  unfolding keep
  keep_map P f [] = refl
  keep_map {B} P f (x ∷ xs) = by_test (P (f x)) (keep_map P f xs)
    where
      ys : List A
      ys = keep (λ x. P (f x)) xs

      by_test : (b : Bool) → keep P (map f xs) ≡ map f ys → pick b (f x ∷ keep P (map f xs)) (keep P (map f xs)) ≡ map f (pick b (x ∷ ys) ys)
      by_test true e = ap (λ r. f x ∷ r) e
      by_test false e = e

-- the numbers of two ranges that meet
pub numbers_join : (n m i : ℕ) → numbers (n + m) i ≡ numbers n i ++ numbers m (i + n)
unfolding numbers
numbers_join zero m i = let p : 0 + m ≡ m = omega arith in let q : i + 0 ≡ i = omega arith in rw (p, q)
numbers_join (suc n) m i =
    let p : suc n + m ≡ suc (n + m) = omega arith in
    let q : i + suc n ≡ suc i + n = omega arith in
    rw (p, q) (ap (λ r. i ∷ r) (numbers_join n m (suc i)))

-- the numbers before one, that one, and those after it
pub numbers_split : (n i : ℕ) → i < n → numbers n 0 ≡ numbers i 0 ++ (i ∷ numbers (n - suc i) (suc i))
unfolding numbers
numbers_split n i h =
    let p : n ≡ i + suc (n - suc i) = omega arith in
    let q : 0 + i ≡ i = omega arith in
    ap (λ m. numbers m 0) p ∙ numbers_join i (suc (n - suc i)) 0 ∙ ap (λ j. numbers i 0 ++ numbers (suc (n - suc i)) j) q

-- one more number
pub numbers_next : (n : ℕ) → numbers (suc n) 0 ≡ numbers n 0 ++ (n ∷ [])
unfolding numbers
numbers_next n =
    let p : suc n ≡ n + 1 = omega arith in
    let q : 0 + n ≡ n = omega arith in
    ap (λ m. numbers m 0) p ∙ numbers_join n 1 0 ∙ ap (λ j. numbers n 0 ++ (j ∷ [])) q

pub keep_next : (P : ℕ → Bool) (n : ℕ) → keep P (numbers (suc n) 0) ≡ keep P (numbers n 0) ++ pick (P n) (n ∷ []) []
unfolding keep
keep_next P n = ap (keep P) (numbers_next n) ∙ keep_join P (numbers n 0) (n ∷ [])

pub flat_next : {B : Type 0} (f : ℕ → List B) (n : ℕ) → flat_map f (numbers (suc n) 0) ≡ flat_map f (numbers n 0) ++ f n
unfolding flat_map
flat_next f n = ap (flat_map f) (numbers_next n) ∙ flat_join f (numbers n 0) (n ∷ []) ∙ ap (λ r. flat_map f (numbers n 0) ++ r) (append-nil (f n))

pub numbers_suc : (n i : ℕ) → numbers n (suc i) ≡ map suc (numbers n i)
unfolding numbers
numbers_suc zero i = refl
numbers_suc (suc n) i = ap (λ r. suc i ∷ r) (numbers_suc n (suc i))

-- the numbers below n are those below a greater bound that pass this test
pub flat_below : {B : Type 0} (f : ℕ → List B) (n m : ℕ) → n ≤ m
    → flat_map f (numbers n 0) ≡ flat_map (λ i. pick (ltb i n) (f i) []) (numbers m 0)
flat_below {B} f n m h =
    sym
    (ap (flat_map g) split
    ∙ flat_join g (numbers n 0) (numbers (m - n) (0 + n))
    ∙ ap₂ (λ (xs : List B) (ys : List B). xs ++ ys) low high
    ∙ append-nil (flat_map f (numbers n 0)))
  where
    g : ℕ → List B
    g i = pick (ltb i n) (f i) []

    split : numbers m 0 ≡ numbers n 0 ++ numbers (m - n) (0 + n)
    split = let p : m ≡ n + (m - n) = omega arith in ap (λ k. numbers k 0) p ∙ numbers_join n (m - n) 0

    low : flat_map g (numbers n 0) ≡ flat_map f (numbers n 0)
    low = flat_same g f (numbers n 0) (λ i k. rw (lt-ltb i n (omega (arith, (in_numbers n 0 i k).1))))

    high : flat_map g (numbers (m - n) (0 + n)) ≡ []
    high = flat_same g (λ i. []) (numbers (m - n) (0 + n)) (λ i k. rw (le-ltb i n (omega (arith, (in_numbers (m - n) (0 + n) i k).0))))
        ∙ flat_none (numbers (m - n) (0 + n))

-- lengths as sums
pub keep_length : (P : ℕ → Bool) (n : ℕ) → length (keep P (numbers n 0)) ≡ count_below P n
unfolding numbers keep count_below
keep_length P zero = refl
keep_length P (suc n) =
    ap length (keep_next P n) ∙ length-append (keep P (numbers n 0)) (pick (P n) (n ∷ []) []) ∙ ap₂ (λ a b. a + b) (keep_length P n) (one (P n))
  where
    one : (b : Bool) → length (pick b (n ∷ []) []) ≡ one_if b
    one true = refl
    one false = refl

pub flat_length : {B : Type 0} (f : ℕ → List B) (n : ℕ) → length (flat_map f (numbers n 0)) ≡ sum_below (λ i. length (f i)) n
unfolding numbers flat_map sum_below
flat_length f zero = refl
flat_length f (suc n) = ap length (flat_next f n) ∙ length-append (flat_map f (numbers n 0)) (f n) ∙ ap (λ a. a + length (f n)) (flat_length f n)

pub sum_next : (f : ℕ → ℕ) (n : ℕ) → sum_below f (n + 1) ≡ sum_below f n + f n
unfolding sum_below
sum_next f n = ap (sum_below f) (add-one n)

pub sum_same : (f g : ℕ → ℕ) (n : ℕ) → ((i : ℕ) → i < n → f i ≡ g i) → sum_below f n ≡ sum_below g n
unfolding sum_below
sum_same f g zero h = refl
sum_same f g (suc n) h = ap₂ (λ a b. a + b) (sum_same f g n (λ i l. h i (omega arith))) (h n (omega arith))

-- where nothing is added
pub sum_stays : (f : ℕ → ℕ) (m n : ℕ) → m ≤ n → ((i : ℕ) → m ≤ i → i < n → f i ≡ 0) → sum_below f m ≡ sum_below f n
unfolding sum_below
sum_stays f m zero h none = let e : m ≡ 0 = omega arith in ap (sum_below f) e
sum_stays f m (suc n) h none =
    ⊎_elim (λ (e : m ≡ suc n). ap (sum_below f) e)
    (λ (l : m < suc n). omega (arith, sum_stays f m n (omega arith) (λ i a b. none i a (omega arith)), none n (omega arith) (omega arith))) (eq-or-lt_of_le h)

-- a sum reaches behind each of its parts
pub sum_reaches : (c : ℕ → ℕ) (n i : ℕ) → i < n → sum_below c i + c i ≤ sum_below c n
unfolding sum_below
sum_reaches c zero i h = absurd (omega arith)
sum_reaches c (suc n) i h =
    ⊎_elim (λ (e : i ≡ n). subst (λ j. sum_below c j + c j ≤ sum_below c n + c n) (sym e) (omega arith))
    (λ (l : i < n). omega (arith, sum_reaches c n i l)) (eq-or-lt_of_le (omega arith))

pub sum_at_most : (c : ℕ → ℕ) (most : ℕ) → ((i : ℕ) → c i ≤ most) → (n : ℕ) → sum_below c n ≤ n * most
unfolding sum_below
sum_at_most c most h zero = omega arith
sum_at_most c most h (suc n) = rw (suc-mul n most) (omega (arith, sum_at_most c most h n, h n))

-- where f makes c i members of i, the k-th of these stands k places behind all that f makes of the numbers before i
pub flat_at : {B : Type 0} (f : ℕ → List B) (c : ℕ → ℕ) (n : ℕ) → ((i : ℕ) → i < n → length (f i) ≡ c i) → (i k : ℕ) (d : B) → i < n → k < c i
    → get_or (flat_map f (numbers n 0)) (sum_below c i + k) d ≡ get_or (f i) k d
unfolding numbers flat_map
flat_at {B} f c n size i k d h l =
    ap (λ xs. get_or (flat_map f xs) (sum_below c i + k) d) (numbers_split n i h)
    ∙ ap₂ (λ (xs : List B) (m : ℕ). get_or xs (m + k) d) (flat_join f (numbers i 0) (i ∷ numbers (n - suc i) (suc i))) (sym before)
    ∙ get_or-append-add (flat_map f (numbers i 0)) (f i ++ flat_map f (numbers (n - suc i) (suc i))) k d
    ∙ get_or-append (f i) (flat_map f (numbers (n - suc i) (suc i))) d k (omega (arith, size i h))
  where
    before : length (flat_map f (numbers i 0)) ≡ sum_below c i
    before = flat_length f i ∙ sum_same (λ j. length (f j)) c i (λ j l. size j (omega arith))

-- what is made of a number that passes stands behind what is made of those before it
pub kept_at : {B : Type 0} (P : ℕ → Bool) (f : ℕ → B) (n i : ℕ) (d : B) → i < n → P i ≡ true
    → get_or (map f (keep P (numbers n 0))) (count_below P i) d ≡ f i
unfolding keep
kept_at {B} P f n i d h p =
    ap (λ xs. get_or (map f xs) (count_below P i) d) split
    ∙ ap (λ xs. get_or xs (count_below P i) d) (map-append f front (i ∷ later))
    ∙ ap (λ k. get_or (map f front ++ (f i ∷ map f later)) k d) place
    ∙ get_or-append-add (map f front) (f i ∷ map f later) 0 d
  where
    front : List ℕ
    front = keep P (numbers i 0)

    later : List ℕ
    later = keep P (numbers (n - suc i) (suc i))

    split : keep P (numbers n 0) ≡ front ++ (i ∷ later)
    split =
        ap (keep P) (numbers_split n i h)
        ∙ keep_join P (numbers i 0) (i ∷ numbers (n - suc i) (suc i))
        ∙ ap (λ b. front ++ pick b (i ∷ later) later) p

    place : count_below P i ≡ length (map f front) + 0
    place = sym (length-map front f ∙ keep_length P i) ∙ omega arith

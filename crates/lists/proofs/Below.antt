-- Laws of the counts, searches and lists over the numbers below a bound, each by recursion on the bound or on the list.
use Prim.Native.Nat.{ℕ, zero, suc, ◌+◌, ◌-◌, ◌≤◌, ◌<◌}
use mathlib.Core.Path.{◌≡◌, refl, ap, sym, subst}
use mathlib.Core.Bool.{Bool, true, false}
use mathlib.Core.List.{List, [], ◌∷◌}
use mathlib.Core.Logic.{◌⊎◌, inl, inr, ⊎_elim}
use native.Mathlib.Omega.{arith}
use native.Mathlib.Nat.{eq-or-lt_of_le}
use native.Mathlib.Numerals.{add-one}
use borrow.Author.Tests.{lt-ltb}
use lib.Dec.{T, ltb, ltb→lt, lt→ltb}
use Rattle.lists.specs.Choice.{pick}
use Rattle.lists.specs.All.{In, here, there}
use Rattle.lists.specs.Below.{one_if, count_below, some_below, NoneBelow, numbers, keep}
use Rattle.lists.proofs.All.{in_nil, in_cons}

-- a test adds one where it passes
pub one_where : (b : Bool) → T b → one_if b ≡ 1
one_where true h = refl
one_where false h = absurd h

none_where : (b : Bool) → (T b → ⊥) → one_if b ≡ 0
none_where true f = absurd (f tt)
none_where false f = refl

one_at_most : (b : Bool) → one_if b ≤ 1
one_at_most true = omega arith
one_at_most false = omega arith

passes_or_not : (b : Bool) → T b ⊎ (T b → ⊥)
passes_or_not true = inl tt
passes_or_not false = inr (λ h. h)

below_or_last : (i n : ℕ) → i < suc n → (i ≡ n) ⊎ (i < n)
below_or_last i n h = eq-or-lt_of_le (omega arith)

module _ (P : ℕ → Bool) where
  pub count_at_most : (n : ℕ) → count_below P n ≤ n
  unfolding count_below
  count_at_most zero = omega arith
  count_at_most (suc n) = omega (arith, count_at_most n, one_at_most (P n))

  -- one more row
  pub count_next : (n : ℕ) → count_below P (n + 1) ≡ count_below P n + one_if (P n)
  unfolding count_below
  count_next n = rw add-one

  -- a number that passes is one more than those before it that do
  pub count_passes : (n i : ℕ) → i < n → P i ≡ true → count_below P i < count_below P n
  unfolding count_below
  count_passes zero i h p = absurd (omega arith)
  count_passes (suc n) i h p =
      ⊎_elim (λ (e : i ≡ n). subst (λ j. count_below P i < count_below P j + one_if (P j)) e (omega (arith, one_where (P i) (subst T (sym p) tt))))
      (λ (l : i < n). omega (arith, count_passes n i l p)) (below_or_last i n h)

  -- where all pass, the count is the bound
  pub count_all : (n : ℕ) → ((i : ℕ) → i < n → T (P i)) → count_below P n ≡ n
  unfolding count_below
  count_all zero f = refl
  count_all (suc n) f = omega (arith, count_all n (λ i h. f i (omega arith)), one_where (P n) (f n (omega arith)))

  -- where none passes from m on, the count stays
  pub count_stays : (m n : ℕ) → m ≤ n → ((i : ℕ) → m ≤ i → i < n → P i ≡ false) → count_below P m ≡ count_below P n
  unfolding count_below
  count_stays m zero h f = let e : m ≡ 0 = omega arith in ap (count_below P) e
  count_stays m (suc n) h f =
      ⊎_elim (λ (e : m ≡ suc n). ap (count_below P) e)
      (λ (l : m < suc n). omega (arith, count_stays m n (omega arith) (λ i g k. f i g (omega arith)), ap one_if (f n (omega arith) (omega arith)))) (eq-or-lt_of_le h)

  -- where none passes, it is 0
  pub count_none_below : (n : ℕ) → NoneBelow P n → count_below P n ≡ 0
  unfolding count_below
  count_none_below n f = sym (count_stays 0 n (omega arith) (λ i g l. f i l))

  pub count_never : ((i : ℕ) → P i ≡ false) → (n : ℕ) → count_below P n ≡ 0
  count_never f n = count_none_below n (λ i l. f i)

  -- where just those from m on pass, they are counted
  pub count_from : (m n : ℕ) → m ≤ n → NoneBelow P m → ((i : ℕ) → m ≤ i → i < n → P i ≡ true) → count_below P n ≡ n - m
  unfolding count_below
  count_from m zero h f g = omega arith
  count_from m (suc n) h f g =
      ⊎_elim (λ (e : m ≡ suc n). omega (arith, count_none_below (suc n) (λ i l. f i (omega arith))))
      (λ (l : m < suc n). omega (arith, count_from m n (omega arith) f (λ i k l. g i k (omega arith)), ap one_if (g n (omega arith) (omega arith))))
      (eq-or-lt_of_le h)

  -- P passes below whatever passes: below n, the numbers that pass are those below the count
  abbrev pub Downward : ℕ → Type 0
  Downward n = (i j : ℕ) → i < j → j < n → T (P j) → T (P i)

  abbrev Boundary : ℕ → ℕ → Type 0
  Boundary n i = (T (P i) → i < count_below P n) × (i < count_below P n → T (P i))

  pub count_boundary : (n : ℕ) → Downward n → (i : ℕ) → i < n → Boundary n i
  unfolding count_below
  count_boundary zero down i h = absurd (omega arith)
  count_boundary (suc n) down i h = go (passes_or_not (P n)) (count_boundary n (λ i j l m. down i j l (omega arith)))
    where
      below : T (P n) → (j : ℕ) → j < n → T (P j)
      below p j l = down j n l (omega arith) p

      go : T (P n) ⊎ (T (P n) → ⊥) → ((j : ℕ) → j < n → Boundary n j) → Boundary (suc n) i
      go (inl p) ih =
          let c : count_below P n + one_if (P n) ≡ suc n = omega (arith, count_all n (below p), one_where (P n) p) in
          (λ q. omega arith, λ q. ⊎_elim (λ (e : i ≡ n). subst (λ x. T (P x)) (sym e) p) (λ (l : i < n). below p i l) (below_or_last i n h))
      go (inr f) ih =
          let c : count_below P n + one_if (P n) ≡ count_below P n = omega (arith, none_where (P n) f) in
          let m : count_below P n ≤ n = count_at_most n in
          ⊎_elim
          (λ (e : i ≡ n). (λ q. absurd (f (subst (λ x. T (P x)) e q)), λ q. absurd (omega arith)))
          (λ (l : i < n). (λ q. omega (arith, (ih i l).0 q), λ q. (ih i l).1 (omega arith)))
          (below_or_last i n h)

  -- some number passes: one is found, and one that is shown makes it so
  pub some_found : (n : ℕ) → T (some_below P n) → (i : ℕ) × (i < n) × T (P i)
  unfolding count_below
  some_found zero h = absurd h
  some_found (suc n) h = go (passes_or_not (P n)) (some_found n)
    where
      go : T (P n) ⊎ (T (P n) → ⊥) → (T (some_below P n) → (i : ℕ) × (i < n) × T (P i)) → (i : ℕ) × (i < suc n) × T (P i)
      go (inl p) ih = (n, omega arith, p)
      go (inr f) ih =
          let r = ih (lt→ltb 0 (count_below P n) (omega (arith, ltb→lt 0 (count_below P n + one_if (P n)) h, none_where (P n) f))) in
          (r.0, omega (arith, r.1), r.2)

  count_shown : (n i : ℕ) → i < n → T (P i) → 0 < count_below P n
  unfolding count_below
  count_shown zero i h p = absurd (omega arith)
  count_shown (suc n) i h p =
      ⊎_elim (λ (e : i ≡ n). let o : one_if (P n) ≡ 1 = one_where (P n) (subst (λ x. T (P x)) e p) in omega arith)
      (λ (l : i < n). omega (arith, count_shown n i l p)) (below_or_last i n h)

  pub some_shown : (n i : ℕ) → i < n → T (P i) → T (some_below P n)
  some_shown n i h p = lt→ltb 0 (count_below P n) (count_shown n i h p)

  pub some_passes : (n i : ℕ) → i < n → P i ≡ true → some_below P n ≡ true
  some_passes n i h p = lt-ltb 0 (count_below P n) (omega (arith, count_passes n i h p))

  pub some_fails : (n : ℕ) → NoneBelow P n → some_below P n ≡ false
  some_fails n f = ap (ltb 0) (count_none_below n f)

-- where one test passes exactly where one of two others does, and these exclude each other, its count is their sum
pub count_sum : (P Q R : ℕ → Bool) → ((i : ℕ) → one_if (R i) ≡ one_if (P i) + one_if (Q i)) → (n : ℕ) → count_below R n ≡ count_below P n + count_below Q n
unfolding count_below
count_sum P Q R h zero = refl
count_sum P Q R h (suc n) = omega (arith, count_sum P Q R h n, h n)

-- a test that passes only where another does
pub count_less : (P Q : ℕ → Bool) → ((i : ℕ) → one_if (P i) ≤ one_if (Q i)) → (n : ℕ) → count_below P n ≤ count_below Q n
unfolding count_below
count_less P Q h zero = omega arith
count_less P Q h (suc n) = omega (arith, count_less P Q h n, h n)

-- the n numbers from i on
pub numbers_in : (n i j : ℕ) → i ≤ j → j < i + n → In j (numbers n i)
unfolding numbers
numbers_in zero i j l h = absurd (omega arith)
numbers_in (suc n) i j l h =
    ⊎_elim (λ (e : i ≡ j). here (sym e)) (λ (m : i < j). there (numbers_in n (suc i) j m (omega arith))) (eq-or-lt_of_le l)

pub in_numbers : (n i j : ℕ) → In j (numbers n i) → (i ≤ j) × (j < i + n)
unfolding numbers
in_numbers zero i j h = absurd (in_nil h)
in_numbers (suc n) i j h = go (in_cons h) (in_numbers n (suc i) j)
  where
    go : (j ≡ i) ⊎ In j (numbers n (suc i)) → (In j (numbers n (suc i)) → (suc i ≤ j) × (j < suc i + n)) → (i ≤ j) × (j < i + suc n)
    go (inl e) ih = (omega arith, omega arith)
    go (inr k) ih = (omega (arith, (ih k).0), omega (arith, (ih k).1))

-- the members that pass
module _ {A : Type 0} (P : A → Bool) where
  pub keep_in : {x : A} {xs : List A} → In x xs → T (P x) → In x (keep P xs)
  unfolding keep
  keep_in {x} (here {x = y} {xs = ys} e) p = go (P y) (subst (λ z. T (P z)) e p)
    where
      go : (b : Bool) → T b → In x (pick b (y ∷ keep P ys) (keep P ys))
      go true q = here e
      go false q = absurd q
  keep_in {x} (there {x = y} {xs = ys} i) p = go (P y) (keep_in i p)
    where
      go : (b : Bool) → In x (keep P ys) → In x (pick b (y ∷ keep P ys) (keep P ys))
      go true k = there k
      go false k = k

  pub in_keep : {x : A} (xs : List A) → In x (keep P xs) → In x xs × T (P x)
  unfolding keep
  in_keep [] i = absurd (in_nil i)
  in_keep {x} (y ∷ ys) i = go (P y) refl i (in_keep ys)
    where
      later : (In x (keep P ys) → In x ys × T (P x)) → In x (keep P ys) → In x (y ∷ ys) × T (P x)
      later ih k = let r = ih k in (there r.0, r.1)

      go : (b : Bool) → P y ≡ b → In x (pick b (y ∷ keep P ys) (keep P ys)) → (In x (keep P ys) → In x ys × T (P x)) → In x (y ∷ ys) × T (P x)
      go true q i ih =
          ⊎_elim (λ (e : x ≡ y). (here e, subst (λ z. T (P z)) (sym e) (subst T (sym q) tt))) (λ (k : In x (keep P ys)). later ih k) (in_cons i)
      go false q i ih = later ih i

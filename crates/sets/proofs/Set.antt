-- Laws of the sets of identifiers, from those of the digits at 64 digits: the union is the set of either test, two sets meet where a member of one passes the
-- other's test, and a set's count, lowest and highest digit are those of any list of identifiers that it is the set of, by recursion on that list.
use Prim.Native.Nat.{ℕ, zero, suc, ◌+◌, ◌-◌, ◌*◌, ◌%◌, ◌^◌, ◌≤◌, ◌<◌, min, max}
use mathlib.Core.Path.{◌≡◌, refl, sym, ap, ◌∙◌}
use mathlib.Core.Bool.{Bool, true, false, not, ◌&&◌, ◌||◌, or-false, true≢false}
use mathlib.Core.List.{List, [], ◌∷◌, ◌++◌}
use native.Mathlib.Omega.{arith}
use native.Mathlib.Nat.{one-mul}
use lib.Dec.{eqb, eqb-suc-zero, eqb-suc-suc}
use borrow.Author.Tests.{eq-eqb, ne_eqb}
use lib.Pow.{shl_exact}
use lib.Bits.{bit_and, bit_or}
use lib.Count.{ones, ones_in, count_leading_zeros, count_trailing_zeros, leading_of_zero, trailing_of_zero}
use Rattle.lists.specs.Choice.{pick}
use Rattle.lists.specs.All.{All, In}
use Rattle.lists.specs.Different.{some_of, has, different, lowest, highest}
use Rattle.lists.proofs.All.{all_at, all_head, all_tail}
use Rattle.lists.proofs.Different.{some_join, some_in, some_member, has_in, in_has}
use Rattle.sets.specs.Set.{identifier_limit, digits_of, set_where, set_of, Identifier}
use Rattle.sets.proofs.Digits.{later, put, put_some, digits_same, digits_lt, digits_none, digits_some, digits_one, digits_or, digits_and}
use Rattle.sets.proofs.Digits.{ones_put, trailing_put, length_put}

-- sets by a test
pub set_where_same : (P Q : ℕ → Bool) → ((x : ℕ) → P x ≡ Q x) → set_where P ≡ set_where Q
set_where_same P Q h = digits_same _ _ (λ i. h (suc i)) identifier_limit

pub set_where_none : set_where (λ x. false) ≡ 0
set_where_none = digits_none (λ i. false) identifier_limit (λ j h. refl)

pub set_where_or : (P Q : ℕ → Bool) → bit_or (set_where P) (set_where Q) ≡ set_where (λ x. P x || Q x)
set_where_or P Q = digits_or (later P) (later Q) identifier_limit

pub set_lt : (P : ℕ → Bool) → set_where P < 2 ^ 64
set_lt P = digits_lt (later P) identifier_limit

-- sets of a list
pub set_none : set_of [] ≡ 0
unfolding set_of some_of
set_none = set_where_none

pub set_join : (xs ys : List ℕ) → bit_or (set_of xs) (set_of ys) ≡ set_of (xs ++ ys)
unfolding set_of
set_join xs ys = set_where_or (has xs) (has ys) ∙ set_where_same _ _ (λ x. sym (some_join (λ y. eqb x y) xs ys))

pub set_of_lt : (xs : List ℕ) → set_of xs < 2 ^ 64
unfolding set_of
set_of_lt xs = set_lt (has xs)

-- one identifier more
pub set_put : (k : ℕ) (xs : List ℕ) → set_of (suc k ∷ xs) ≡ digits_of (put k (later (has xs))) identifier_limit
unfolding set_of some_of
set_put k xs = digits_same _ _ (λ i. ap (λ b. b || has xs (suc i)) (eqb-suc-suc i k)) identifier_limit

-- the set of one number: its digit, and none where it can't name an identifier
one_where : (k : ℕ) → set_of (suc k ∷ []) ≡ digits_of (λ i. eqb i k) identifier_limit
unfolding some_of
one_where k = set_put k [] ∙ digits_same _ _ (λ i. or-false (eqb i k)) identifier_limit

pub single_zero : (x : ℕ) → x ≡ 0 → set_of (x ∷ []) ≡ 0
unfolding set_of some_of
single_zero x e = ap (λ y. set_of (y ∷ [])) e ∙ digits_none _ identifier_limit (λ j h. ap (λ b. b || false) (eqb-suc-zero j))

pub single_past : (x : ℕ) → identifier_limit < x → set_of (x ∷ []) ≡ 0
single_past zero h = absurd (omega arith)
single_past (suc k) h = one_where k ∙ digits_none (λ i. eqb i k) identifier_limit (λ j l. ne_eqb j k (λ e. omega arith))

pub single_digit : (x : ℕ) → Identifier x → (1 * 2 ^ (x - 1)) % 2 ^ 64 ≡ set_of (x ∷ [])
single_digit zero h = absurd (omega arith)
single_digit (suc k) h =
    let place : suc k - 1 ≡ k = omega arith in
    rw place (shl_exact 1 k 64 (omega arith) (omega arith) ∙ one-mul (2 ^ k) ∙ sym (digits_one identifier_limit k (omega arith)) ∙ sym (one_where k))

-- two tests that both pass, and one that does not
and_parts : (b c : Bool) → (b && c) ≡ true → (b ≡ true) × (c ≡ true)
and_parts true c e = (refl, e)
and_parts false c e = absurd (true≢false (sym e))

fails : (b : Bool) → (b ≡ true → ⊥) → b ≡ false
fails true f = absurd (f refl)
fails false f = refl

-- two sets meet where a member of the one passes the other's test
module _ (xs : List ℕ) (P : ℕ → Bool) (h : All Identifier xs) where
  abbrev both : ℕ → Bool
  both i = has xs (suc i) && P (suc i)

  both_found : (i : ℕ) → both i ≡ true → some_of P xs ≡ true
  both_found i e = let r = and_parts (has xs (suc i)) (P (suc i)) e in some_in P (in_has (suc i) xs r.0) r.1

  meets_none : some_of P xs ≡ false → digits_of both identifier_limit ≡ 0
  meets_none f = digits_none both identifier_limit (λ i l. fails (both i) (λ e. true≢false (sym (both_found i e) ∙ f)))

  meets_one : some_of P xs ≡ true → 0 < digits_of both identifier_limit
  meets_one t = go (some_member P xs t)
    where
      go : (x : ℕ) × In x xs × (P x ≡ true) → 0 < digits_of both identifier_limit
      go (zero, i, p) = absurd (omega (arith, (all_at h i).0))
      go (suc k, i, p) = digits_some both identifier_limit k (omega (arith, (all_at h i).1)) (rw (has_in (suc k) i, p))

  pub meets_some : not (eqb (bit_and (set_of xs) (set_where P)) 0) ≡ some_of P xs
  unfolding set_of
  meets_some =
      ap (λ a. not (eqb a 0)) (digits_and (later (has xs)) (later P) identifier_limit) ∙ go (some_of P xs) refl
    where
      go : (b : Bool) → some_of P xs ≡ b → not (eqb (digits_of both identifier_limit) 0) ≡ b
      go true e = ap not (ne_eqb (digits_of both identifier_limit) 0 (λ z. omega (arith, meets_one e)))
      go false e = ap not (eq-eqb (digits_of both identifier_limit) 0 (meets_none e))

-- what one identifier more does to the count, the lowest and the highest of a set
module _ (xs : List ℕ) where
  count_put : (x : ℕ) → Identifier x → ones (set_of (x ∷ xs)) ≡ pick (has xs x) (ones (set_of xs)) (suc (ones (set_of xs)))
  unfolding set_of
  count_put zero h = absurd (omega (arith, h.0))
  count_put (suc k) h = ap ones (set_put k xs) ∙ ones_put identifier_limit k (later (has xs)) h.1

  lowest_put : (x : ℕ) → Identifier x → suc (count_trailing_zeros 64 (set_of (x ∷ xs))) ≡ min x (suc (count_trailing_zeros 64 (set_of xs)))
  unfolding set_of
  lowest_put zero h = absurd (omega (arith, h.0))
  lowest_put (suc k) h = ap (λ a. suc (count_trailing_zeros 64 a)) (set_put k xs) ∙ omega (arith, trailing_put identifier_limit k (later (has xs)) h.1)

  highest_put : (x : ℕ) → Identifier x → 64 - count_leading_zeros 64 (set_of (x ∷ xs)) ≡ max x (64 - count_leading_zeros 64 (set_of xs))
  unfolding set_of
  highest_put zero h = absurd (omega (arith, h.0))
  highest_put (suc k) h = ap (λ a. 64 - count_leading_zeros 64 a) (set_put k xs) ∙ length_put identifier_limit k (later (has xs)) h.1

  set_some : (x : ℕ) → Identifier x → set_of (x ∷ xs) ≡ 0 → ⊥
  set_some zero h e = omega (arith, h.0)
  set_some (suc k) h e = omega (arith, set_put k xs, put_some identifier_limit k (later (has xs)) h.1)

ones_none : ones 0 ≡ 0
unfolding ones ones_in
ones_none = refl

-- so a set of identifiers has those of every list that it is the set of
pub count_set : (xs : List ℕ) → All Identifier xs → ones (set_of xs) ≡ different xs
unfolding different
count_set [] h = ap ones set_none ∙ ones_none
count_set (x ∷ xs) h = count_put xs x (all_head h) ∙ ap (λ n. pick (has xs x) n (suc n)) (count_set xs (all_tail h))

pub lowest_set : (x : ℕ) (xs : List ℕ) → All Identifier (x ∷ xs) → suc (count_trailing_zeros 64 (set_of (x ∷ xs))) ≡ lowest (x ∷ xs)
unfolding lowest
lowest_set x [] h =
    let bound : x ≤ 64 = (all_head h).1 in
    lowest_put [] x (all_head h) ∙ rw set_none (omega (arith, trailing_of_zero 64))
lowest_set x (y ∷ ys) h = lowest_put (y ∷ ys) x (all_head h) ∙ ap (min x) (lowest_set y ys (all_tail h))

pub highest_set : (xs : List ℕ) → All Identifier xs → 64 - count_leading_zeros 64 (set_of xs) ≡ highest xs
unfolding highest
highest_set [] h = rw set_none (omega (arith, leading_of_zero 64))
highest_set (x ∷ xs) h = highest_put xs x (all_head h) ∙ ap (max x) (highest_set xs (all_tail h))

-- the empty set is that of the empty list only
pub lowest_none : (xs : List ℕ) → All Identifier xs → set_of xs ≡ 0 → lowest xs ≡ 0
unfolding lowest
lowest_none [] h e = refl
lowest_none (x ∷ xs) h e = absurd (set_some xs x (all_head h) e)

pub lowest_some : (xs : List ℕ) → All Identifier xs → (set_of xs ≡ 0 → ⊥) → count_trailing_zeros 64 (set_of xs) + 1 ≡ lowest xs
lowest_some [] h f = absurd (f set_none)
lowest_some (x ∷ xs) h f = omega (arith, lowest_set x xs h)

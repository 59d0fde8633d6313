-- Laws of the number whose n lowest digits are those of the numbers below n that pass, for any n, by recursion on n: its lowest digit is the test of 0, and half
-- of it is the same number for the tests from 1 on, so the bit operations and the counts of digits go on by one step each.
use Prim.Native.Nat.{ℕ, zero, suc, ◌+◌, ◌-◌, ◌*◌, ◌/◌, ◌%◌, ◌^◌, ◌<◌, min, max}
use mathlib.Core.Path.{◌≡◌, refl, sym, ap, ◌∙◌, fun_ext}
use mathlib.Core.Bool.{Bool, true, false, ◌&&◌, ◌||◌}
use mathlib.Core.Logic.{⊎_elim}
use native.Mathlib.Omega.{arith}
use native.Mathlib.Nat.{pow-suc, eq-zero-or-pos}
use lib.Dec.{eqb, eqb-zero-suc, eqb-suc-zero, eqb-suc-suc}
use borrow.Author.Tests.{eq-eqb}
use lib.Arith.{digits_div, digits_mod}
use lib.Bits.{bit_and, bit_or, and_step, or_step}
use lib.Count.{ones, ones_step, count_leading_zeros, leading_of_zero, leading_le, count_trailing_zeros, under}
use Rattle.lists.specs.Choice.{pick}
use Rattle.lists.specs.Below.{one_if, NoneBelow}
use Rattle.sets.specs.Set.{digits_of}

-- the tests of the numbers from 1 on
abbrev pub later : (ℕ → Bool) → ℕ → Bool
later P i = P (suc i)

-- the numbers that pass, and k
abbrev pub put : ℕ → (ℕ → Bool) → ℕ → Bool
put k P i = eqb i k || P i

digit_lt : (b : Bool) → one_if b < 2
digit_lt true = omega arith
digit_lt false = omega arith

turned : (d q : ℕ) → d + 2 * q ≡ q * 2 + d
turned d q = omega arith

digits_zero : (P : ℕ → Bool) → digits_of P 0 ≡ 0
unfolding digits_of
digits_zero P = refl

module _ (P : ℕ → Bool) (n : ℕ) where
  -- the lowest digit, and the others
  pub digits_low : digits_of P (suc n) % 2 ≡ one_if (P 0)
  unfolding digits_of
  digits_low = ap (λ a. a % 2) (turned (one_if (P 0)) (digits_of (later P) n)) ∙ digits_mod (digits_of (later P) n) (digit_lt (P 0))

  pub digits_high : digits_of P (suc n) / 2 ≡ digits_of (later P) n
  unfolding digits_of
  digits_high = ap (λ a. a / 2) (turned (one_if (P 0)) (digits_of (later P) n)) ∙ digits_div (digits_of (later P) n) (digit_lt (P 0))

  pub digits_split : digits_of P (suc n) ≡ one_if (P 0) + 2 * digits_of (later P) n
  unfolding digits_of
  digits_split = refl

pub digits_same : (P Q : ℕ → Bool) → ((i : ℕ) → P i ≡ Q i) → (n : ℕ) → digits_of P n ≡ digits_of Q n
digits_same P Q h n = ap (λ R. digits_of R n) (fun_ext h)

-- no more than n digits
pub digits_lt : (P : ℕ → Bool) (n : ℕ) → digits_of P n < 2 ^ n
unfolding digits_of
digits_lt P zero = omega arith
digits_lt P (suc n) = rw pow-suc (omega (arith, digits_lt (later P) n, digit_lt (P 0)))

-- none passes, or one does
pub digits_none : (P : ℕ → Bool) (n : ℕ) → NoneBelow P n → digits_of P n ≡ 0
unfolding digits_of
digits_none P zero f = refl
digits_none P (suc n) f = omega (arith, ap one_if (f 0 (omega arith)), digits_none (later P) n (λ j h. f (suc j) (omega arith)))

pub digits_some : (P : ℕ → Bool) (n i : ℕ) → i < n → P i ≡ true → 0 < digits_of P n
unfolding digits_of
digits_some P zero i h p = absurd (omega arith)
digits_some P (suc n) zero h p = omega (arith, ap one_if p)
digits_some P (suc n) (suc i) h p = omega (arith, digits_some (later P) n i (omega arith) p)

-- one digit only
pub digits_one : (n k : ℕ) → k < n → digits_of (λ i. eqb i k) n ≡ 2 ^ k
unfolding digits_of
digits_one zero k h = absurd (omega arith)
digits_one (suc n) zero h = omega (arith, digits_none (λ i. eqb (suc i) 0) n (λ j l. eqb-suc-zero j))
digits_one (suc n) (suc k) h =
    let same : digits_of (λ i. eqb (suc i) (suc k)) n ≡ digits_of (λ i. eqb i k) n = digits_same _ _ (λ i. eqb-suc-suc i k) n in
    rw pow-suc (omega (arith, ap one_if (eqb-zero-suc k), same, digits_one n k (omega arith)))

-- the union and the intersection
or_digit : (b c : Bool) → max (one_if b) (one_if c) ≡ one_if (b || c)
or_digit true true = refl
or_digit true false = refl
or_digit false true = refl
or_digit false false = refl

and_digit : (b c : Bool) → min (one_if b) (one_if c) ≡ one_if (b && c)
and_digit true true = refl
and_digit true false = refl
and_digit false true = refl
and_digit false false = refl

pub digits_or : (P Q : ℕ → Bool) (n : ℕ) → bit_or (digits_of P n) (digits_of Q n) ≡ digits_of (λ i. P i || Q i) n
digits_or P Q zero = simp digits_zero
digits_or P Q (suc n) =
    or_step (digits_of P (suc n)) (digits_of Q (suc n))
    ∙ rw (digits_high P n, digits_high Q n, digits_low P n, digits_low Q n, digits_or (later P) (later Q) n, or_digit (P 0) (Q 0))
    (sym (turned (one_if (P 0 || Q 0)) (digits_of (later (λ i. P i || Q i)) n)) ∙ sym (digits_split (λ i. P i || Q i) n))

pub digits_and : (P Q : ℕ → Bool) (n : ℕ) → bit_and (digits_of P n) (digits_of Q n) ≡ digits_of (λ i. P i && Q i) n
digits_and P Q zero = simp digits_zero
digits_and P Q (suc n) =
    and_step (digits_of P (suc n)) (digits_of Q (suc n))
    ∙ rw (digits_high P n, digits_high Q n, digits_low P n, digits_low Q n, digits_and (later P) (later Q) n, and_digit (P 0) (Q 0))
    (sym (turned (one_if (P 0 && Q 0)) (digits_of (later (λ i. P i && Q i)) n)) ∙ sym (digits_split (λ i. P i && Q i) n))

-- One step of the three counts: the digits that are set, the zeros below the lowest of them, and the places up to the highest.
pub ones_digits : (P : ℕ → Bool) (n : ℕ) → ones (digits_of P (suc n)) ≡ one_if (P 0) + ones (digits_of (later P) n)
ones_digits P n = ones_step (digits_of P (suc n)) ∙ rw (digits_high P n, digits_low P n)

trailing_step : (n a : ℕ) → count_trailing_zeros (suc n) a ≡ under (a % 2) (count_trailing_zeros n (a / 2))
unfolding count_trailing_zeros
trailing_step n a = refl

pub trailing_digits : (P : ℕ → Bool) (n : ℕ) → count_trailing_zeros (suc n) (digits_of P (suc n)) ≡ under (one_if (P 0)) (count_trailing_zeros n (digits_of (later P) n))
trailing_digits P n = trailing_step n (digits_of P (suc n)) ∙ rw (digits_high P n, digits_low P n)

-- how many digits a number below 2 ^ n has, without leading zeros
abbrev pub length_in : ℕ → ℕ → ℕ
length_in n a = n - count_leading_zeros n a

length_of_zero : (n : ℕ) → length_in n 0 ≡ 0
length_of_zero n = omega (arith, leading_of_zero n)

length_step : (n a : ℕ) → 0 < a → length_in (suc n) a ≡ suc (length_in n (a / 2))
unfolding count_leading_zeros
length_step n zero h = absurd (omega arith)
length_step n (suc a) h = omega (arith, leading_le n (suc a / 2))

-- the tests from 1 on, of the numbers that pass and one more
later_put : (k : ℕ) (P : ℕ → Bool) (n : ℕ) → digits_of (later (put (suc k) P)) n ≡ digits_of (put k (later P)) n
later_put k P n = digits_same _ _ (λ i. ap (λ b. b || P (suc i)) (eqb-suc-suc i k)) n

later_put_zero : (P : ℕ → Bool) (n : ℕ) → digits_of (later (put 0 P)) n ≡ digits_of (later P) n
later_put_zero P n = digits_same _ _ (λ i. ap (λ b. b || P (suc i)) (eqb-suc-zero i)) n

low_put : (k : ℕ) (P : ℕ → Bool) → put (suc k) P 0 ≡ P 0
low_put k P = ap (λ b. b || P 0) (eqb-zero-suc k)

pub ones_put : (n k : ℕ) (P : ℕ → Bool) → k < n
    → ones (digits_of (put k P) n) ≡ pick (P k) (ones (digits_of P n)) (suc (ones (digits_of P n)))
ones_put zero k P h = absurd (omega arith)
ones_put (suc n) zero P h = ones_digits (put 0 P) n ∙ rw (later_put_zero P n, ones_digits P n) (go (P 0) (ones (digits_of (later P) n)))
  where
    go : (b : Bool) (a : ℕ) → 1 + a ≡ pick b (one_if b + a) (suc (one_if b + a))
    go true a = refl
    go false a = omega arith
ones_put (suc n) (suc k) P h =
    ones_digits (put (suc k) P) n
    ∙ rw (low_put k P, later_put k P n, ones_digits P n, ones_put n k (later P) (omega arith)) (go (P (suc k)) (one_if (P 0)) (ones (digits_of (later P) n)))
  where
    go : (b : Bool) (d a : ℕ) → d + pick b a (suc a) ≡ pick b (d + a) (suc (d + a))
    go true d a = refl
    go false d a = omega arith

pub trailing_put : (n k : ℕ) (P : ℕ → Bool) → k < n → count_trailing_zeros n (digits_of (put k P) n) ≡ min k (count_trailing_zeros n (digits_of P n))
trailing_put zero k P h = absurd (omega arith)
trailing_put (suc n) zero P h = trailing_digits (put 0 P) n ∙ omega arith
trailing_put (suc n) (suc k) P h =
    trailing_digits (put (suc k) P) n
    ∙ rw (low_put k P, later_put k P n, trailing_digits P n, trailing_put n k (later P) (omega arith)) (go (P 0) (count_trailing_zeros n (digits_of (later P) n)))
  where
    go : (b : Bool) (t : ℕ) → under (one_if b) (min k t) ≡ min (suc k) (under (one_if b) t)
    go true t = omega arith
    go false t = omega arith

pub put_some : (n k : ℕ) (P : ℕ → Bool) → k < n → 0 < digits_of (put k P) n
put_some n k P h = digits_some (put k P) n k h (ap (λ b. b || P k) (eq-eqb k k refl))

length_digits : (n : ℕ) (P : ℕ → Bool) → 0 < digits_of P (suc n) → length_in (suc n) (digits_of P (suc n)) ≡ suc (length_in n (digits_of (later P) n))
length_digits n P h = length_step n (digits_of P (suc n)) h ∙ ap (λ a. suc (length_in n a)) (digits_high P n)

-- with one more place below, both sides grow by one, also where no digit is set
length_max : (n m : ℕ) (P : ℕ → Bool) → suc (max m (length_in n (digits_of (later P) n))) ≡ max (suc m) (length_in (suc n) (digits_of P (suc n)))
length_max n m P =
    ⊎_elim
    (λ (e : digits_of P (suc n) ≡ 0).
    let none : digits_of (later P) n ≡ 0 = omega (arith, digits_split P n) in rw (e, none) (omega (arith, length_of_zero n, length_of_zero (suc n))))
    (λ (l : 0 < digits_of P (suc n)). omega (arith, length_digits n P l)) (eq-zero-or-pos (digits_of P (suc n)))

pub length_put : (n k : ℕ) (P : ℕ → Bool) → k < n → length_in n (digits_of (put k P) n) ≡ max (suc k) (length_in n (digits_of P n))
length_put zero k P h = absurd (omega arith)
length_put (suc n) zero P h =
    length_digits n (put 0 P) (put_some (suc n) 0 P h) ∙ rw (later_put_zero P n) (omega (arith, length_max n 0 P))
length_put (suc n) (suc k) P h =
    length_digits n (put (suc k) P) (put_some (suc n) (suc k) P h)
    ∙ rw (later_put k P n, length_put n k (later P) (omega arith)) (length_max n (suc k) P)

-- Signed numbers by sign and magnitude: what the machine's operations on them leave, and each operator from the signs and magnitudes of its operands, by four cases of sign.
use mathlib.Core.Path.{◌≡◌, refl, sym, ap, ◌∙◌}
use mathlib.Core.Bool.{Bool, true, false, not, ◌&&◌, true≢false, beq}
use Prim.Native.Nat.{ℕ, zero, suc, ◌+◌, ◌-◌, ◌*◌, ◌/◌, ◌%◌, ◌^◌, ◌<◌, ◌≤◌}
use native.Mathlib.Omega.{arith}
use native.Mathlib.Nat.{mul-div-le, mod-eq-sub-mul-div, mul-zero, not-suc-le-zero}
use borrow.Author.Tests.{ltb-true, ltb-false, eqb-true, eqb-false, leb-false, lt-ltb, le-ltb, le-leb, lt-leb, eq-eqb, ne_eqb}
use lib.Dec.{ltb, leb, eqb}
use lib.IntN.{ℤ, pos, negsuc, neg_ℤ, nat_abs, sub_ℕ, ◌+ℤ◌, ◌-ℤ◌, ◌*ℤ◌, +ℤ_comm, neg_ℤ-+ℤ, neg_ℤ-neg_ℤ}
use lib.Signed.{lt_z, le_z, mag}
use mir.Syntax.{w64}
use mir.Val.{SFits, to_z, of_z}
use mir.ValLaws.{to_z_pos, to_z-of_z}
use Rattle.formula.specs.Values.{number, lessℤ, at_mostℤ, equalℤ, remainderℤ}
use Rattle.answer.specs.Answer.{within}
use Rattle.std.specs.Prelude.{Ok, Err}
use Rattle.signed.specs.Found.{Found, found_of}
use Rattle.signed.specs.Signed.{signedℤ, negative}
use Rattle.signed.specs.declared.Value.TheVariants.{Number}
use Rattle.signed.specs.declared.Fault.TheVariants.{Outside}

-- a whole number, if it is in range
abbrev pub number_found : ℤ → Found
number_found z = found_of (within (number z))

-- a number that was found
abbrev pub found_number : ℤ → Found
found_number z = Ok (Number z)

-- a signed argument as a callee has it, read back from its bits
abbrev pub seen : ℤ → ℤ
seen z = to_z w64 (of_z w64 z)

pub seen_is : (z : ℤ) {w : ℤ} → mag z < 2 ^ 63 → z ≡ w → seen z ≡ w
seen_is z f e = to_z-of_z w64 z (record { sfits = f }) ∙ e

-- ---- the difference of two natural numbers

sub_above : (m n : ℕ) → n ≤ m → sub_ℕ m n ≡ pos (m - n)
sub_above m n h = simp (le-ltb m n h)

sub_under : (m n : ℕ) → m < n → sub_ℕ m n ≡ negsuc (n - suc m)
sub_under m n h = simp (lt-ltb m n h)

sub_below : (m n : ℕ) → m ≤ n → sub_ℕ m n ≡ neg_ℤ (pos (n - m))
sub_below m n h = by (ltb m n) refl
  where
    by : (b : Bool) → ltb m n ≡ b → sub_ℕ m n ≡ neg_ℤ (pos (n - m))
    by true e = let l : m < n = ltb-true m n e in let k : n - m ≡ suc (n - suc m) = omega arith in sub_under m n l ∙ sym (ap (λ (x : ℕ). neg_ℤ (pos x)) k)
    by false e =
        let l : n ≤ m = ltb-false m n e in
        let j : m - n ≡ 0 = omega arith in
        let k : n - m ≡ 0 = omega arith in
        sub_above m n l ∙ ap pos j ∙ sym (ap (λ (x : ℕ). neg_ℤ (pos x)) k)

minus : (m n : ℕ) → pos m +ℤ neg_ℤ (pos n) ≡ sub_ℕ m n
minus m zero = ap pos (omega arith) ∙ sym (sub_above m 0 (omega arith))
minus m (suc n) = refl

-- ---- in range

inside_pos : (n : ℕ) → n < 2 ^ 63 → number_found (pos n) ≡ Ok (Number (pos n))
unfolding within
inside_pos n h = simp (lt-ltb n (2 ^ 63) h)

inside_neg : (n : ℕ) → n < 2 ^ 63 → number_found (negsuc n) ≡ Ok (Number (negsuc n))
unfolding within
inside_neg n h = simp (lt-ltb n (2 ^ 63) h)

outside_pos : (n : ℕ) → 2 ^ 63 ≤ n → number_found (pos n) ≡ Err Outside
unfolding within
outside_pos n h = simp (le-ltb n (2 ^ 63) h)

outside_neg : (n : ℕ) → 2 ^ 63 ≤ n → number_found (negsuc n) ≡ Err Outside
unfolding within
outside_neg n h = simp (le-ltb n (2 ^ 63) h)

-- a number of the machine is in range
pub inside : (z : ℤ) → mag z < 2 ^ 63 → number_found z ≡ Ok (Number z)
inside (pos n) h = inside_pos n h
inside (negsuc n) h = inside_neg n h

-- a magnitude above that of the least number
pub outside : (p : Bool) (n : ℕ) → 2 ^ 63 < n → number_found (signedℤ p n) ≡ Err Outside
outside false n h = outside_pos n (omega arith)
outside true zero h = absurd (not-suc-le-zero h)
outside true (suc n) h = outside_neg n (omega arith)

-- ---- the number of a sign and a magnitude

signed_below : (p : Bool) (n : ℕ) → p && ltb 0 n ≡ true → n ≤ 2 ^ 63 → number_found (signedℤ p n) ≡ Ok (Number (negsuc (n - 1)))
signed_below false n t h = absurd (true≢false (sym t))
signed_below true zero t h = absurd (not-suc-le-zero (ltb-true 0 0 t))
signed_below true (suc n) t h = inside_neg n h ∙ ap (λ (k : ℕ). found_number (negsuc k)) (omega arith)

signed_above : (p : Bool) (n : ℕ) → p && ltb 0 n ≡ false → signedℤ p n ≡ pos n
signed_above false n t = refl
signed_above true zero t = refl
signed_above true (suc n) t = absurd (true≢false (sym (lt-ltb 0 (suc n) (omega arith)) ∙ t))

module _ (p : Bool) (n : ℕ) where
  pub has_magnitude : p && ltb 0 n ≡ true → 1 ≤ n
  has_magnitude t = by p t
    where
      by : (p : Bool) → p && ltb 0 n ≡ true → 1 ≤ n
      by true t = ltb-true 0 n t
      by false t = absurd (true≢false (sym t))

  pub parts_below : {z : ℤ} → p && ltb 0 n ≡ true → n ≤ 2 ^ 63 → z ≡ negsuc (n - 1) → Ok (Number (seen z)) ≡ number_found (signedℤ p n)
  parts_below t h e =
      let l : 1 ≤ n = has_magnitude t in
      let k : SFits w64 (negsuc (n - 1)) = record { sfits = omega arith } in
      ap found_number (ap (λ (x : ℤ). seen x) e ∙ to_z-of_z w64 (negsuc (n - 1)) k) ∙ sym (signed_below p n t h)

  pub parts_outside : 2 ^ 63 < n → Err Outside ≡ number_found (signedℤ p n)
  parts_outside h = sym (outside p n h)

  pub parts_above : p && ltb 0 n ≡ false → n < 2 ^ 63 → Ok (Number (to_z w64 n)) ≡ number_found (signedℤ p n)
  parts_above t h = ap found_number (to_z_pos w64 n h) ∙ sym (ap number_found (signed_above p n t) ∙ inside_pos n h)

  pub parts_great : p && ltb 0 n ≡ false → 2 ^ 63 ≤ n → Err Outside ≡ number_found (signedℤ p n)
  parts_great t h = sym (ap number_found (signed_above p n t) ∙ outside_pos n h)

-- ---- the sum of two numbers by sign and magnitude

sum_same : (p : Bool) (m n : ℕ) → signedℤ p m +ℤ signedℤ p n ≡ signedℤ p (m + n)
sum_same false m n = refl
sum_same true m n = sym (neg_ℤ-+ℤ (pos m) (pos n))

pub sum_both : (p q : Bool) (m n : ℕ) → beq p q ≡ true → signedℤ p m +ℤ signedℤ q n ≡ signedℤ p (m + n)
sum_both false false m n t = sum_same false m n
sum_both false true m n t = absurd (true≢false (sym t))
sum_both true false m n t = absurd (true≢false (sym t))
sum_both true true m n t = sum_same true m n

-- ---- the operators by sign and magnitude

of_parts : (z : ℤ) → signedℤ (negative z) (nat_abs z) ≡ z
of_parts (pos n) = refl
of_parts (negsuc n) = refl

abbrev apart : ℤ → ℤ → Bool
apart a b = not (beq (negative a) (negative b))

product_parts : (a b : ℤ) → signedℤ (apart a b) (nat_abs a * nat_abs b) ≡ a *ℤ b
product_parts (pos a) (pos b) = refl
product_parts (pos a) (negsuc b) = refl
product_parts (negsuc a) (pos b) = refl
product_parts (negsuc a) (negsuc b) = refl

neg_neg : (b q : ℕ) → negsuc b *ℤ neg_ℤ (pos q) ≡ pos (suc b * q)
neg_neg b zero = rw mul-zero
neg_neg b (suc q) = refl

pos_neg : (b q : ℕ) → pos b *ℤ neg_ℤ (pos q) ≡ neg_ℤ (pos (b * q))
pos_neg b zero = rw mul-zero
pos_neg b (suc q) = refl

-- a − d × (a ÷ d), of magnitudes
rest_pos : (a d : ℕ) → pos a -ℤ pos (d * (a / d)) ≡ pos (a % d)
rest_pos a d = minus a (d * (a / d)) ∙ sub_above a (d * (a / d)) (mul-div-le a d) ∙ ap pos (sym (mod-eq-sub-mul-div a d))

rest_neg : (a d : ℕ) → negsuc a -ℤ neg_ℤ (pos (d * (suc a / d))) ≡ neg_ℤ (pos (suc a % d))
rest_neg a d =
    ap (λ (z : ℤ). negsuc a +ℤ z) (neg_ℤ-neg_ℤ (pos (d * (suc a / d))))
    ∙ +ℤ_comm (negsuc a) (pos (d * (suc a / d)))
    ∙ sub_below (d * (suc a / d)) (suc a) (mul-div-le (suc a) d)
    ∙ ap (λ (n : ℕ). neg_ℤ (pos n)) (sym (mod-eq-sub-mul-div (suc a) d))

remainder_parts : (a b : ℤ) → signedℤ (negative a) (nat_abs a % nat_abs b) ≡ remainderℤ a b
remainder_parts (pos a) (pos b) = sym (rest_pos a b)
remainder_parts (pos a) (negsuc b) = sym (ap (λ (z : ℤ). pos a -ℤ z) (neg_neg b (a / suc b)) ∙ rest_pos a (suc b))
remainder_parts (negsuc a) (pos b) = sym (ap (λ (z : ℤ). negsuc a -ℤ z) (pos_neg b (suc a / b)) ∙ rest_neg a b)
remainder_parts (negsuc a) (negsuc b) = sym (rest_neg a (suc b))

-- ---- the signs that the code tests

sign_is : (z : ℤ) → SFits w64 z → lt_z (seen z) (pos 0) ≡ negative z
sign_is (pos n) f = rw (to_z-of_z w64 (pos n) f) (le-ltb n 0 (omega arith))
sign_is (negsuc n) f = rw (to_z-of_z w64 (negsuc n) f)

abbrev differ : ℤ → ℤ → Bool
differ a b = not (beq (lt_z (seen a) (pos 0)) (lt_z (seen b) (pos 0)))

-- the operators, from the signs and the magnitudes that the code computes
module _ (a b : ℤ) (f : SFits w64 a) (g : SFits w64 b) (m n : ℕ) (d : m ≡ nat_abs (seen a)) (e : n ≡ nat_abs (seen b)) where
  left : m ≡ nat_abs a
  left = d ∙ ap nat_abs (to_z-of_z w64 a f)

  right : n ≡ nat_abs b
  right = e ∙ ap nat_abs (to_z-of_z w64 b g)

  apart_is : differ a b ≡ apart a b
  apart_is = simp (sign_is a f, sign_is b g)

  pub multiply_is : signedℤ (differ a b) (m * n) ≡ a *ℤ b
  multiply_is = simp (apart_is, left, right) (product_parts a b)

  pub multiply_outside : leb (m * n) 9223372036854775808 ≡ false → number_found (a *ℤ b) ≡ Err Outside
  multiply_outside t = ap number_found (sym multiply_is) ∙ outside (differ a b) (m * n) (leb-false (m * n) 9223372036854775808 t)

  pub remainder_is : {k : ℕ} → k ≡ m % n → signedℤ (lt_z (seen a) (pos 0)) k ≡ remainderℤ a b
  remainder_is h = simp (h, sign_is a f, left, right) (remainder_parts a b)

-- ---- comparisons

pub less_is : (a b : ℤ) → SFits w64 a → SFits w64 b → lt_z (seen a) (seen b) ≡ lessℤ a b
less_is a b f g = simp (to_z-of_z w64 a f, to_z-of_z w64 b g) (by a b)
  where
    pairs : (m n : ℕ) → ltb m n ≡ not (leb n m)
    pairs m n = tests (ltb m n) refl
      where
        tests : (t : Bool) → ltb m n ≡ t → t ≡ not (leb n m)
        tests true e = sym (ap not (lt-leb n m (ltb-true m n e)))
        tests false e = sym (ap not (le-leb n m (ltb-false m n e)))

    by : (a b : ℤ) → lt_z a b ≡ lessℤ a b
    by (pos m) (pos n) = pairs m n
    by (pos m) (negsuc n) = refl
    by (negsuc m) (pos n) = refl
    by (negsuc m) (negsuc n) = pairs n m

pub at_most_is : (a b : ℤ) → SFits w64 a → SFits w64 b → le_z (seen a) (seen b) ≡ at_mostℤ a b
at_most_is a b f g = simp (to_z-of_z w64 a f, to_z-of_z w64 b g) (by a b)
  where
    by : (a b : ℤ) → le_z a b ≡ at_mostℤ a b
    by (pos m) (pos n) = refl
    by (pos m) (negsuc n) = refl
    by (negsuc m) (pos n) = refl
    by (negsuc m) (negsuc n) = refl

-- equal bits are equal numbers
pub equal_is : (a b : ℤ) → SFits w64 a → SFits w64 b → eqb (of_z w64 a) (of_z w64 b) ≡ equalℤ a b
equal_is (pos m) (pos n) f g = refl
equal_is (pos m) (negsuc n) f g = ne_eqb m (18446744073709551616 - suc n) (λ e. omega (arith, f.sfits, g.sfits))
equal_is (negsuc m) (pos n) f g = ne_eqb (18446744073709551616 - suc m) n (λ e. omega (arith, f.sfits, g.sfits))
equal_is (negsuc m) (negsuc n) f g = by (eqb m n) refl
  where
    by : (t : Bool) → eqb m n ≡ t → eqb (18446744073709551616 - suc m) (18446744073709551616 - suc n) ≡ eqb m n
    by true e = let h : m ≡ n = eqb-true m n e in eq-eqb (18446744073709551616 - suc m) (18446744073709551616 - suc n) (omega arith) ∙ sym e
    by false e = let h : m ≡ n → ⊥ = eqb-false m n e in ne_eqb (18446744073709551616 - suc m) (18446744073709551616 - suc n) (λ q. omega (arith, f.sfits, g.sfits)) ∙ sym e

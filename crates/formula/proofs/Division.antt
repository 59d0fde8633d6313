-- ÷ rounds toward zero: the dividend is divisor × quotient + remainder, and the remainder is below the divisor in magnitude and has the
-- dividend's sign. Where mod is defined, it is from 0 to below the divisor. All follows from the remainder's value, the naturals' remainder
-- of the magnitudes with the dividend's sign, by cases on the two signs.
use mathlib.Core.Path.{◌≡◌, refl, sym, ap, ◌∙◌}
use mathlib.Core.Logic.{◌≢◌}
use Prim.Native.Nat.{ℕ, zero, suc, ◌*◌, ◌-◌, ◌/◌, ◌%◌, ◌≤◌, ◌<◌}
use native.Mathlib.Omega.{arith}
use native.Mathlib.Nat.{div-add-mod, mod-lt, mul-zero, zero-mod}
use lib.Dec.{T, leb, leb→le, le→leb, nleb→lt, not_T}
use lib.IntN.{ℤ, pos, negsuc, neg_ℤ, nat_abs, ◌+ℤ◌, ◌-ℤ◌, ◌*ℤ◌, +ℤ_comm, -ℤ-+ℤ_cancel, neg_ℤ-+ℤ}
use Rattle.formula.specs.Values.{number, at_mostℤ, lessℤ, quotientℤ, remainderℤ}
use Rattle.formula.specs.Tree.{remainder}
use Rattle.formula.specs.Evaluate.{division_defined}
use Rattle.formula.proofs.Order.{sub_le}
use Rattle.formula.proofs.Truth.{and_split}

-- the magnitude n with the sign of a
abbrev signed : ℤ → ℕ → ℤ
signed (pos a) n = pos n
signed (negsuc a) n = neg_ℤ (pos n)

neg_product : (b q : ℕ) → negsuc b *ℤ neg_ℤ (pos q) ≡ pos (suc b * q)
neg_product b zero = ap (λ n. neg_ℤ (pos n)) (mul-zero (suc b)) ∙ ap pos (sym (mul-zero (suc b)))
neg_product b (suc q) = refl

pos_product : (b q : ℕ) → pos b *ℤ neg_ℤ (pos q) ≡ neg_ℤ (pos (b * q))
pos_product b zero = ap pos (mul-zero b) ∙ ap (λ n. neg_ℤ (pos n)) (sym (mul-zero b))
pos_product b (suc q) = refl

product_is : (a b : ℤ) → b *ℤ quotientℤ a b ≡ signed a (nat_abs b * (nat_abs a / nat_abs b))
product_is (pos a) (pos b) = refl
product_is (pos a) (negsuc b) = neg_product b (a / suc b)
product_is (negsuc a) (pos b) = pos_product b (suc a / b)
product_is (negsuc a) (negsuc b) = refl

pos_difference : (a n : ℕ) → n ≤ a → pos a -ℤ pos n ≡ pos (a - n)
pos_difference a zero h = ap pos (omega arith)
pos_difference a (suc n) h = sub_le a (suc n) h

difference_is : (a : ℤ) (n : ℕ) → n ≤ nat_abs a → a -ℤ signed a n ≡ signed a (nat_abs a - n)
difference_is (pos a) n h = pos_difference a n h
difference_is (negsuc a) n h = sym (neg_ℤ-+ℤ (pos (suc a)) (neg_ℤ (pos n))) ∙ ap neg_ℤ (pos_difference (suc a) n h)

remainder_is : (a b : ℤ) → remainderℤ a b ≡ signed a (nat_abs a % nat_abs b)
remainder_is a b =
    let m = nat_abs a in
    let n = nat_abs b in
    ap (λ x. a -ℤ x) (product_is a b) ∙ difference_is a (n * (m / n)) (omega (arith, div-add-mod m n)) ∙ ap (signed a) (omega (arith, div-add-mod m n))

pub division_sum : (a b : ℤ) → a ≡ b *ℤ quotientℤ a b +ℤ remainderℤ a b
division_sum a b = sym (-ℤ-+ℤ_cancel a (b *ℤ quotientℤ a b)) ∙ +ℤ_comm (remainderℤ a b) (b *ℤ quotientℤ a b)

signed_magnitude : (a : ℤ) (n : ℕ) → nat_abs (signed a n) ≡ n
signed_magnitude (pos a) n = refl
signed_magnitude (negsuc a) zero = refl
signed_magnitude (negsuc a) (suc n) = refl

pub remainder_below : (a b : ℤ) → b ≢ pos 0 → nat_abs (remainderℤ a b) < nat_abs b
remainder_below a b h = rw (remainder_is a b, signed_magnitude a (nat_abs a % nat_abs b)) (mod-lt (nat_abs a) (magnitude b h))
  where
    magnitude : (b : ℤ) → b ≢ pos 0 → 0 < nat_abs b
    magnitude (pos zero) h = absurd (h refl)
    magnitude (pos (suc n)) h = omega arith
    magnitude (negsuc n) h = omega arith

pub remainder_from_zero : (a b : ℤ) → T (at_mostℤ (pos 0) a) → T (at_mostℤ (pos 0) (remainderℤ a b))
remainder_from_zero (pos a) b t = rw (remainder_is (pos a) b) (le→leb 0 (a % nat_abs b) (omega arith))
remainder_from_zero (negsuc a) b t = absurd t

pub remainder_to_zero : (a b : ℤ) → T (at_mostℤ a (pos 0)) → T (at_mostℤ (remainderℤ a b) (pos 0))
remainder_to_zero (pos a) b t =
    let h = leb→le a 0 t in let e : a ≡ 0 = omega arith in rw (remainder_is (pos a) b, e, zero-mod (nat_abs b)) tt
remainder_to_zero (negsuc a) b t = rw (remainder_is (negsuc a) b) (go (suc a % nat_abs b))
  where
    go : (n : ℕ) → T (at_mostℤ (neg_ℤ (pos n)) (pos 0))
    go zero = tt
    go (suc n) = tt

-- 02, request 7: a mod b where it is defined, 0 ≤ a mod b and a mod b < b
pub remainder_range : (a b : ℤ) → T (division_defined remainder (number a) (number b)) → T (at_mostℤ (pos 0) (remainderℤ a b)) × T (lessℤ (remainderℤ a b) b)
remainder_range a b t = let d = and_split (at_mostℤ (pos 0) a) (lessℤ (pos 0) b) t in (remainder_from_zero a b d.0, below a b d.0 d.1)
  where
    above : {m n : ℕ} → m ≤ n → n < m → ⊥
    above h k = omega arith

    below : (a b : ℤ) → T (at_mostℤ (pos 0) a) → T (lessℤ (pos 0) b) → T (lessℤ (remainderℤ a b) b)
    below (pos a) (pos b) t s =
        let h = mod-lt a (nleb→lt b 0 s) in rw (remainder_is (pos a) (pos b)) (not_T (leb b (a % b)) (λ k. above (leb→le b (a % b) k) h))
    below (pos a) (negsuc b) t s = absurd s
    below (negsuc a) b t s = absurd t

-- 02, request 8, which fault wins at an operator: "the leftmost operand now decides, operands before their operator". And where mod leaves 64 bits.
use mathlib.Core.Path.{◌≡◌, refl, ap}
use mathlib.Core.Bool.{Bool, false}
use Prim.Native.Nat.{ℕ, ◌<◌, ◌^◌}
use native.Mathlib.Omega.{arith}
use lib.Dec.{T, nleb→lt, lt→ltb, ltb→lt}
use lib.IntN.{ℤ, pos, negsuc}
use Rattle.lists.specs.Choice.{pick}
use Rattle.formula.specs.Values.{AnyValue, number, at_mostℤ, lessℤ, remainderℤ}
use Rattle.formula.specs.Tree.{remainder, Connective}
use Rattle.formula.specs.Evaluate.{division_defined}
use Rattle.formula.proofs.Division.{remainder_range}
use Rattle.answer.specs.Answer.{Answer, value, outside, undefined, fits, within, operands, connective_answer}

-- + − × = < ≤ ⇔, which are defined on all operands, and ÷ and mod, which aren't
module _ (defined : AnyValue → AnyValue → Bool) (f : AnyValue → AnyValue → AnyValue) where
  -- the left operand's fault, whatever the right one is
  pub left_decides : (r : Answer) → (operands defined f outside r ≡ outside) × (operands defined f undefined r ≡ undefined)
  unfolding operands
  left_decides r = (refl, refl)

  -- else the right one's, whatever the operator would be
  pub then_right : (v : AnyValue) → (operands defined f (value v) outside ≡ outside) × (operands defined f (value v) undefined ≡ undefined)
  unfolding operands
  then_right v = (refl, refl)

  -- else the operator's own
  pub then_operator : (v w : AnyValue) → defined v w ≡ false → operands defined f (value v) (value w) ≡ undefined
  unfolding operands
  then_operator v w d = ap (λ b. pick b (within (f v w)) undefined) d

-- 02, request 5: "∧, ∨, ⇒ and ⇔ stop at a faulty left side"
pub stops_at_left : (o : Connective) (r : Answer) → (connective_answer o outside r ≡ outside) × (connective_answer o undefined r ≡ undefined)
unfolding connective_answer
stops_at_left o r = (refl, refl)

-- where mod is defined, it leaves 64 bits only if its divisor does: it is from 0 to below the divisor
pub remainder_fits : (a b : ℤ) → T (division_defined remainder (number a) (number b)) → T (fits b) → T (fits (remainderℤ a b))
remainder_fits a b d h = let p = remainder_range a b d in between (remainderℤ a b) b p.0 p.1 h
  where
    below : {m n : ℕ} → m < n → n < 2 ^ 63 → m < 2 ^ 63
    below p q = omega arith

    between : (r b : ℤ) → T (at_mostℤ (pos 0) r) → T (lessℤ r b) → T (fits b) → T (fits r)
    between (pos m) (pos n) s t h = lt→ltb m (2 ^ 63) (below (nleb→lt n m t) (ltb→lt n (2 ^ 63) h))
    between (pos m) (negsuc n) s t h = absurd t
    between (negsuc m) b s t h = absurd s

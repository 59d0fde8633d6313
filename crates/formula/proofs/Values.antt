-- The tests for equality are equality, and a value is its own reading at its type.
use mathlib.Core.Path.{◌≡◌, refl, sym, ap, subst, ◌∙◌}
use mathlib.Core.Bool.{Bool, true, false, beq}
use lib.Dec.{T, eqb→eq, eqb_refl}
use lib.IntN.{ℤ, pos, negsuc}
use Rattle.formula.specs.Values.{ValueType, integer, boolean, Value, AnyValue, number, truth, wrap, as_value, equalℤ, equal_value}

pub as_value_wrap : (t : ValueType) (v : Value t) → as_value t (wrap t v) ≡ v
as_value_wrap integer v = refl
as_value_wrap boolean v = refl

pub wrap_injective : (t : ValueType) (u v : Value t) → wrap t u ≡ wrap t v → u ≡ v
wrap_injective t u v e = sym (as_value_wrap t u) ∙ ap (as_value t) e ∙ as_value_wrap t v

pub equal_eq : (a b : ℤ) → T (equalℤ a b) → a ≡ b
equal_eq (pos a) (pos b) t = ap pos (eqb→eq a b t)
equal_eq (pos a) (negsuc b) t = absurd t
equal_eq (negsuc a) (pos b) t = absurd t
equal_eq (negsuc a) (negsuc b) t = ap negsuc (eqb→eq a b t)

pub eq_equal : (a b : ℤ) → a ≡ b → T (equalℤ a b)
eq_equal a b e = subst (λ c. T (equalℤ a c)) e (same a)
  where
    same : (a : ℤ) → T (equalℤ a a)
    same (pos a) = eqb_refl a
    same (negsuc a) = eqb_refl a

pub equal_value_eq : (v w : AnyValue) → T (equal_value v w) → v ≡ w
equal_value_eq (number a) (number b) t = ap number (equal_eq a b t)
equal_value_eq (number a) (truth b) t = absurd t
equal_value_eq (truth a) (number b) t = absurd t
equal_value_eq (truth a) (truth b) t = ap truth (go a b t)
  where
    go : (a b : Bool) → T (beq a b) → a ≡ b
    go true true t = refl
    go true false t = absurd t
    go false true t = absurd t
    go false false t = refl

pub eq_equal_value : (v w : AnyValue) → v ≡ w → T (equal_value v w)
eq_equal_value v w e = subst (λ u. T (equal_value v u)) e (same v)
  where
    same : (v : AnyValue) → T (equal_value v v)
    same (number a) = eq_equal a a refl
    same (truth true) = tt
    same (truth false) = tt

-- A valuation with one identifier's value replaced has the new value there and the old ones elsewhere.
use mathlib.Core.Path.{◌≡◌, ap, ◌∙◌}
use Prim.Native.Nat.{ℕ}
use lib.Dec.{eqb, eqb→eq, eqb_refl, not_T}
use Rattle.lists.specs.Choice.{pick}
use Rattle.formula.specs.Values.{ValueType, Value, wrap, as_value}
use Rattle.formula.specs.Evaluate.{Valuation, override}
use Rattle.formula.proofs.Values.{as_value_wrap}
use Rattle.formula.proofs.Truth.{test_true, test_false}

module _ (type : ℕ → ValueType) (f : Valuation type) (x : ℕ) (v : Value (type x)) where
  pub override_same : override type f x v x ≡ v
  unfolding override
  override_same = ap (λ b. pick b (as_value (type x) (wrap (type x) v)) (f x)) (test_true (eqb x x) (eqb_refl x)) ∙ as_value_wrap (type x) v

  pub override_other : (y : ℕ) → (y ≡ x → ⊥) → override type f x v y ≡ f y
  unfolding override
  override_other y n =
      ap (λ b. pick b (as_value (type y) (wrap (type x) v)) (f y)) (test_false (eqb y x) (not_T (eqb y x) (λ t. n (eqb→eq y x t))))

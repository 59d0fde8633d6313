-- A stored value is in range, so it is its own answer.
use mathlib.Core.Path.{◌≡◌, refl, sym, ap, ap₂, subst, ◌∙◌}
use mathlib.Core.Bool.{Bool, true, false}
use Prim.Native.Nat.{ℕ, ◌<◌, ◌^◌}
use lib.Dec.{eqb}
use lib.IntN.{ℤ}
use lib.Signed.{mag}
use Rattle.lists.specs.Choice.{pick}
use Rattle.formula.specs.Values.{integer, boolean, AnyValue, number, truth, wrap}
use Rattle.answer.specs.Answer.{value, within}
use Rattle.answer.specs.Stored.{stored_value}
use Rattle.machine.specs.Described.{type_numbered}
use Rattle.std.specs.Prelude.{Ok}
use Rattle.signed.specs.Found.{found_of, answer_of}
use Rattle.signed.specs.declared.Value.{Value}
use Rattle.signed.proofs.Answers.{answer_found}
use Rattle.signed.proofs.Numbers.{inside, seen, seen_is}
use Rattle.signed.specs.declared.Value.TheVariants.{Number, Truth}
use Rattle.operands.specs.Operands.{value_of}

stored_within : (s : ℕ) (z : ℤ) → mag z < 2 ^ 63 → within (wrap (type_numbered s) (stored_value (type_numbered s) z)) ≡ value (wrap (type_numbered s) (stored_value (type_numbered s) z))
unfolding type_numbered within
stored_within s z h = go (eqb s 2)
  where
    go : (b : Bool) → within (wrap (pick b boolean integer) (stored_value (pick b boolean integer) z)) ≡ value (wrap (pick b boolean integer) (stored_value (pick b boolean integer) z))
    go true = refl
    go false = sym (answer_found (within (number z))) ∙ ap answer_of (inside z h)

value_found : (v : Value) (a : AnyValue) → Ok v ≡ found_of (value a) → value_of v ≡ a
value_found (Number y) (number z) e = cc
value_found (Number y) (truth b) e = cc
value_found (Truth c) (number z) e = cc
value_found (Truth c) (truth b) e = cc

-- a stored value w that was read as r, of the type n that was read as s
module _ {s n : ℕ} (q : s ≡ n) (r : ℤ) {w : ℤ} (h : mag r < 2 ^ 63) (k : r ≡ w) {v : Value} (e : Ok v ≡ found_of (within (wrap (type_numbered s) (stored_value (type_numbered s) (seen r))))) where
  pub stored_value_is : value_of v ≡ wrap (type_numbered n) (stored_value (type_numbered n) w)
  stored_value_is =
      value_found v _
      (e ∙ ap₂ (λ s z. found_of (within (wrap (type_numbered s) (stored_value (type_numbered s) z)))) q (seen_is r h k)
      ∙ ap found_of (stored_within n w (subst (λ z. mag z < 2 ^ 63) k h)))

-- What an entry of a sequent spells, and what that says at given values.
use Rattle.std.specs.Prelude.{ℕ}
use Rattle.formula.specs.Values.{ValueType, Value}
use Rattle.formula.specs.Tree.{Tree}
use Rattle.formula.specs.Evaluate.{Env, with_present, with_after, True}

-- 01, Sequents: "An entry spelled out is rows 83 in prefix order .. with 40 "some value of" and 41 "some after value of" the identifier in b"
pub data Formula : Type 0 where
  plain : Tree → Formula
  some_value : ℕ → Tree → Formula
  some_after_value : ℕ → Tree → Formula

-- 01, Sequents: forms 5 and 6, "some after value meets the action", "some value meets the witness": there is one, and none is chosen
abbrev pub Holds : {type : ℕ → ValueType} → Env type → Formula → Type 0
Holds ρ (plain t) = True ρ t
Holds {type} ρ (some_value x t) = ∥ ((v : Value (type x)) × True (with_present ρ x v) t) ∥₁
Holds {type} ρ (some_after_value x t) = ∥ ((v : Value (type x)) × True (with_after ρ x v) t) ∥₁

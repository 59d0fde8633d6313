-- The identifiers that an entry's spelled rows name, as the formula has them.
use Rattle.std.specs.Prelude.{ℕ, List, ◌∷◌}
use Rattle.formula.specs.Identifiers.{identifiers}
use Rattle.formula.specs.Formula.{Formula, plain, some_value, some_after_value}

abbrev pub formula_identifiers : Formula → List ℕ
formula_identifiers (plain f) = identifiers f
formula_identifiers (some_value x f) = x ∷ identifiers f
formula_identifiers (some_after_value x f) = x ∷ identifiers f

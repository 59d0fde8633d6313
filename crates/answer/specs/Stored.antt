-- Values of identifiers as a list of numbers, one for each identifier; booleans are 0 or 1.
use Rattle.std.specs.Prelude.{List, ℕ, ℤ, pos, get_or}
use Rattle.formula.specs.Values.{ValueType, integer, boolean, Value, equalℤ}
use Rattle.formula.specs.Evaluate.{Valuation, Env}

abbrev pub stored_value : (t : ValueType) → ℤ → Value t
stored_value integer z = z
stored_value boolean z = equalℤ z (pos 1)

-- the value of x stands at the place x
unfoldable pub stored : (type : ℕ → ValueType) → List ℤ → Valuation type
stored type zs x = stored_value (type x) (get_or zs x (pos 0))

-- present values and after values
abbrev pub stored_env : (type : ℕ → ValueType) → List ℤ → List ℤ → Env type
stored_env type present after = record { present = stored type present; after = stored type after }

-- The values that the code holds, as the definition has them.
use Rattle.std.specs.Prelude.{Ok, Err, pos}
use Rattle.formula.specs.Values.{AnyValue, number, truth}
use Rattle.signed.specs.Found.{Found}
use Rattle.signed.specs.declared.Value.{Value}
use Rattle.signed.specs.declared.Value.TheVariants.{Number, Truth}

abbrev pub value_of : Value → AnyValue
value_of (Number z) = number z
value_of (Truth b) = truth b

-- that of an answer; of a fault, which has none, 0
abbrev pub answer_value : Found → AnyValue
answer_value (Ok v) = value_of v
answer_value (Err e) = number (pos 0)

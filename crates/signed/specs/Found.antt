-- The answers as the code holds them: each stands for one of the definition's.
use Rattle.std.specs.Prelude.{Result, Ok, Err}
use Rattle.formula.specs.Values.{number, truth}
use Rattle.answer.specs.Answer.{Answer, value, outside, undefined}
use Rattle.signed.specs.declared.Value.{Value}
use Rattle.signed.specs.declared.Value.TheVariants.{Number, Truth}
use Rattle.signed.specs.declared.Fault.{Fault}
use Rattle.signed.specs.declared.Fault.TheVariants.{Outside, Undefined}

abbrev pub Found : Type 0
Found = Result Value Fault

abbrev pub found_of : Answer → Found
found_of (value (number z)) = Ok (Number z)
found_of (value (truth b)) = Ok (Truth b)
found_of outside = Err Outside
found_of undefined = Err Undefined

abbrev pub answer_of : Found → Answer
answer_of (Ok (Number z)) = value (number z)
answer_of (Ok (Truth b)) = value (truth b)
answer_of (Err Outside) = outside
answer_of (Err Undefined) = undefined

-- The code's answers stand for the definition's, each for one; a fault that `?` hands on is the answer.
use mathlib.Core.Path.{◌≡◌, refl, ap, ◌∙◌}
use Rattle.formula.specs.Values.{number, truth}
use Rattle.answer.specs.Answer.{Answer, value, outside, undefined}
use Rattle.std.specs.Prelude.{Ok, Err}
use Rattle.std.specs.Result.{IsErrAnd}
use Rattle.std.proofs.lemmas.Result.{err_from_is_err_and}
use Rattle.signed.specs.Found.{Found, found_of, answer_of}
use Rattle.signed.specs.declared.Value.TheVariants.{Number, Truth}
use Rattle.signed.specs.declared.Fault.{Fault}
use Rattle.signed.specs.declared.Fault.TheVariants.{Outside, Undefined}

pub answer_found : (a : Answer) → answer_of (found_of a) ≡ a
answer_found (value (number z)) = refl
answer_found (value (truth b)) = refl
answer_found outside = refl
answer_found undefined = refl

pub found_answer : (f : Found) → found_of (answer_of f) ≡ f
found_answer (Ok (Number z)) = refl
found_answer (Ok (Truth b)) = refl
found_answer (Err Outside) = refl
found_answer (Err Undefined) = refl

pub handed_on : {f : Found} {e : Fault} → IsErrAnd f (λ y. y ≡ e) → f ≡ Err e
handed_on {f} h = let p = err_from_is_err_and f h in p.1 ∙ ap (λ e. Err e) p.2

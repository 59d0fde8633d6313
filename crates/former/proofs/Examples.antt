-- 02, request 8 by examples: what formulas answered before and answer now, where it changes and where it stays. All are computed from the definitions.
use mathlib.Core.Path.{◌≡◌, refl}
use Rattle.formula.specs.Tree.{bool, plus, equal, less, iff, quotient, remainder, Tree, unary, binary, division}
use Rattle.answer.specs.Answer.{Answer, outside, undefined, within, operands, binary_answer, division_answer, unary_answer, answer}
use Rattle.answer.proofs.Examples.{env, word, minus_one, too_large, divided_by_zero, outside_predicate, undefined_predicate}
use Rattle.former.specs.Former.{former_operands, former_binary, former_division, former_answer}

abbrev Was : Tree → Answer → Answer → Type 0
Was t former now = (former_answer env t ≡ former) × (answer env t ≡ now)

-- 16 for 17: outside on the left, of a term, of a comparison, of one of booleans, and by the operator itself
changes :
    Was (binary plus too_large divided_by_zero) undefined outside × Was (binary less too_large divided_by_zero) undefined outside
    × Was (binary equal (unary bool outside_predicate) (unary bool undefined_predicate)) undefined outside × Was (division quotient too_large (word 0)) undefined outside
    × Was (division remainder too_large minus_one) undefined outside
unfolding former_answer answer within former_binary binary_answer former_division division_answer unary_answer former_operands operands
changes = ((refl, refl), (refl, refl), (refl, refl), (refl, refl), (refl, refl))

-- as it was: undefined on the left, outside on the right, and ⇔
stays :
    Was (binary plus divided_by_zero too_large) undefined undefined × Was (division remainder minus_one too_large) outside outside
    × Was (binary iff outside_predicate undefined_predicate) outside outside
unfolding former_answer answer within former_binary binary_answer former_division division_answer former_operands operands
stays = ((refl, refl), (refl, refl), (refl, refl))

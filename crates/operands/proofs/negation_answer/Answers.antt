-- A faulty operand is the answer; else the opposite of its number.
use mathlib.Core.Path.{ap, ◌∙◌}
use lib.IntN.{neg_ℤ}
use Rattle.formula.specs.Tree.{negation}
use Rattle.signed.proofs.Numbers.{number_found, seen_is}
use Rattle.operands.proofs.Operands.{operand_fault, one_value}
use Rattle.operands.proofs.negation_answer.Goals as goal

pub returns-in_err-operand : goal.returns-in_err-operand
returns-in_err-operand c = operand_fault negation c.in_err-operand.was c.from_residual.ensures.1

pub returns : goal.returns
returns c =
    let m = seen_is c.number_in.result c.number_in.type_inv c.number_in.ensures in
    one_value negation c.in_ok-operand.was (c.negate.ensures ∙ ap (λ m. number_found (neg_ℤ m)) m)

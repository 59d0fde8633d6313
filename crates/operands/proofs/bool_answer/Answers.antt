-- A faulty operand is the answer; else its truth.
use mathlib.Core.Path.{refl}
use Rattle.formula.specs.Tree.{bool}
use Rattle.operands.proofs.Operands.{operand_fault, one_truth}
use Rattle.operands.proofs.bool_answer.Goals as goal

pub returns-in_err-operand : goal.returns-in_err-operand
returns-in_err-operand c = operand_fault bool c.in_err-operand.was c.from_residual.ensures.1

pub returns : goal.returns
returns c = one_truth bool c.in_ok-operand.was refl c.truth_in.ensures

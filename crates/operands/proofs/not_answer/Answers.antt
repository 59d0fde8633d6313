-- A faulty operand is the answer; else the opposite of its truth.
use mathlib.Core.Path.{refl, ap}
use mathlib.Core.Bool.{not}
use Rattle.formula.specs.Tree.{logicalNot}
use Rattle.operands.proofs.Operands.{operand_fault, one_truth}
use Rattle.operands.proofs.not_answer.Goals as goal

pub returns-in_err-operand : goal.returns-in_err-operand
returns-in_err-operand c = operand_fault logicalNot c.in_err-operand.was c.from_residual.ensures.1

pub returns : goal.returns
returns c = one_truth logicalNot c.in_ok-operand.was refl (ap not c.truth_in.ensures)

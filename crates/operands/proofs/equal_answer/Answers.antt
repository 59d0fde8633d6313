-- A faulty operand is the answer; else whether the operands' values are equal.
use mathlib.Core.Path.{refl}
use Rattle.formula.specs.Tree.{equal}
use Rattle.operands.proofs.Operands.{left_fault, right_fault, both_truths}
use Rattle.operands.proofs.equal_answer.Goals as goal

pub returns-in_err-v : goal.returns-in_err-v
returns-in_err-v c = left_fault c.args.right c.in_err-v.was c.from_residual.ensures.1 equal

pub returns-in_err-w : goal.returns-in_err-w
returns-in_err-w c = right_fault c.in_ok-v.was c.in_err-w.was c.from_residual-in_err-w.ensures.1 equal

pub returns : goal.returns
returns c = both_truths c.in_ok-v.was c.in_ok-w.was equal refl c.same.ensures

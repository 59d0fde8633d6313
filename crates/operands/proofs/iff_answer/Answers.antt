-- A faulty operand is the answer; else whether both sides have the same truth.
use mathlib.Core.Path.{refl, ap₂}
use mathlib.Core.Bool.{beq}
use Rattle.formula.specs.Tree.{iff}
use Rattle.operands.proofs.Operands.{left_fault, right_fault, both_truths}
use Rattle.operands.proofs.iff_answer.Goals as goal

pub returns-in_err-p : goal.returns-in_err-p
returns-in_err-p c = left_fault c.args.right c.in_err-p.was c.from_residual.ensures.1 iff

pub returns-in_err-q : goal.returns-in_err-q
returns-in_err-q c = right_fault c.in_ok-p.was c.in_err-q.was c.from_residual-in_err-q.ensures.1 iff

pub returns : goal.returns
returns c = both_truths c.in_ok-p.was c.in_ok-q.was iff refl (ap₂ beq c.truth_in.ensures c.truth_in-2.ensures)

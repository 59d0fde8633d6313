-- A faulty left side is the answer; else by its truth.
use mathlib.Core.Path.{◌∙◌}
use Rattle.formula.specs.Tree.{or}
use Rattle.operands.proofs.Operands.{side_fault, or_true, or_false}
use Rattle.operands.proofs.or_answer.Goals as goal

pub returns-in_err-left : goal.returns-in_err-left
returns-in_err-left c = side_fault c.args.right or c.in_err-left.was c.from_residual.ensures.1

pub returns-then-truth_in : goal.returns-then-truth_in
returns-then-truth_in c = or_true c.args.right c.in_ok-left.was c.truth_in.ensures c.if-truth_in.true

pub returns : goal.returns
returns c = c.bool_answer.ensures ∙ or_false c.args.right c.in_ok-left.was c.truth_in.ensures c.if-truth_in.false

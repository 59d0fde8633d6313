-- A faulty left side is the answer; else by its truth.
use mathlib.Core.Path.{◌∙◌}
use Rattle.formula.specs.Tree.{and}
use Rattle.operands.proofs.Operands.{side_fault, and_true, and_false}
use Rattle.operands.proofs.and_answer.Goals as goal

pub returns-in_err-left : goal.returns-in_err-left
returns-in_err-left c = side_fault c.args.right and c.in_err-left.was c.from_residual.ensures.1

pub returns-then-truth_in : goal.returns-then-truth_in
returns-then-truth_in c = c.bool_answer.ensures ∙ and_true c.args.right c.in_ok-left.was c.truth_in.ensures c.if-truth_in.true

pub returns : goal.returns
returns c = and_false c.args.right c.in_ok-left.was c.truth_in.ensures c.if-truth_in.false

-- By the row of each operator.
use mathlib.Core.Path.{refl, ◌∙◌}
use Rattle.evaluate.specs.Evaluate.{reads_right_of}
use Rattle.evaluate.proofs.Numbered.{numbered_at, reads_and, reads_or, reads_implies, reads_behind}
use Rattle.evaluate.proofs.reads_right.Goals as goal

pub returns-in-10 : goal.returns-in-10
returns-in-10 c =
    numbered_at (λ o. reads_right_of o c.args.left) 10 c.in-10.is refl

pub returns-in-11 : goal.returns-in-11
returns-in-11 c =
    numbered_at (λ o. reads_right_of o c.args.left) 11 c.in-11.is refl

pub returns-in-12 : goal.returns-in-12
returns-in-12 c =
    numbered_at (λ o. reads_right_of o c.args.left) 12 c.in-12.is refl

pub returns-in-13 : goal.returns-in-13
returns-in-13 c =
    numbered_at (λ o. reads_right_of o c.args.left) 13 c.in-13.is refl

pub returns-in-14 : goal.returns-in-14
returns-in-14 c =
    numbered_at (λ o. reads_right_of o c.args.left) 14 c.in-14.is refl

pub returns-in-20 : goal.returns-in-20
returns-in-20 c =
    numbered_at (λ o. reads_right_of o c.args.left) 20 c.in-20.is refl

pub returns-in-21 : goal.returns-in-21
returns-in-21 c =
    numbered_at (λ o. reads_right_of o c.args.left) 21 c.in-21.is refl

pub returns-in-22 : goal.returns-in-22
returns-in-22 c =
    numbered_at (λ o. reads_right_of o c.args.left) 22 c.in-22.is refl

pub returns-in-33 : goal.returns-in-33
returns-in-33 c =
    numbered_at (λ o. reads_right_of o c.args.left) 33 c.in-33.is (c.has_truth.ensures ∙ reads_and c.args.left)

pub returns-in-34 : goal.returns-in-34
returns-in-34 c =
    numbered_at (λ o. reads_right_of o c.args.left) 34 c.in-34.is (c.has_truth-in-34.ensures ∙ reads_or c.args.left)

pub returns-in-35 : goal.returns-in-35
returns-in-35 c =
    numbered_at (λ o. reads_right_of o c.args.left) 35 c.in-35.is (c.has_truth-in-35.ensures ∙ reads_implies c.args.left)

pub returns-in-36 : goal.returns-in-36
returns-in-36 c =
    numbered_at (λ o. reads_right_of o c.args.left) 36 c.in-36.is c.is_ok.ensures.value

pub returns-in_default : goal.returns-in_default
returns-in_default c =
    reads_behind c.args.operator c.args.left c.in_default.in_default-own.rest

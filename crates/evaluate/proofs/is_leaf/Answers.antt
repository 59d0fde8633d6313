-- By the row of each operator.
use mathlib.Core.Path.{refl, sym}
use Rattle.evaluate.specs.Evaluate.{is_leaf}
use Rattle.evaluate.proofs.Numbered.{numbered_at, leaf_behind}
use Rattle.evaluate.proofs.is_leaf.Goals as goal

pub returns-in-6 : goal.returns-in-6
returns-in-6 c = numbered_at is_leaf 6 c.in-6.is refl

pub returns-in-10 : goal.returns-in-10
returns-in-10 c = numbered_at is_leaf 10 c.in-10.is refl

pub returns-in-11 : goal.returns-in-11
returns-in-11 c = numbered_at is_leaf 11 c.in-11.is refl

pub returns-in-12 : goal.returns-in-12
returns-in-12 c = numbered_at is_leaf 12 c.in-12.is refl

pub returns-in-13 : goal.returns-in-13
returns-in-13 c = numbered_at is_leaf 13 c.in-13.is refl

pub returns-in-14 : goal.returns-in-14
returns-in-14 c = numbered_at is_leaf 14 c.in-14.is refl

pub returns-in-15 : goal.returns-in-15
returns-in-15 c = numbered_at is_leaf 15 c.in-15.is refl

pub returns-in-20 : goal.returns-in-20
returns-in-20 c = numbered_at is_leaf 20 c.in-20.is refl

pub returns-in-21 : goal.returns-in-21
returns-in-21 c = numbered_at is_leaf 21 c.in-21.is refl

pub returns-in-22 : goal.returns-in-22
returns-in-22 c = numbered_at is_leaf 22 c.in-22.is refl

pub returns-in-32 : goal.returns-in-32
returns-in-32 c = numbered_at is_leaf 32 c.in-32.is refl

pub returns-in-33 : goal.returns-in-33
returns-in-33 c = numbered_at is_leaf 33 c.in-33.is refl

pub returns-in-34 : goal.returns-in-34
returns-in-34 c = numbered_at is_leaf 34 c.in-34.is refl

pub returns-in-35 : goal.returns-in-35
returns-in-35 c = numbered_at is_leaf 35 c.in-35.is refl

pub returns-in-36 : goal.returns-in-36
returns-in-36 c = numbered_at is_leaf 36 c.in-36.is refl

pub returns-in_default : goal.returns-in_default
returns-in_default c =
    sym (leaf_behind c.args.operator c.in_default.in_default-own.rest)

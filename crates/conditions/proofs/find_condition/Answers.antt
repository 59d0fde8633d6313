-- Each arm has the condition of its number's row, which is computed; the last one a number that is none of the table's.
use mathlib.Core.Path.{refl}
use Rattle.conditions.proofs.Found.{condition_at, condition_other}
use Rattle.conditions.proofs.find_condition.Goals as goal

pub returns-in-1 : goal.returns-in-1
returns-in-1 c = condition_at 1 c.in-1.is refl

pub returns-in-2 : goal.returns-in-2
returns-in-2 c = condition_at 2 c.in-2.is refl

pub returns-in-3 : goal.returns-in-3
returns-in-3 c = condition_at 3 c.in-3.is refl

pub returns-in-4 : goal.returns-in-4
returns-in-4 c = condition_at 4 c.in-4.is refl

pub returns-in-5 : goal.returns-in-5
returns-in-5 c = condition_at 5 c.in-5.is refl

pub returns-in-6 : goal.returns-in-6
returns-in-6 c = condition_at 6 c.in-6.is refl

pub returns-in-10 : goal.returns-in-10
returns-in-10 c = condition_at 10 c.in-10.is refl

pub returns-in-11 : goal.returns-in-11
returns-in-11 c = condition_at 11 c.in-11.is refl

pub returns-in-12 : goal.returns-in-12
returns-in-12 c = condition_at 12 c.in-12.is refl

pub returns-in-13 : goal.returns-in-13
returns-in-13 c = condition_at 13 c.in-13.is refl

pub returns-in-14 : goal.returns-in-14
returns-in-14 c = condition_at 14 c.in-14.is refl

pub returns-in-15 : goal.returns-in-15
returns-in-15 c = condition_at 15 c.in-15.is refl

pub returns-in-20 : goal.returns-in-20
returns-in-20 c = condition_at 20 c.in-20.is refl

pub returns-in-21 : goal.returns-in-21
returns-in-21 c = condition_at 21 c.in-21.is refl

pub returns-in-22 : goal.returns-in-22
returns-in-22 c = condition_at 22 c.in-22.is refl

pub returns-in-30 : goal.returns-in-30
returns-in-30 c = condition_at 30 c.in-30.is refl

pub returns-in-31 : goal.returns-in-31
returns-in-31 c = condition_at 31 c.in-31.is refl

pub returns-in-32 : goal.returns-in-32
returns-in-32 c = condition_at 32 c.in-32.is refl

pub returns-in-33 : goal.returns-in-33
returns-in-33 c = condition_at 33 c.in-33.is refl

pub returns-in-34 : goal.returns-in-34
returns-in-34 c = condition_at 34 c.in-34.is refl

pub returns-in-35 : goal.returns-in-35
returns-in-35 c = condition_at 35 c.in-35.is refl

pub returns-in-36 : goal.returns-in-36
returns-in-36 c = condition_at 36 c.in-36.is refl

pub returns-in_default : goal.returns-in_default
returns-in_default c = condition_other c.in_default.in_default-own.rest

-- Each arm has the row of its number, which is computed; the last one a number that is none of the table's.
use mathlib.Core.Path.{refl}
use Rattle.operators.proofs.Found.{found_at, found_other}
use Rattle.operators.proofs.find_operator.Goals as goal

pub returns-in-1 : goal.returns-in-1
returns-in-1 c = found_at 1 c.new.ensures c.in-1.is refl

pub returns-in-2 : goal.returns-in-2
returns-in-2 c = found_at 2 c.new-in-2.ensures c.in-2.is refl

pub returns-in-3 : goal.returns-in-3
returns-in-3 c = found_at 3 c.new-in-3.ensures c.in-3.is refl

pub returns-in-4 : goal.returns-in-4
returns-in-4 c = found_at 4 c.new-in-4.ensures c.in-4.is refl

pub returns-in-5 : goal.returns-in-5
returns-in-5 c = found_at 5 c.new-in-5.ensures c.in-5.is refl

pub returns-in-6 : goal.returns-in-6
returns-in-6 c = found_at 6 c.new-in-6.ensures c.in-6.is refl

pub returns-in-10 : goal.returns-in-10
returns-in-10 c = found_at 10 c.new-in-10.ensures c.in-10.is refl

pub returns-in-11 : goal.returns-in-11
returns-in-11 c = found_at 11 c.new-in-11.ensures c.in-11.is refl

pub returns-in-12 : goal.returns-in-12
returns-in-12 c = found_at 12 c.new-in-12.ensures c.in-12.is refl

pub returns-in-13 : goal.returns-in-13
returns-in-13 c = found_at 13 c.new-in-13.ensures c.in-13.is refl

pub returns-in-14 : goal.returns-in-14
returns-in-14 c = found_at 14 c.new-in-14.ensures c.in-14.is refl

pub returns-in-15 : goal.returns-in-15
returns-in-15 c = found_at 15 c.new-in-15.ensures c.in-15.is refl

pub returns-in-20 : goal.returns-in-20
returns-in-20 c = found_at 20 c.new-in-20.ensures c.in-20.is refl

pub returns-in-21 : goal.returns-in-21
returns-in-21 c = found_at 21 c.new-in-21.ensures c.in-21.is refl

pub returns-in-22 : goal.returns-in-22
returns-in-22 c = found_at 22 c.new-in-22.ensures c.in-22.is refl

pub returns-in-30 : goal.returns-in-30
returns-in-30 c = found_at 30 c.new-in-30.ensures c.in-30.is refl

pub returns-in-31 : goal.returns-in-31
returns-in-31 c = found_at 31 c.new-in-31.ensures c.in-31.is refl

pub returns-in-32 : goal.returns-in-32
returns-in-32 c = found_at 32 c.new-in-32.ensures c.in-32.is refl

pub returns-in-33 : goal.returns-in-33
returns-in-33 c = found_at 33 c.new-in-33.ensures c.in-33.is refl

pub returns-in-34 : goal.returns-in-34
returns-in-34 c = found_at 34 c.new-in-34.ensures c.in-34.is refl

pub returns-in-35 : goal.returns-in-35
returns-in-35 c = found_at 35 c.new-in-35.ensures c.in-35.is refl

pub returns-in-36 : goal.returns-in-36
returns-in-36 c = found_at 36 c.new-in-36.ensures c.in-36.is refl

pub returns-in_default : goal.returns-in_default
returns-in_default c =
    found_other c.new-in_default.ensures c.in_default.in_default-own.rest

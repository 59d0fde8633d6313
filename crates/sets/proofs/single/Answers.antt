-- A number that can't name an identifier has the empty set; any other the digit of its own.
use mathlib.Core.Path.{sym}
use native.Mathlib.Omega.{arith}
use Rattle.sets.proofs.Set.{single_zero, single_past, single_digit}
use Rattle.sets.proofs.single.Goals as goal

pub returns-then-x-eq0 : goal.returns-then-x-eq0
returns-then-x-eq0 c = sym (single_zero _ (omega arith))

pub returns-then-x-gt64 : goal.returns-then-x-gt64
returns-then-x-gt64 c = sym (single_past _ c.if-x-gt64.true)

pub returns : goal.returns
returns c = single_digit _ (omega arith, omega arith)

-- By the type.
use mathlib.Core.Path.{refl}
use native.Mathlib.Omega.{arith}
use lib.IntN.{pos}
use Rattle.signed.proofs.Numbers.{equal_is}
use Rattle.evaluate.proofs.Leaves.{stored_boolean, stored_integer, number_is}
use Rattle.evaluate.proofs.stored_value.Goals as goal

pub returns-then-sort-eq-BOOLEAN : goal.returns-then-sort-eq-BOOLEAN
returns-then-sort-eq-BOOLEAN c =
    stored_boolean c.args.sort c.args.value c.if-sort-eq-BOOLEAN.true (equal_is c.args.value (pos 1) c.ranges.value (record { sfits = omega arith }))

pub returns : goal.returns
returns c =
    stored_integer c.args.sort c.args.value c.if-sort-eq-BOOLEAN.false (number_is c.args.value c.ranges.value.sfits refl)

-- The loop's invariant: the columns before i hold spaces, and what the digits left write there, with the buffer from i on, is the
-- buffer as it shall be.
use mathlib.Core.Path.{◌≡◌}
use mathlib.Core.List.{◌++◌}
use lib.ListN.{take, drop}
use Rattle.lists.specs.Over.{over}
use Rattle.number.specs.Number.{Spaces, Digits, columns_of}
use Rattle.number.proofs.write_digits.Given as goal

abbrev pub invariant-loop-i : goal.invariant-loop-i
invariant-loop-i l =
    (take l.i l.out ≡ columns_of l.i Spaces)
    × (columns_of l.i (Digits l.negative l.m) ++ drop l.i l.out ≡ over (columns_of l.width (Digits l.negative l.magnitude)) l.initial.out)

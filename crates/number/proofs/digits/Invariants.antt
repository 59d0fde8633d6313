-- The loop's invariant: what the columns from b on make of the magnitude so far is what all of them make of the first digit.
use Prim.Native.Nat.{◌≤◌, ◌+◌}
use mathlib.Core.Path.{◌≡◌}
use lib.ListN.{drop, get_or}
use Rattle.number.specs.Reading.{digit_of, scan_from}
use Rattle.number.proofs.Scan.{digits_from}
use Rattle.number.proofs.digits.Given as goal

abbrev pub invariant-loop-b : goal.invariant-loop-b
invariant-loop-b l =
    (l.m ≤ l.most) × (digits_from l.greatest l.negative l.m (drop l.b-index l.b-items) ≡ scan_from l.greatest (digit_of l.greatest l.negative 0 (get_or l.columns l.at 0)) (drop (l.at + 1) l.columns))

-- The loop's invariant: the columns from i on read as all of them do.
use mathlib.Core.Path.{◌≡◌}
use lib.ListN.{drop}
use Rattle.number.specs.Number.{Spaces}
use Rattle.number.specs.Reading.{Prefix, scan_from}
use Rattle.number.proofs.read_from.Given as goal

abbrev pub invariant-loop-i : goal.invariant-loop-i
invariant-loop-i l =
    scan_from l.greatest (Prefix Spaces) (drop l.i l.columns) ≡ scan_from l.greatest (Prefix Spaces) l.columns

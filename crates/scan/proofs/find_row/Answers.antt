-- All rows are a span.
use native.Mathlib.Omega.{arith}
use Rattle.scan.proofs.find_row.Goals as goal

pub find_within-requires : goal.find_within-requires
find_within-requires c =
    record { within = omega (arith, c.size.ensures); below = λ j h. absurd (omega arith); above = λ j h l. absurd (omega (arith, c.size.ensures)) }

-- The remainder, from the parts.
use mathlib.Core.Path.{ap, ◌∙◌}
use Rattle.signed.proofs.Numbers.{number_found, remainder_is}
use Rattle.signed.proofs.remainder.Goals as goal

pub returns : goal.returns
returns c =
    c.of_parts.ensures
    ∙ ap number_found
    (remainder_is c.args.a c.args.b c.ranges.a c.ranges.b _ _
    c.magnitude.ensures c.magnitude-2.ensures c.magnitude_remainder.ensures)

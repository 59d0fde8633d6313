-- The product, where the magnitudes' product is small enough to be computed.
use mathlib.Core.Path.{sym, ◌∙◌}
use Rattle.signed.proofs.Numbers.{multiply_outside}
use Rattle.signed.proofs.multiply.Goals as goal

pub returns : goal.returns
returns c =
    sym
    (multiply_outside c.args.a c.args.b c.ranges.a c.ranges.b _ _ c.magnitude-m.ensures c.magnitude-n.ensures
    (sym c.product_fits.ensures ∙ c.if-product_fits.false))

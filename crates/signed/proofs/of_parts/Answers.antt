-- Each end of the range, by the sign.
use Rattle.signed.proofs.Numbers.{parts_below, parts_outside, parts_above, parts_great}
use Rattle.signed.proofs.of_parts.Goals as goal

pub returns-then-n-le-HALF : goal.returns-then-n-le-HALF
returns-then-n-le-HALF c =
    parts_below c.args.negative c.args.n c.if-negative-n.true c.if-n-le-HALF.true c.complement.ensures

pub returns-then-negative-n : goal.returns-then-negative-n
returns-then-negative-n c = parts_outside c.args.negative c.args.n c.if-n-le-HALF.false

pub returns-then-n-lt-HALF : goal.returns-then-n-lt-HALF
returns-then-n-lt-HALF c =
    parts_above c.args.negative c.args.n c.if-negative-n.false c.if-n-lt-HALF.true

pub returns : goal.returns
returns c =
    parts_great c.args.negative c.args.n c.if-negative-n.false c.if-n-lt-HALF.false

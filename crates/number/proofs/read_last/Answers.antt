-- By the byte: no digit, one above the greatest number, or another.
use Rattle.number.proofs.Scan.{last_none, last_over, last_digit, digit_bounds}
use Rattle.number.proofs.read_last.Goals as goal

pub returns-then-b : goal.returns-then-b
returns-then-b c = last_none c.args.greatest c.args.b c.if-b.true

pub overflow_sub-m : goal.overflow_sub-m
overflow_sub-m c = (digit_bounds _ c.if-b.false).0

pub returns-then-greatest-m : goal.returns-then-greatest-m
returns-then-greatest-m c =
    last_over c.args.greatest c.args.b c.if-b.false c.if-greatest-m.true

pub returns : goal.returns
returns c =
    last_digit c.args.greatest c.args.b c.if-b.false c.if-greatest-m.false

-- By the first byte: a zero (the last column or not), a minus, or another.
use Rattle.number.proofs.Scan.{zero_last, zero_before, first_minus, first_digit}
use Rattle.number.proofs.after_spaces.Goals as goal

pub returns-then-at-columns : goal.returns-then-at-columns
returns-then-at-columns c =
    zero_before c.args.greatest c.args.columns.now c.args.at c.requires.1 c.if-b-eq-ZERO.true c.if-at-columns.true

pub returns-then-b-eq-ZERO : goal.returns-then-b-eq-ZERO
returns-then-b-eq-ZERO c =
    zero_last c.args.greatest c.args.columns.now c.args.at c.requires.1 c.if-b-eq-ZERO.true c.if-at-columns.false

pub returns-then-b-eq-MINUS : goal.returns-then-b-eq-MINUS
returns-then-b-eq-MINUS c =
    first_minus c.args.greatest c.args.columns.now c.args.at c.requires.1 c.if-b-eq-MINUS.true c.after_minus.ensures

pub returns : goal.returns
returns c =
    first_digit c.args.greatest c.args.columns.now c.args.at c.requires.1 c.requires.2 c.if-b-eq-MINUS.false c.digits.ensures

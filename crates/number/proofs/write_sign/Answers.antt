-- The minus of a negative number is stored if there is a column for it; otherwise the columns stay as they are.
use Rattle.number.specs.Number.{Minus}
use Rattle.number.proofs.Columns.{sign_stored, no_columns, all_blank}
use Rattle.number.proofs.write_sign.Goals as goal

pub returns-then-width-gt0 : goal.returns-then-width-gt0
returns-then-width-gt0 c =
    simp c.if-negative.true (sign_stored c.args.out.now c.args.width c.if-width-gt0.true c.requires.0 c.requires.1)

pub returns-else-width-gt0 : goal.returns-else-width-gt0
returns-else-width-gt0 c =
    simp c.if-negative.true (no_columns c.args.out.now Minus c.args.width c.if-width-gt0.false)

pub returns-else-negative : goal.returns-else-negative
returns-else-negative c =
    simp c.if-negative.false (all_blank c.args.out.now c.args.width c.requires.1)

-- Spaces first, then the sign and the digits over them.
use mathlib.Core.Bool.{true, false}
use borrow.Author.Tests.{lt-ltb, le-ltb}
use borrow.Author.Rules.{rules}
use Rattle.number.specs.Number.{Digits}
use Rattle.number.proofs.Columns.{blank_done, over_blank}
use Rattle.number.proofs.write_number.Goals as goal

pub write_digits-requires : goal.write_digits-requires
write_digits-requires c =
    (search rules, blank_done c.args.width c.blank.new.out _ c.blank.ensures)

pub write_digits-requires-else-word-lt-FIRST_NEGATIVE : goal.write_digits-requires-else-word-lt-FIRST_NEGATIVE
write_digits-requires-else-word-lt-FIRST_NEGATIVE c =
    (search rules, blank_done c.args.width c.blank.new.out _ c.blank.ensures)

pub returns-then-word-lt-FIRST_NEGATIVE : goal.returns-then-word-lt-FIRST_NEGATIVE
returns-then-word-lt-FIRST_NEGATIVE c =
    let a = c.args in
    simp (lt-ltb _ _ c.if-word-lt-FIRST_NEGATIVE.true) (over_blank a.width (Digits false a.word) a.out.now _ _ c.blank.ensures c.write_digits.ensures)

pub returns-else-word-lt-FIRST_NEGATIVE : goal.returns-else-word-lt-FIRST_NEGATIVE
returns-else-word-lt-FIRST_NEGATIVE c =
    let a = c.args in
    simp (le-ltb _ _ c.if-word-lt-FIRST_NEGATIVE.false)
    (rw (← c.negated.ensures) (over_blank a.width (Digits true c.negated.result) a.out.now _ _ c.blank.ensures c.write_digits-else-word-lt-FIRST_NEGATIVE.ensures))

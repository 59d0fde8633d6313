-- Few columns, the last column alone, or those after the spaces.
use native.Mathlib.Omega.{arith}
use mathlib.Core.Path.{ap, sym, ◌∙◌}
use Rattle.number.specs.Reading.{value_of}
use Rattle.number.proofs.Leading.{blank_skipped}
use Rattle.number.proofs.Scan.{scanned, last_column}
use Rattle.number.proofs.read_number.Goals as goal

pub blank_on-requires : goal.blank_on-requires
blank_on-requires c = (omega arith, λ j l. absurd (omega (arith, l)))

pub blank_start-at-requires : goal.blank_start-at-requires
blank_start-at-requires c = omega (arith, c.if-columns-lt8.false)

pub overflow_sub-columns : goal.overflow_sub-columns
overflow_sub-columns c = c.blank_start-at.ensures.0

pub returns-then-columns-at-eq1 : goal.returns-then-columns-at-eq1
returns-then-columns-at-eq1 c =
    let found = c.blank_start-at in
    let a = c.args in
    scanned a.greatest a.columns.now found.result (blank_skipped a.greatest a.columns.now found.result found.ensures)
    (c.read_last.ensures ∙ ap value_of (sym (last_column a.greatest a.columns.now found.result c.if-columns-at-eq1.true)))

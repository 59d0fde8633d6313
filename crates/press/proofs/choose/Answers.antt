-- By what the reader finds at the start.
use mathlib.Core.Path.{ap, ◌∙◌}
use Rattle.row.specs.Row.{greatest, width}
use Rattle.row.specs.Reading.{read_at}
use Rattle.table.specs.Rows.{rows_of}
use Rattle.values.specs.Values.{values_of}
use Rattle.press.proofs.Rows.{no_row, bad_row_lem, row_place, row_chosen, row_other}
use Rattle.press.proofs.choose.Goals as goal

pub choose_values-requires : goal.choose_values-requires
choose_values-requires c = let place = row_place (rows_of c.args.scanned.now.table.words.now) c.args.step.now (values_of c.args.present.now c.args.after.now) (c.next_row.ensures ∙ ap (read_at greatest width c.args.step.now) c.start.ensures) c.in-Next.row c.in-Next.next c.in-Next.is in
    (place.0, place.1)

pub returns-then-is_step_row : goal.returns-then-is_step_row
returns-then-is_step_row c =
    let a = c.args in
    row_chosen (rows_of a.scanned.now.table.words.now) a.step.now (values_of a.present.now a.after.now) (c.next_row.ensures ∙ ap (read_at greatest width a.step.now) c.start.ensures) c.in-Next.row c.in-Next.next c.in-Next.is
    c.is_step_row.ensures c.if-is_step_row.true c.choose_values.ensures

pub returns-in-End : goal.returns-in-End
returns-in-End c =
    let a = c.args in
    no_row (rows_of a.scanned.now.table.words.now) a.step.now (values_of a.present.now a.after.now) (c.next_row.ensures ∙ ap (read_at greatest width a.step.now) c.start.ensures) c.in-End.is

pub returns-in-Malformed : goal.returns-in-Malformed
returns-in-Malformed c =
    let a = c.args in
    bad_row_lem (rows_of a.scanned.now.table.words.now) a.step.now (values_of a.present.now a.after.now) (c.next_row.ensures ∙ ap (read_at greatest width a.step.now) c.start.ensures) c.in-Malformed.is

pub returns-else-is_step_row : goal.returns-else-is_step_row
returns-else-is_step_row c =
    let a = c.args in
    row_other (rows_of a.scanned.now.table.words.now) a.step.now (values_of a.present.now a.after.now) (c.next_row.ensures ∙ ap (read_at greatest width a.step.now) c.start.ensures) c.in-Next.row c.in-Next.next c.in-Next.is
    c.is_step_row.ensures c.if-is_step_row.false

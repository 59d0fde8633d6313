-- By what reading the rows 91 finds.
use Rattle.table.specs.Rows.{rows_of}
use Rattle.values.specs.Values.{values_of}
use Rattle.press.proofs.Rows.{values_bad, values_end}
use Rattle.press.proofs.choose_values.Goals as goal

pub returns-in-Err : goal.returns-in-Err
returns-in-Err c =
    let a = c.args in
    values_bad (rows_of a.scanned.now.table.words.now) a.e a.step.now a.place.at (values_of a.present.now a.after.now) (values_of c.read_values.new.present c.read_values.new.after) c.requires.0
    c.read_values.result c.read_values.ensures.reads_values c.in-Err.field-0 c.in-Err.is

pub returns-in-Ok : goal.returns-in-Ok
returns-in-Ok c =
    let a = c.args in
    values_end (rows_of a.scanned.now.table.words.now) a.e a.step.now a.place.at (values_of a.present.now a.after.now) (values_of c.read_values.new.present c.read_values.new.after) c.requires.0
    c.read_values.result c.read_values.ensures.reads_values c.in-Ok.end c.in-Ok.is c.chosen_to.ensures

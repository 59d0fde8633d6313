-- By whether the identifier has a row 91.
use mathlib.Core.Path.{ap₂}
use mathlib.Core.Bool.{◌||◌}
use Rattle.table.specs.Rows.{rows_of}
use Rattle.values.specs.Values.{values_of}
use Rattle.values.proofs.Reading.{identifier_read, identifier_skipped}
use Rattle.values.proofs.read_identifier.Goals as goal

pub is_given-given-requires : goal.is_given-given-requires
is_given-given-requires c = (c.requires.0, c.identifier_field-kind.ensures)

pub is_told-requires : goal.is_told-requires
is_told-requires c = c.identifier_field-kind.ensures

pub returns-then-given-is_told : goal.returns-then-given-is_told
returns-then-given-is_told c =
    let given = c.is_given-given.ensures in
    let both = identifier_read (rows_of c.args.scanned.now.table.words.now) c.args.pressing c.args.e c.args.x c.args.run.now (ap₂ ◌||◌ given c.is_told.ensures)
    c.args.place.at (values_of c.args.present.now c.args.after.now) c.is_given-given.result _ _ c.if-given-is_told.true given c.read_value.ensures.reads_value c.read_value.ensures.reaches in
    record { reads_identifier = both.0; reaches = both.1 }

pub returns : goal.returns
returns c =
    let both = identifier_skipped (rows_of c.args.scanned.now.table.words.now) c.args.pressing c.args.e c.args.x c.args.run.now
    (ap₂ ◌||◌ c.is_given-given.ensures c.is_told.ensures)
    c.args.place (values_of c.args.present.now c.args.after.now) c.requires.1 c.if-given-is_told.false in
    record { reads_identifier = both.0; reaches = both.1 }

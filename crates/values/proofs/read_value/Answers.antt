-- By what the reader finds.
use Rattle.table.specs.Rows.{rows_of}
use Rattle.values.specs.Values.{values_of}
use Rattle.values.proofs.Reading.{next_place, value_ends, value_malformed, value_stored, value_wrong}
use Rattle.values.proofs.read_value.Goals as goal

pub returns-then-read_row : goal.returns-then-read_row
returns-then-read_row c =
    let t = rows_of c.args.table.now.words.now in
    let vs = values_of c.args.present.now c.args.after.now in
    let run = c.args.run.now in
    let at = c.args.place.at in
    let r = c.in-Next.row in
    let next = c.in-Next.next in
    let seen = c.next_row.ensures in
    record {
      reads_value = value_stored t c.args.given c.args.x run at vs seen r next c.in-Next.is c.read_row.ensures.0 c.read_row.ensures.1 c.if-read_row.true;
      reaches = next_place run at seen r next c.in-Next.is;
    }

pub returns-in-End : goal.returns-in-End
returns-in-End c =
    let t = rows_of c.args.table.now.words.now in
    let run = c.args.run.now in
    let at = c.args.place.at in
    record {
      reads_value = value_ends t c.args.given c.args.x run at (values_of c.args.present.now c.args.after.now) c.next_row.ensures c.in-End.is;
      reaches = tt;
    }

pub returns-in-Malformed : goal.returns-in-Malformed
returns-in-Malformed c =
    let t = rows_of c.args.table.now.words.now in
    let run = c.args.run.now in
    let at = c.args.place.at in
    record {
      reads_value = value_malformed t c.args.given c.args.x run at (values_of c.args.present.now c.args.after.now) c.next_row.ensures c.in-Malformed.is c.row_number.ensures;
      reaches = tt;
    }

pub returns-else-read_row : goal.returns-else-read_row
returns-else-read_row c =
    let t = rows_of c.args.table.now.words.now in
    let vs = values_of c.args.present.now c.args.after.now in
    let run = c.args.run.now in
    let at = c.args.place.at in
    let r = c.in-Next.row in
    let next = c.in-Next.next in
    record {
      reads_value = value_wrong t c.args.given c.args.x run at vs c.next_row.ensures r next c.in-Next.is c.read_row.ensures.0 c.read_row.ensures.1 c.if-read_row.false c.row_number-in-Next.ensures;
      reaches = tt;
    }

-- By what the reader finds.
use Rattle.table.specs.Rows.{rows_of}
use Rattle.values.specs.Values.{values_of}
use Rattle.steps.proofs.Steps.{step_ended, end_begins, step_malformed, row_within, step_begins, step_taken, step_wrong}
use Rattle.steps.proofs.replay_step.Goals as goal

pub take_step-requires : goal.take_step-requires
take_step-requires c = row_within (rows_of c.args.scanned.now.table.words.now) c.args.n c.args.run.now c.args.place.at (values_of c.args.present.now c.args.after.now) c.next_row.ensures c.in-Next.row c.in-Next.next c.in-Next.is
    c.is_step_row.ensures

pub returns-then-is_step_row : goal.returns-then-is_step_row
returns-then-is_step_row c =
    let run = c.args.run.now in
    let at = c.args.place.at in
    let r = c.in-Next.row in
    let next = c.in-Next.next in
    let seen = c.next_row.ensures in
    let t = rows_of c.args.scanned.now.table.words.now in
    let vs = values_of c.args.present.now c.args.after.now in
    let good = c.is_step_row.ensures in
    record {
      replays_step = step_taken t c.args.n run at vs seen r next c.in-Next.is good
          c.take_step.result (values_of c.take_step.new.present c.take_step.new.after) c.if-is_step_row.true c.row_number-at.ensures c.take_step.ensures.takes_step;
      begins_within = step_begins t c.args.n run at vs seen r next c.in-Next.is good c.take_step.result c.take_step.ensures.begins_within;
    }

pub returns-in-End : goal.returns-in-End
returns-in-End c =
    let run = c.args.run.now in
    let at = c.args.place.at in
    let t = rows_of c.args.scanned.now.table.words.now in
    let vs = values_of c.args.present.now c.args.after.now in
    let seen = c.next_row.ensures in
    record {
      replays_step = step_ended t c.args.n run at vs seen c.ended.ensures c.in-End.is;
      begins_within = end_begins t c.args.n run at vs seen _ _ c.ended.ensures;
    }

pub returns-in-Malformed : goal.returns-in-Malformed
returns-in-Malformed c =
    let run = c.args.run.now in
    let at = c.args.place.at in
    record {
      replays_step = step_malformed (rows_of c.args.scanned.now.table.words.now) c.args.n run at (values_of c.args.present.now c.args.after.now) c.next_row.ensures c.in-Malformed.is c.row_number.ensures;
      begins_within = tt;
    }

pub returns-else-is_step_row : goal.returns-else-is_step_row
returns-else-is_step_row c =
    let run = c.args.run.now in
    let at = c.args.place.at in
    let r = c.in-Next.row in
    let next = c.in-Next.next in
    let seen = c.next_row.ensures in
    record {
      replays_step = step_wrong (rows_of c.args.scanned.now.table.words.now) c.args.n run at (values_of c.args.present.now c.args.after.now) seen r next c.in-Next.is c.is_step_row.ensures c.if-is_step_row.false c.row_number-in-Next.ensures;
      begins_within = tt;
    }

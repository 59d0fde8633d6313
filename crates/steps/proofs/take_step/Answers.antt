-- By whether its rows are read.
use Rattle.table.specs.Rows.{rows_of}
use Rattle.values.specs.Values.{values_of}
use Rattle.steps.proofs.Steps.{rows_bad, rows_judged, next_begins}
use Rattle.steps.proofs.take_step.Goals as goal

pub returns-in-Err : goal.returns-in-Err
returns-in-Err c =
    record {
      takes_step = rows_bad (rows_of c.args.scanned.now.table.words.now) c.args.e c.args.row c.args.run.now c.args.place.at (values_of c.args.present.now c.args.after.now)
          (values_of c.read_values.new.present c.read_values.new.after) c.read_values.result c.read_values.ensures.reads_values c.read_values.ensures.reaches c.in-Err.bad c.in-Err.is;
      begins_within = tt;
    }

pub returns-in-Ok : goal.returns-in-Ok
returns-in-Ok c =
    record {
      takes_step = rows_judged (rows_of c.args.scanned.now.table.words.now) c.args.e c.args.row c.args.run.now c.args.place.at (values_of c.args.present.now c.args.after.now)
          (values_of c.read_values.new.present c.read_values.new.after) c.read_values.result c.read_values.ensures.reads_values c.read_values.ensures.reaches c.in-Ok.next c.in-Ok.is
          c.judge_step.ensures.value c.judge_step.ensures.after_after;
      begins_within = next_begins (rows_of c.args.scanned.now.table.words.now) c.args.e c.args.row c.args.run.now c.args.place.at (values_of c.args.present.now c.args.after.now)
          (values_of c.read_values.new.present c.read_values.new.after) c.read_values.result c.read_values.ensures.reads_values c.read_values.ensures.reaches c.in-Ok.next c.in-Ok.is
          c.judge_step.ensures.value;
    }

-- The part is the whole run.
use mathlib.Core.Path.{ap, ◌∙◌}
use Rattle.std.specs.Prelude.{Ok, Err}
use Rattle.std.proofs.lemmas.Result.{err_from_is_err_and}
use Rattle.table.specs.Rows.{rows_of}
use Rattle.values.specs.Values.{values_of}
use Rattle.steps.proofs.Parts.{never_more, run_ended, run_refused}
use Rattle.steps.proofs.replay_steps.Goals as goal

pub returns-in-More : goal.returns-in-More
returns-in-More c =
    absurd (never_more (rows_of c.args.scanned.now.table.words.now) c.args.run.now (values_of c.args.present.now c.args.after.now) (values_of c.replay_part.new.present c.replay_part.new.after) c.replay_part.result c.replay_part.ensures.replays_part c.replay_part.ensures.stops c.in-More.n c.in-More.place (c.in_ok-n.was ∙ ap Ok c.in-More.is))

pub returns-in-Ended : goal.returns-in-Ended
returns-in-Ended c =
    run_ended (rows_of c.args.scanned.now.table.words.now) c.args.run.now (values_of c.args.present.now c.args.after.now) (values_of c.replay_part.new.present c.replay_part.new.after) c.replay_part.result c.replay_part.ensures.replays_part c.replay_part.ensures.stops c.in-Ended.steps (c.in_ok-n.was ∙ ap Ok c.in-Ended.is)

pub returns-in_err-n : goal.returns-in_err-n
returns-in_err-n c =
    let p = err_from_is_err_and c.from_residual.result c.from_residual.ensures.1 in
    p.1 ∙ ap Err p.2 ∙ run_refused (rows_of c.args.scanned.now.table.words.now) c.args.run.now (values_of c.args.present.now c.args.after.now) (values_of c.replay_part.new.present c.replay_part.new.after) c.replay_part.result c.replay_part.ensures.replays_part c.replay_part.ensures.stops c.in_err-n.field-0.0 c.in_err-n.was

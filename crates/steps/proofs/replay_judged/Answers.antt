-- By the verdict.
use mathlib.Core.Path.{ap, sym, ◌∙◌}
use Rattle.std.specs.Prelude.{Err}
use Rattle.std.proofs.lemmas.Result.{err_from_is_err_and}
use Rattle.table.specs.Rows.{rows_of}
use Rattle.recording.specs.Replay.{replay_by, replay_log}
use Rattle.steps.proofs.replay_judged.Goals as goal

pub returns-in_err-judge_with : goal.returns-in_err-judge_with
returns-in_err-judge_with c =
    let t = rows_of c.args.index.now.table.words.now in
    let p = err_from_is_err_and c.from_residual.result c.from_residual.ensures.1 in
    p.1 ∙ ap Err p.2 ∙ sym (ap (λ v. replay_by v (replay_log t c.args.run.now)) (sym c.judge_with.ensures ∙ c.in_err-judge_with.was))

pub returns : goal.returns
returns c =
    let t = rows_of c.args.index.now.table.words.now in
    c.replay_log.ensures ∙ sym (ap (λ v. replay_by v (replay_log t c.args.run.now)) (sym c.judge_with.ensures ∙ c.in_ok-judge_with.was))

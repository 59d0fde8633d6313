-- By checks 1 and 2; then by what the filled part of the words holds, the numbers of all rows (verdict's Filled).
use mathlib.Core.Path.{ap, sym, ◌∙◌}
use Rattle.std.specs.Prelude.{Err}
use Rattle.std.proofs.lemmas.Result.{err_from_is_err_and}
use Rattle.table.specs.Rows.{rows_of}
use Rattle.rules.specs.Decoded.{decoded}
use Rattle.rules.specs.Verdict.{judge}
use Rattle.verdict.specs.Loaded.{judged}
use Rattle.verdict.proofs.Filled.{verdict_judged, filled}
use Rattle.recording.specs.Replay.{replay_by, replay_log}
use Rattle.steps.proofs.Steps.{replay_is}
use Rattle.steps.proofs.replay.Goals as goal

pub slice_bounds-words-end : goal.slice_bounds-words-end
slice_bounds-words-end c =
    (filled c.args.table.now _ c.load.new.words c.in_ok-n.n c.load.auto.words c.load.ensures.words_after (sym c.load.ensures.value ∙ c.in_ok-n.was)).within

pub slice_bounds-replay_rows-end : goal.slice_bounds-replay_rows-end
slice_bounds-replay_rows-end c =
    (filled c.args.table.now _ c.load.new.words c.in_ok-n.n c.load.auto.words c.load.ensures.words_after (sym c.load.ensures.value ∙ c.in_ok-n.was)).size

pub replay_rows-requires : goal.replay_rows-requires
replay_rows-requires c =
    (filled c.args.table.now _ c.load.new.words c.in_ok-n.n c.load.auto.words c.load.ensures.words_after (sym c.load.ensures.value ∙ c.in_ok-n.was)).small

pub returns-in_err-n : goal.returns-in_err-n
returns-in_err-n c =
    let bytes = c.args.table.now in
    let p = err_from_is_err_and c.from_residual.result c.from_residual.ensures.1 in
    p.1 ∙ ap Err p.2
    ∙ sym (replay_is bytes c.args.run.now ∙ ap (λ v. replay_by v (replay_log (decoded bytes) c.args.run.now)) (verdict_judged bytes ∙ ap (judged bytes) (sym c.load.ensures.value ∙ c.in_err-n.was)))

pub returns : goal.returns
returns c =
    let bytes = c.args.table.now in
    let words = sym c.load.ensures.value ∙ c.in_ok-n.was in
    c.replay_rows.ensures
    ∙ ap (λ ws. replay_by (judge (rows_of ws)) (replay_log (rows_of ws) c.args.run.now)) (filled bytes _ c.load.new.words c.in_ok-n.n c.load.auto.words c.load.ensures.words_after words).holds
    ∙ sym (replay_is bytes c.args.run.now ∙ ap (λ v. replay_by v (replay_log (decoded bytes) c.args.run.now)) (verdict_judged bytes ∙ ap (judged bytes) words))

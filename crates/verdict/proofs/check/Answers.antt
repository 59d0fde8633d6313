-- By checks 1 and 2; then by what the filled part of the words holds, the numbers of all rows (Filled).
use mathlib.Core.Path.{ap, sym, ◌∙◌}
use Rattle.std.specs.Prelude.{Err}
use Rattle.std.proofs.lemmas.Result.{err_from_is_err_and}
use Rattle.table.specs.Rows.{rows_of}
use Rattle.rules.specs.Verdict.{judge}
use Rattle.verdict.specs.Loaded.{judged}
use Rattle.verdict.proofs.Filled.{verdict_judged, filled}
use Rattle.verdict.proofs.check.Goals as goal

pub slice_bounds-words-end : goal.slice_bounds-words-end
slice_bounds-words-end c =
    (filled c.args.bytes.now _ c.load.new.words c.in_ok-n.n c.load.auto.words c.load.ensures.words_after (sym c.load.ensures.value ∙ c.in_ok-n.was)).within

pub slice_bounds-judge-end : goal.slice_bounds-judge-end
slice_bounds-judge-end c =
    (filled c.args.bytes.now _ c.load.new.words c.in_ok-n.n c.load.auto.words c.load.ensures.words_after (sym c.load.ensures.value ∙ c.in_ok-n.was)).size

pub judge-requires : goal.judge-requires
judge-requires c =
    (filled c.args.bytes.now _ c.load.new.words c.in_ok-n.n c.load.auto.words c.load.ensures.words_after (sym c.load.ensures.value ∙ c.in_ok-n.was)).small

pub returns-in_err-n : goal.returns-in_err-n
returns-in_err-n c =
    let b = c.args.bytes.now in
    let p = err_from_is_err_and c.from_residual.result c.from_residual.ensures.1 in
    p.1 ∙ ap Err p.2 ∙ sym (verdict_judged b ∙ ap (judged b) (sym c.load.ensures.value ∙ c.in_err-n.was))

pub returns : goal.returns
returns c =
    let b = c.args.bytes.now in
    let words = sym c.load.ensures.value ∙ c.in_ok-n.was in
    c.judge.ensures ∙ ap (λ ws. judge (rows_of ws)) (filled b _ c.load.new.words c.in_ok-n.n c.load.auto.words c.load.ensures.words_after words).holds ∙ sym (verdict_judged b ∙ ap (judged b) words)

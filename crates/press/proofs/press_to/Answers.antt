-- By checks 1 and 2; then by what the filled part of the words holds, the numbers of all rows (verdict's Filled).
use mathlib.Core.Path.{ap, sym, ◌∙◌}
use Rattle.std.specs.Prelude.{Err}
use Rattle.std.proofs.lemmas.Result.{err_from_is_err_and}
use Rattle.table.specs.Rows.{rows_of}
use Rattle.rules.specs.Decoded.{decoded}
use Rattle.rules.specs.Verdict.{judge}
use Rattle.verdict.specs.Loaded.{judged}
use Rattle.verdict.proofs.Filled.{verdict_judged, filled}
use Rattle.bench.specs.Press.{outcome_by, press_on}
use Rattle.press.proofs.Press.{outcome_is, refused_answers, as_answers}
use Rattle.press.proofs.press_to.Goals as goal

pub slice_bounds-words-end : goal.slice_bounds-words-end
slice_bounds-words-end c =
    (filled c.args.table.now _ c.load.new.words c.in_ok-n.n c.load.auto.words c.load.ensures.words_after (sym c.load.ensures.value ∙ c.in_ok-n.was)).within

pub slice_bounds-press_rows-end : goal.slice_bounds-press_rows-end
slice_bounds-press_rows-end c =
    (filled c.args.table.now _ c.load.new.words c.in_ok-n.n c.load.auto.words c.load.ensures.words_after (sym c.load.ensures.value ∙ c.in_ok-n.was)).size

pub press_rows-requires : goal.press_rows-requires
press_rows-requires c =
    (filled c.args.table.now _ c.load.new.words c.in_ok-n.n c.load.auto.words c.load.ensures.words_after (sym c.load.ensures.value ∙ c.in_ok-n.was)).small

pub returns-in_err-n : goal.returns-in_err-n
returns-in_err-n c =
    let a = c.args in
    let bytes = a.table.now in
    let on = press_on (decoded bytes) a.step.now a.values.now a.sorts.now a.room in
    let both = refused_answers a.values.now (outcome_is bytes a.step.now a.values.now a.sorts.now a.room
    ∙ ap (λ v. outcome_by v on) (verdict_judged bytes ∙ ap (judged bytes) (sym c.load.ensures.value ∙ c.in_err-n.was))) in
    let p = err_from_is_err_and c.from_residual.result c.from_residual.ensures.1 in
    record { value = p.1 ∙ ap Err p.2 ∙ both.0; values_after = both.1 }

pub returns : goal.returns
returns c =
    let a = c.args in
    let bytes = a.table.now in
    let on = press_on (decoded bytes) a.step.now a.values.now a.sorts.now a.room in
    let words = sym c.load.ensures.value ∙ c.in_ok-n.was in
    let both = as_answers a.values.now (outcome_is bytes a.step.now a.values.now a.sorts.now a.room ∙ ap (λ v. outcome_by v on) (verdict_judged bytes ∙ ap (judged bytes) words)
    ∙ sym (ap (λ ws. outcome_by (judge (rows_of ws)) (press_on (rows_of ws) a.step.now a.values.now a.sorts.now a.room))
    (filled bytes _ c.load.new.words c.in_ok-n.n c.load.auto.words c.load.ensures.words_after words).holds)) (c.press_rows.ensures.value, c.press_rows.ensures.values_after) in
    record { value = both.0; values_after = both.1 }

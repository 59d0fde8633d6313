-- By the verdict.
use mathlib.Core.Path.{ap, sym, ◌∙◌}
use Rattle.std.specs.Prelude.{Err}
use Rattle.std.proofs.lemmas.Result.{err_from_is_err_and}
use Rattle.table.specs.Rows.{rows_of}
use Rattle.bench.specs.Press.{outcome_by, press_on}
use Rattle.press.proofs.Press.{accepted_few, refused_answers, as_answers}
use Rattle.press.proofs.press_judged.Goals as goal

pub press_state-requires : goal.press_state-requires
press_state-requires c = let t = rows_of c.args.index.now.table.words.now in
    accepted_few t _ (sym c.judge_with.ensures ∙ c.in_ok-judge_with.was)

pub returns-in_err-judge_with : goal.returns-in_err-judge_with
returns-in_err-judge_with c =
    let a = c.args in
    let on = press_on (rows_of a.index.now.table.words.now) a.step.now a.values.now a.sorts.now a.room in
    let both = refused_answers a.values.now (ap (λ v. outcome_by v on) (sym c.judge_with.ensures ∙ c.in_err-judge_with.was)) in
    let p = err_from_is_err_and c.from_residual.result c.from_residual.ensures.1 in
    record { value = p.1 ∙ ap Err p.2 ∙ both.0; values_after = both.1 }

pub returns : goal.returns
returns c =
    let a = c.args in
    let on = press_on (rows_of a.index.now.table.words.now) a.step.now a.values.now a.sorts.now a.room in
    let both = as_answers a.values.now (ap (λ v. outcome_by v on) (sym c.judge_with.ensures ∙ c.in_ok-judge_with.was)) (c.press_state.ensures.value, c.press_state.ensures.values_after) in
    record { value = both.0; values_after = both.1 }

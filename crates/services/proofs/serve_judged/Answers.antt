-- By the verdict.
use mathlib.Core.Path.{ap, sym, ◌∙◌}
use Rattle.std.specs.Prelude.{Err}
use Rattle.std.proofs.lemmas.Result.{err_from_is_err_and}
use Rattle.table.specs.Rows.{rows_of}
use Rattle.machine.specs.Described.{machine_of}
use Rattle.services.specs.Found.{outcome, serve_by}
use Rattle.services.proofs.serve_judged.Goals as goal

pub serve_accepted-requires : goal.serve_accepted-requires
serve_accepted-requires c = sym c.judge_with.ensures ∙ c.in_ok-count.was

pub returns-in_err-count : goal.returns-in_err-count
returns-in_err-count c =
    let t = rows_of c.args.index.now.table.words.now in
    let p = err_from_is_err_and c.from_residual.result c.from_residual.ensures.1 in
    ap (λ r. outcome r c.args.out.now) (p.1 ∙ ap Err p.2)
    ∙ sym (ap (λ v. serve_by (machine_of t) v c.args.k c.args.request c.args.out.now) (sym c.judge_with.ensures ∙ c.in_err-count.was))

pub returns : goal.returns
returns c =
    let t = rows_of c.args.index.now.table.words.now in
    c.serve_accepted.ensures ∙ sym (ap (λ v. serve_by (machine_of t) v c.args.k c.args.request c.args.out.now) (sym c.judge_with.ensures ∙ c.in_ok-count.was))

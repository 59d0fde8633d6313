-- By checks 1 and 2; then by what the filled part of the words holds, the numbers of all rows (verdict's Filled).
use mathlib.Core.Path.{ap, sym, ◌∙◌}
use Rattle.std.specs.Prelude.{Err}
use Rattle.std.proofs.lemmas.Result.{err_from_is_err_and}
use Rattle.table.specs.Rows.{rows_of}
use Rattle.machine.specs.Described.{machine_of}
use Rattle.rules.specs.Verdict.{judge}
use Rattle.rules.specs.Offence.{machine}
use Rattle.verdict.specs.Loaded.{judged}
use Rattle.verdict.proofs.Filled.{verdict_judged, filled}
use Rattle.services.specs.Found.{outcome, serve_by}
use Rattle.services.proofs.serve.Goals as goal

pub slice_bounds-words-end : goal.slice_bounds-words-end
slice_bounds-words-end c =
    (filled c.args.bytes.now _ c.load.new.words c.in_ok-n.n c.load.auto.words c.load.ensures.words_after (sym c.load.ensures.value ∙ c.in_ok-n.was)).within

pub slice_bounds-serve_rows-end : goal.slice_bounds-serve_rows-end
slice_bounds-serve_rows-end c =
    (filled c.args.bytes.now _ c.load.new.words c.in_ok-n.n c.load.auto.words c.load.ensures.words_after (sym c.load.ensures.value ∙ c.in_ok-n.was)).size

pub serve_rows-requires : goal.serve_rows-requires
serve_rows-requires c =
    (filled c.args.bytes.now _ c.load.new.words c.in_ok-n.n c.load.auto.words c.load.ensures.words_after (sym c.load.ensures.value ∙ c.in_ok-n.was)).small

pub returns-in_err-n : goal.returns-in_err-n
returns-in_err-n c =
    let b = c.args.bytes.now in
    let p = err_from_is_err_and c.from_residual.result c.from_residual.ensures.1 in
    ap (λ r. outcome r c.args.out.now) (p.1 ∙ ap Err p.2)
    ∙ sym (ap (λ v. serve_by (machine b) v c.args.k c.args.request c.args.out.now) (verdict_judged b ∙ ap (judged b) (sym c.load.ensures.value ∙ c.in_err-n.was)))

pub returns : goal.returns
returns c =
    let b = c.args.bytes.now in
    let words = sym c.load.ensures.value ∙ c.in_ok-n.was in
    c.serve_rows.ensures
    ∙ ap (λ ws. serve_by (machine_of (rows_of ws)) (judge (rows_of ws)) c.args.k c.args.request c.args.out.now) (filled b _ c.load.new.words c.in_ok-n.n c.load.auto.words c.load.ensures.words_after words).holds
    ∙ sym (ap (λ v. serve_by (machine b) v c.args.k c.args.request c.args.out.now) (verdict_judged b ∙ ap (judged b) words))

-- By checks 1 and 2; then by what the filled part of the words holds, the numbers of all rows (verdict's Filled).
use Rattle.std.proofs.Common.{ap, sym, ◌∙◌}
use Rattle.table.specs.Rows.{rows_of}
use Rattle.rules.specs.Verdict.{judge}
use Rattle.verdict.specs.Loaded.{judged}
use Rattle.verdict.proofs.Filled.{verdict_judged, filled}
use Rattle.obligations.proofs.print_table.Goals as goal

pub print_refusal-requires : goal.print_refusal-requires
print_refusal-requires c =
    let b = c.args.bytes.now in
    verdict_judged b ∙ ap (judged b) (sym c.load.ensures.value ∙ c.in-Err.is)

pub slice_bounds-words-end : goal.slice_bounds-words-end
slice_bounds-words-end c =
    (filled c.args.bytes.now _ c.load.new.words c.in-Ok.n c.load.auto.words c.load.ensures.words_after (sym c.load.ensures.value ∙ c.in-Ok.is)).within

pub slice_bounds-print_rows-end : goal.slice_bounds-print_rows-end
slice_bounds-print_rows-end c =
    (filled c.args.bytes.now _ c.load.new.words c.in-Ok.n c.load.auto.words c.load.ensures.words_after (sym c.load.ensures.value ∙ c.in-Ok.is)).size

pub print_rows-requires-clause-words_value : goal.print_rows-requires-clause-words_value
print_rows-requires-clause-words_value c =
    let b = c.args.bytes.now in
    let words = sym c.load.ensures.value ∙ c.in-Ok.is in
    let part = filled b _ c.load.new.words c.in-Ok.n c.load.auto.words c.load.ensures.words_after words in
    (part.holds, verdict_judged b ∙ ap (judged b) words ∙ sym (ap (λ ws. judge (rows_of ws)) part.holds))

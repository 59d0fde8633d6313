use Prim.Native.Nat.{min}
use mathlib.Core.Path.{refl, sym, ap, ◌∙◌, subst}
use native.Mathlib.Omega.{arith}
use Rattle.table.specs.Rows.{rows_of}
use Rattle.scan.specs.Span.{Spans}
use Rattle.select.specs.Selection.{selects}
use Rattle.select.specs.Each.{count_at}
use Rattle.select.proofs.Selected.{selected_spans, count_none}
use Rattle.select.proofs.Steps.{place_next, place_held, place_start, place_end}
use Rattle.select.proofs.seek_row.Goals as goal

pub loop-row-init : goal.loop-row-init
loop-row-init c =
    let t = rows_of c.args.index.now.table.words.now in
    let span = c.selected_span-span in
    let spans = subst (Spans (selects t c.args.rows) t.size) (sym span.ensures) (selected_spans t c.args.rows) in
    let start = c.min-start.ensures ∙ ap (λ n. min n c.args.end) c.max.ensures in
    ((place_start (count_at t c.args.rows c.args.each) (count_none t c.args.rows c.args.each) spans c.requires.1 c.args.from.row c.args.from.left c.min-start.result c.requires.0 start).0, refl)

pub count_at-count-requires : goal.count_at-count-requires
count_at-count-requires c = omega (arith, c.min-last.ensures)

pub returns-then-left-count : goal.returns-then-left-count
returns-then-left-count c =
    let t = rows_of c.args.index.now.table.words.now in
    let span = c.selected_span-span in
    let spans = subst (Spans (selects t c.args.rows) t.size) (sym span.ensures) (selected_spans t c.args.rows) in
    let start = c.min-start.ensures ∙ ap (λ n. min n c.args.end) c.max.ensures in
    record {
      place = c.loop-row.invariant.1 ∙ (place_start (count_at t c.args.rows c.args.each) (count_none t c.args.rows c.args.each) spans c.requires.1 c.args.from.row c.args.from.left c.min-start.result c.requires.0 start).1;
      within = c.loop-row.invariant.0;
      found = λ h. place_held (count_at t c.args.rows c.args.each) c.loop-row.row c.loop-row.left c.count_at-count.result c.count_at-count.ensures c.if-left-count.true;
    }

pub loop-row-preserved : goal.loop-row-preserved
loop-row-preserved c =
    let t = rows_of c.args.index.now.table.words.now in (
      omega (arith, c.min-last.ensures),
      place_next (count_at t c.args.rows c.args.each) c.loop-row.row c.loop-row.left c.count_at-count.result c.count_at-count.ensures c.if-left-count.false ∙ c.loop-row.invariant.1,
    )

pub returns : goal.returns
returns c =
    let t = rows_of c.args.index.now.table.words.now in
    let span = c.selected_span-span in
    let spans = subst (Spans (selects t c.args.rows) t.size) (sym span.ensures) (selected_spans t c.args.rows) in
    let start = c.min-start.ensures ∙ ap (λ n. min n c.args.end) c.max.ensures in
    record {
      place =
          place_end (count_at t c.args.rows c.args.each) (count_none t c.args.rows c.args.each) spans c.requires.1 c.loop-row.row c.loop-row.left c.min-last.result c.loop-row.invariant.0 c.min-last.ensures c.loop-row-test.false
          ∙ c.loop-row.invariant.1
          ∙ (place_start (count_at t c.args.rows c.args.each) (count_none t c.args.rows c.args.each) spans c.requires.1 c.args.from.row c.args.from.left c.min-start.result c.requires.0 start).1;
      within = omega arith;
      found = λ h. absurd (omega arith);
    }

use Prim.Native.Nat.{◌+◌, ◌≤◌, ◌<◌}
use mathlib.Core.Path.{refl, ap, ◌∙◌, subst}
use native.Mathlib.Omega.{arith}
use Rattle.table.specs.Rows.{rows_of}
use Rattle.select.specs.declared.Each.TheVariants.{One}
use Rattle.select.specs.Each.{count_at}
use Rattle.select.specs.Sought.{Passed}
use Rattle.segments.proofs.Tables.{end, end_within}
use Rattle.entries.specs.Seek.{hypotheses_before}
use Rattle.entries.proofs.Seek.{sought_in, passed_same, passed_found, passed_next}
use Rattle.entries.proofs.seek_entry.Goals as goal

pub loop-cursor-init : goal.loop-cursor-init
loop-cursor-init c = (c.requires.stands, refl)

pub seek_row-found-requires : goal.seek_row-found-requires
seek_row-found-requires c =
    let t = rows_of c.args.index.now.table.words.now in
    let r = c.segment_at-part.ensures in
    let k = c.loop-cursor.cursor.segment in (omega (arith, c.loop-cursor.invariant.0.row, ap (λ r. r.before) r), omega (arith, end_within t c.args.slot c.requires.table_value k, ap (λ r. r.before) r))

pub returns-then-found-end : goal.returns-then-found-end
returns-then-found-end c =
    let t = rows_of c.args.index.now.table.words.now in
    let part = c.segment_at-part in
    let p = subst (λ r. Passed (count_at t r.rows One) r.before (sought_in c.loop-cursor.cursor) c.seek_row-found.result) part.ensures c.seek_row-found.ensures in
    let inside : c.seek_row-found.result.row < end t c.args.slot c.loop-cursor.cursor.segment = omega (arith, c.if-found-end.true, ap (λ r. r.before) part.ensures) in
    let f = passed_found t c.args.slot c.loop-cursor.invariant.0 c.loop-cursor-test.true p inside c.at.ensures in
    record {
      stands = f.0;
      passed = ap (λ n. hypotheses_before t c.args.slot n + n.left) c.at.ensures ∙ passed_same t c.args.slot c.loop-cursor.invariant.0 c.loop-cursor-test.true p ∙ c.loop-cursor.invariant.1;
      found = λ h. f.1;
    }

pub loop-cursor-smaller : goal.loop-cursor-smaller
loop-cursor-smaller c =
    omega (arith, c.loop-cursor-test.true, ap (λ n. n.segment) c.next_segment-cursor.ensures)

pub loop-cursor-preserved : goal.loop-cursor-preserved
loop-cursor-preserved c =
    let t = rows_of c.args.index.now.table.words.now in
    let part = c.segment_at-part in
    let p = subst (λ r. Passed (count_at t r.rows One) r.before (sought_in c.loop-cursor.cursor) c.seek_row-found.result) part.ensures c.seek_row-found.ensures in
    let past : end t c.args.slot c.loop-cursor.cursor.segment ≤ c.seek_row-found.result.row = omega (arith, c.if-found-end.false, ap (λ r. r.before) part.ensures) in
    let n = passed_next t c.args.slot c.loop-cursor.invariant.0 c.loop-cursor-test.true p past c.next_segment-cursor.ensures in
    (n.0, n.1 ∙ c.loop-cursor.invariant.1)

pub returns : goal.returns
returns c =
    record { stands = c.loop-cursor.invariant.0; passed = c.loop-cursor.invariant.1; found = λ h. absurd (omega (arith, c.loop-cursor-test.false)) }

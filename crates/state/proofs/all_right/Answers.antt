use mathlib.Core.Path.{sym, ap, ◌∙◌}
use mathlib.Core.Bool.{not}
use native.Mathlib.Omega.{arith}
use Rattle.table.specs.Rows.{rows_of, count}
use Rattle.table.proofs.Counts.{counts_identifiers}
use Rattle.bench.specs.State.{is_wrong}
use Rattle.state.proofs.Right.{some_here, some_next, some_end}
use Rattle.state.proofs.all_right.Goals as goal

pub returns-then-is_wrong : goal.returns-then-is_wrong
returns-then-is_wrong c =
    let t = rows_of c.args.table.now.words.now in
    let inside = c.loop-x-test.true in
    sym (ap not (sym c.loop-x.invariant ∙ some_here (is_wrong t c.args.values.now c.args.sorts.now) (count t 10) c.loop-x.x (omega (arith, inside, counts_identifiers t c.args.table.now.counts c.args.table.now.counted))
    (sym c.is_wrong.ensures ∙ c.if-is_wrong.true)))

pub loop-x-preserved : goal.loop-x-preserved
loop-x-preserved c =
    let t = rows_of c.args.table.now.words.now in
    let inside = c.loop-x-test.true in
    sym (some_next (is_wrong t c.args.values.now c.args.sorts.now) (count t 10) c.loop-x.x (omega (arith, inside, counts_identifiers t c.args.table.now.counts c.args.table.now.counted))
    (sym c.is_wrong.ensures ∙ c.if-is_wrong.false)) ∙ c.loop-x.invariant

pub returns : goal.returns
returns c =
    let t = rows_of c.args.table.now.words.now in
    sym (ap not (sym c.loop-x.invariant ∙ some_end (is_wrong t c.args.values.now c.args.sorts.now) (count t 10) c.loop-x.x (omega (arith, c.loop-x-test.false, counts_identifiers t c.args.table.now.counts c.args.table.now.counted))))

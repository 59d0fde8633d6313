use mathlib.Core.Path.{ap₂, ◌∙◌}
use native.Mathlib.Omega.{arith}
use Rattle.table.specs.Rows.{rows_of}
use Rattle.table.specs.Counts.{counted_row}
use Rattle.table.proofs.Counts.{counts_small, counts_next, counts_none}
use Rattle.table.proofs.Table.of.Goals as goal

pub loop-i-init : goal.loop-i-init
loop-i-init c =
    c.empty-table.ensures ∙ counts_none (rows_of c.args.words.now)

pub with_row-table-requires : goal.with_row-table-requires
with_row-table-requires c =
    let t = rows_of c.args.words.now in
    counts_small t c.loop-i.i c.loop-i.table (omega arith) c.loop-i.invariant

pub loop-i-preserved : goal.loop-i-preserved
loop-i-preserved c =
    let t = rows_of c.args.words.now in
    c.with_row-table.ensures ∙ ap₂ counted_row c.loop-i.invariant c.tag_at.ensures ∙ counts_next t c.loop-i.i

-- From the lengths and the records.
use Rattle.table.specs.Rows.{rows_of}
use Rattle.table.proofs.Counts.{counts_identifiers}
use Rattle.state.proofs.Right.{state_is}
use Rattle.state.proofs.is_state.Goals as goal

pub returns : goal.returns
returns c =
    let t = rows_of c.args.table.now.words.now in
    state_is t c.args.values.now c.args.sorts.now (counts_identifiers t c.args.table.now.counts c.args.table.now.counted) c.all_right-right.ensures

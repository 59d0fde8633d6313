-- The sections start where the table says.
use Rattle.table.specs.Rows.{rows_of}
use Rattle.table.proofs.Counts.{starts_nodes, starts_identifiers}
use Rattle.after.proofs.equal_after.Goals as goal

pub invariant_of-env : goal.invariant_of-env
invariant_of-env c =
    let table = c.args.table.now in
    let t = rows_of table.words.now in
    record { nodes_start = starts_nodes t table.counts table.counted; identifiers_start = starts_identifiers t table.counts table.counted }

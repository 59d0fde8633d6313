-- The section has as many rows as the counts say.
use Rattle.table.specs.Rows.{rows_of}
use Rattle.table.proofs.Counts.{counts_nodes, section_named}
use Rattle.table.proofs.counted.Counted.named_node.Goals as goal

pub returns : goal.returns
returns c =
    let t = rows_of c.args.self.now.words.now in
    section_named t 20 _ c.args.n _ (counts_nodes t c.args.self.now.counts c.args.self.now.counted) c.among.ensures

-- The section starts where the counts say.
use Rattle.table.specs.Rows.{rows_of}
use Rattle.table.proofs.Counts.{starts_nodes, section_inside, section_field}
use Rattle.table.proofs.counted.Counted.node_field.Goals as goal

pub field-requires : goal.field-requires
field-requires c =
    let ws = c.args.self.now.words.now in
    (c.requires, section_inside ws 20 _ (starts_nodes (rows_of ws) c.args.self.now.counts c.args.self.now.counted))

pub returns : goal.returns
returns c =
    let ws = c.args.self.now.words.now in
    section_field ws 20 _ (starts_nodes (rows_of ws) c.args.self.now.counts c.args.self.now.counted) _ c.args.n c.args.column c.field.ensures

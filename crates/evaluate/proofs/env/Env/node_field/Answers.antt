-- The section starts where it is said.
use Rattle.table.proofs.Counts.{section_inside, section_field}
use Rattle.evaluate.proofs.env.Env.node_field.Goals as goal

pub field-requires : goal.field-requires
field-requires c =
    (c.requires, section_inside c.args.self.now.words.now 20 _ c.args.self.now.nodes_start)

pub returns : goal.returns
returns c =
    section_field c.args.self.now.words.now 20 _ c.args.self.now.nodes_start _ c.args.n c.args.column c.field.ensures

-- The section starts where it is said.
use Rattle.table.proofs.Counts.{section_inside, section_field}
use Rattle.evaluate.proofs.env.Env.identifier_field.Goals as goal

pub field-requires : goal.field-requires
field-requires c =
    (c.requires, section_inside c.args.self.now.words.now 10 _ c.args.self.now.identifiers_start)

pub returns : goal.returns
returns c =
    section_field c.args.self.now.words.now 10 _ c.args.self.now.identifiers_start _ c.args.x c.args.column c.field.ensures

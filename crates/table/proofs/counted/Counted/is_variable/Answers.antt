-- By the kind that is looked up.
use Rattle.table.proofs.counted.Counted.is_variable.Goals as goal

pub returns : goal.returns
returns c =
    simp (c.identifier_field-kind.ensures, c.is_variable_of.ensures)

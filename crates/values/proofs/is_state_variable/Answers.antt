-- From the identifier's kind.
use mathlib.Core.Path.{ap, ◌∙◌}
use Rattle.table.specs.Names.{is_variable_of}
use Rattle.values.proofs.is_state_variable.Goals as goal

pub returns : goal.returns
returns c =
    c.is_variable_of.ensures ∙ ap (is_variable_of 3) c.identifier_field-kind.ensures

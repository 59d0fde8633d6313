-- By whether the event is an initialisation, and by the kind.
use Rattle.table.specs.Rows.{rows_of}
use Rattle.values.proofs.Reading.{given_constant, given_none, given_owned}
use Rattle.values.proofs.is_given.Goals as goal

pub returns-then-initial : goal.returns-then-initial
returns-then-initial c =
    given_constant (rows_of c.args.table.now.words.now) c.args.e c.args.x c.requires.0 c.requires.1 c.if-initial.true

pub returns-then-kind-ne-CONCRETE_PARAMETER : goal.returns-then-kind-ne-CONCRETE_PARAMETER
returns-then-kind-ne-CONCRETE_PARAMETER c =
    given_none (rows_of c.args.table.now.words.now) c.args.e c.args.x c.requires.0 c.requires.1 c.if-initial.false c.if-kind-ne-CONCRETE_PARAMETER.true

pub returns : goal.returns
returns c =
    given_owned (rows_of c.args.table.now.words.now) c.args.e c.args.x c.requires.0 c.requires.1 c.if-initial.false c.if-kind-ne-CONCRETE_PARAMETER.false c.identifier_field.ensures

-- By the fields that are looked up.
use Rattle.rule_sight.proofs.event_sees.Goals as goal

pub returns : goal.returns
returns c =
    simp (
      c.variable_kind-variable.ensures,
      c.event_field-class.ensures,
      c.event_field-machine.ensures,
      c.identifier_field-owner.ensures,
      c.identifier_field-kind.ensures,
    )

-- By the fields that are looked up.
use Rattle.rule_references.proofs.action_target.Goals as goal

pub returns : goal.returns
returns c =
    simp (
      c.variable_kind-fits.ensures,
      c.event_field-machine.ensures,
      c.identifier_field-kind.ensures,
      c.named_identifier-identifier.ensures,
      c.named_event-event.ensures,
    )

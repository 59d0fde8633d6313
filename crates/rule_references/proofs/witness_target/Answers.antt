-- By the fields that are looked up.
use Rattle.rule_references.proofs.witness_target.Goals as goal

pub returns : goal.returns
returns c =
    simp (
      c.identifier_field-owner.ensures,
      c.identifier_field-kind.ensures,
      c.named_identifier-identifier.ensures,
      c.event_field-refined.ensures,
      c.event_field-class.ensures,
      c.event_field-machine.ensures,
      c.named_event-event.ensures,
    )

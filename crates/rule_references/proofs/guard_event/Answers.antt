-- By the fields that are looked up.
use Rattle.rule_references.proofs.guard_event.Goals as goal

pub returns : goal.returns
returns c =
    simp (c.event_field-class.ensures, c.named_event-named.ensures)

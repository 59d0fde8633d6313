-- Each part of the test from the field that it reads.
use Rattle.rule_names.proofs.owner_event.Goals as goal

pub returns : goal.returns
returns c =
    simp (c.named_event.ensures, c.event_field-class.ensures, c.event_field-owner.ensures)

-- By cases on the selection.
use Rattle.select.proofs.selected_span.Goals as goal

pub returns-in-None : goal.returns-in-None
returns-in-None c = simp c.in-None.is

pub returns-in-Tagged : goal.returns-in-Tagged
returns-in-Tagged c = simp (c.section_span.ensures, c.in-Tagged.is)

pub returns-in-OfEvent : goal.returns-in-OfEvent
returns-in-OfEvent c = simp (c.section_span-in-OfEvent.ensures, c.in-OfEvent.is)

pub returns-in-ForParameters : goal.returns-in-ForParameters
returns-in-ForParameters c =
    simp (c.section_span-in-ForParameters.ensures, c.in-ForParameters.is)

pub returns-in-Identifiers : goal.returns-in-Identifiers
returns-in-Identifiers c = simp (c.identifier_span.ensures, c.in-Identifiers.is)

pub returns-in-Variables : goal.returns-in-Variables
returns-in-Variables c =
    simp (c.identifier_span-in-Variables.ensures, c.in-Variables.is)

pub returns-in-Assigned : goal.returns-in-Assigned
returns-in-Assigned c =
    simp (c.identifier_span-in-Assigned.ensures, c.in-Assigned.is)

pub returns-in-SuchThat : goal.returns-in-SuchThat
returns-in-SuchThat c =
    simp (c.identifier_span-in-SuchThat.ensures, c.in-SuchThat.is)

-- By whether there is an event.
use borrow.Author.Tests.{eq-eqb, ne_eqb}
use Rattle.groups.proofs.of_event.Goals as goal

pub returns-then-event-eq0 : goal.returns-then-event-eq0
returns-then-event-eq0 c = rw (eq-eqb c.args.event 0 c.if-event-eq0.true)

pub returns : goal.returns
returns c = rw (ne_eqb c.args.event 0 c.if-event-eq0.false)

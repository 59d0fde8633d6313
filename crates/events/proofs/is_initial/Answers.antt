-- The column is the event's.
use mathlib.Core.Path.{ap}
use lib.Dec.{eqb}
use Rattle.events.proofs.is_initial.Goals as goal

pub returns : goal.returns
returns c = ap (λ n. eqb n 0) c.event_field.ensures

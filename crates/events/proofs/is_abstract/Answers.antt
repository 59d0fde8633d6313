-- The column is the event's.
use mathlib.Core.Path.{ap}
use lib.Dec.{eqb}
use Rattle.events.proofs.is_abstract.Goals as goal

pub returns : goal.returns
returns c = ap (λ n. eqb n 1) c.event_field.ensures

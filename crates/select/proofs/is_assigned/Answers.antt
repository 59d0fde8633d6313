-- The row found is the action's.
use mathlib.Core.Path.{ap₂}
use lib.Dec.{ltb}
use Rattle.select.proofs.is_assigned.Goals as goal

pub returns : goal.returns
returns c = ap₂ ltb c.action_row.ensures c.size.ensures

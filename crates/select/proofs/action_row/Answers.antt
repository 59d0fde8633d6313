-- The row that is noted is the action's.
use Rattle.select.specs.Selection.{action_row}
use Rattle.select.proofs.action_row.Goals as goal

pub returns : goal.returns
unfolding action_row
returns c = c.action_row.ensures

-- What its goal's set has (Slots).
use mathlib.Core.Path.{ap, ◌∙◌}
use Rattle.table.specs.Rows.{rows_of}
use Rattle.sequent.specs.Forms.{entry_of}
use Rattle.mentioned.specs.Mentioned.{entry_set}
use Rattle.services.proofs.Slots.{goal_mentioned}
use Rattle.services.proofs.mentioned.Goals as goal

pub returns : goal.returns
returns c =
    goal_mentioned (rows_of c.args.index.now.table.words.now) c.args.slot c.requires.listed_slot c.goal_at.result c.goal_at.ensures
    (λ xs h e. c.mentioned_row.ensures xs h (ap (λ ws. entry_set (rows_of ws.now) (entry_of c.goal_at.result)) c.rows.ensures.0 ∙ e))

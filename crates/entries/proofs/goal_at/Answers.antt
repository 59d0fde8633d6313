-- Kind and item are the header's.
use mathlib.Core.Path.{ap₂, ◌∙◌}
use Rattle.table.specs.Rows.{rows_of}
use Rattle.sequent.specs.Numbers.{numbers_of}
use Rattle.segments.specs.Segments.{goal_of}
use Rattle.entries.proofs.goal_at.Goals as goal

pub returns : goal.returns
returns c =
    c.goal_of.ensures ∙ ap₂ (λ k x. numbers_of (goal_of (rows_of c.args.index.now.table.words.now) k c.args.slot.event x)) c.header_kind-kind.ensures c.header_item-item.ensures

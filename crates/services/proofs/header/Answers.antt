-- Kind and item are the slot's.
use mathlib.Core.Path.{ap₂}
use Rattle.reply.specs.Row.{row}
use Rattle.services.proofs.header.Goals as goal

pub returns : goal.returns
returns c =
    ap₂ (λ k x. row 80 k c.args.slot.event x) c.header_kind.ensures c.header_item-item.ensures

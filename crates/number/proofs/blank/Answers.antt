-- The first columns are filled with spaces.
use Rattle.number.proofs.Columns.{blank_filled}
use Rattle.number.proofs.blank.Goals as goal

pub returns : goal.returns
returns c = blank_filled c.args.width c.args.out.now _ c.requires (c.fill.ensures.after (λ y e. e))

-- Each number of the set is that of the list.
use mathlib.Core.Path.{◌∙◌}
use Rattle.mentioned.proofs.mentioned_row.Goals as goal

pub returns : goal.returns
returns c xs h e =
    let set = c.entry_set-set.ensures ∙ e in
    rw (c.count.ensures xs h set, c.lowest.ensures xs h set, c.highest.ensures xs h set)

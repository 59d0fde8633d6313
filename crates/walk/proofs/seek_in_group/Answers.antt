-- The walk over the rows of the group's selection.
use mathlib.Core.Path.{subst}
use Rattle.table.specs.Rows.{rows_of}
use Rattle.select.specs.Each.{count_at}
use Rattle.select.specs.Sought.{Passed}
use Rattle.walk.specs.Slots.{slot_count, sought_at}
use Rattle.walk.proofs.seek_in_group.Goals as goal

pub returns : goal.returns
returns c =
    let t = rows_of c.args.index.now.table.words.now in
    let from = sought_at c.args.slot in
    let r = c.seek_row.result in
    subst (λ n. Passed (slot_count t c.args.slot.event c.args.slot.group) n from r) c.size.ensures
    (subst (λ g. Passed (count_at t g.rows g.each) c.size.result from r) c.group_at-group.ensures c.seek_row.ensures)

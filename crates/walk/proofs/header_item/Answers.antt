-- Of a WFIS the target, else the group's.
use mathlib.Core.Path.{sym, ap, ◌∙◌}
use Rattle.table.specs.Rows.{rows_of}
use Rattle.select.specs.Each.{item_at}
use Rattle.walk.specs.Headers.{header_item}
use borrow.Author.Rules.{rules}
use Rattle.walk.proofs.header_item.Goals as goal

pub b_at-requires : goal.b_at-requires
unfolding header_item
b_at-requires c = search rules

pub returns-then-is_wfis : goal.returns-then-is_wfis
unfolding header_item
returns-then-is_wfis c =
    rw (sym c.is_wfis.ensures ∙ c.if-is_wfis.true) c.b_at.ensures

pub item_at-requires : goal.item_at-requires
unfolding header_item
item_at-requires c = search rules

pub returns : goal.returns
unfolding header_item
returns c =
    let t = rows_of c.args.index.now.table.words.now in
    rw (sym c.is_wfis.ensures ∙ c.if-is_wfis.false)
    (c.item_at.ensures ∙ ap (λ g. item_at t g.item c.args.slot.event c.args.slot.row) c.group_at-group.ensures)

-- A row of another tag is no event; of an event, each part of the test from its own definition.
use mathlib.Core.Path.{sym, ◌∙◌}
use borrow.Author.Tests.{eq-eqb, ne_eqb}
use Rattle.table.specs.Rows.{rows_of}
use Rattle.rules.specs.Rules.{event_offends}
use borrow.Author.Rules.{rules}
use Rattle.rule_names.proofs.event_offends.Goals as goal

pub tag_at-requires : goal.tag_at-requires
unfolding event_offends
tag_at-requires c = search rules

pub returns-then-tag_at-ne-EVENT : goal.returns-then-tag_at-ne-EVENT
unfolding event_offends
returns-then-tag_at-ne-EVENT c =
    let a = c.args in
    rw (ne_eqb ((rows_of a.scanned.now.table.words.now).tag a.i) 40 (λ e. c.if-tag_at-ne-EVENT.true (c.tag_at.ensures ∙ e)))

pub a_at-machine-requires : goal.a_at-machine-requires
unfolding event_offends
a_at-machine-requires c = search rules

pub b_at-class-requires : goal.b_at-class-requires
unfolding event_offends
b_at-class-requires c = search rules

pub out_of_order-requires : goal.out_of_order-requires
unfolding event_offends
out_of_order-requires c = search rules

pub returns : goal.returns
unfolding event_offends
returns c =
    let a = c.args in
    rw (eq-eqb ((rows_of a.scanned.now.table.words.now).tag a.i) 40 (sym c.tag_at.ensures ∙ c.if-tag_at-ne-EVENT.false))
    (simp (c.out_of_order.ensures, c.good_refined.ensures, c.b_at-class.ensures, c.a_at-machine.ensures))

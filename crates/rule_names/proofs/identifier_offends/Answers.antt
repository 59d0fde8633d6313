-- A row of another tag is no identifier; of an identifier, each part of the test from its own definition.
use mathlib.Core.Path.{sym, ◌∙◌}
use borrow.Author.Tests.{eq-eqb, ne_eqb}
use Rattle.table.specs.Rows.{rows_of}
use Rattle.rules.specs.Rules.{identifier_offends}
use borrow.Author.Rules.{rules}
use Rattle.rule_names.proofs.identifier_offends.Goals as goal

pub tag_at-requires : goal.tag_at-requires
unfolding identifier_offends
tag_at-requires c = search rules

pub returns-then-tag_at-ne-IDENTIFIER : goal.returns-then-tag_at-ne-IDENTIFIER
unfolding identifier_offends
returns-then-tag_at-ne-IDENTIFIER c =
    let a = c.args in
    rw (ne_eqb ((rows_of a.table.now.words.now).tag a.i) 10 (λ e. c.if-tag_at-ne-IDENTIFIER.true (c.tag_at.ensures ∙ e)))

pub a_at-kind-requires : goal.a_at-kind-requires
unfolding identifier_offends
a_at-kind-requires c = search rules

pub b_at-sort-requires : goal.b_at-sort-requires
unfolding identifier_offends
b_at-sort-requires c = search rules

pub returns : goal.returns
unfolding identifier_offends
returns c =
    let a = c.args in
    rw (eq-eqb ((rows_of a.table.now.words.now).tag a.i) 10 (sym c.tag_at.ensures ∙ c.if-tag_at-ne-IDENTIFIER.false))
    (simp (c.good_owner.ensures, c.b_at-sort.ensures, c.a_at-kind.ensures))

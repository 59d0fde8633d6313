-- By the tag.
use borrow.Author.Tests.{eq-eqb, ne_eqb}
use Rattle.table.specs.Rows.{rows_of}
use Rattle.rules.proofs.Sorts.{root_sort_of}
use Rattle.rule_sorts.proofs.Sorts.{root_sort_when}
use Rattle.rule_sorts.proofs.root_sort.Goals as goal

pub returns-then-tag-eq-BECOMES_EQUAL : goal.returns-then-tag-eq-BECOMES_EQUAL
returns-then-tag-eq-BECOMES_EQUAL c =
    let a = c.args in
    root_sort_when (rows_of a.table.now.words.now) a.i c.tag_at-tag.result c.identifier_field.result c.tag_at-tag.ensures
    (rw (eq-eqb _ _ c.if-tag-eq-BECOMES_EQUAL.true, root_sort_of) (simp c.b_at.ensures at c.identifier_field.ensures))

pub returns-then-tag-eq-VARIANT : goal.returns-then-tag-eq-VARIANT
returns-then-tag-eq-VARIANT c =
    let a = c.args in
    root_sort_when (rows_of a.table.now.words.now) a.i c.tag_at-tag.result 1 c.tag_at-tag.ensures (rw (ne_eqb _ _ c.if-tag-eq-BECOMES_EQUAL.false, eq-eqb _ _ c.if-tag-eq-VARIANT.true, root_sort_of))

pub returns : goal.returns
returns c =
    let a = c.args in
    root_sort_when (rows_of a.table.now.words.now) a.i c.tag_at-tag.result 3 c.tag_at-tag.ensures (rw (ne_eqb _ _ c.if-tag-eq-BECOMES_EQUAL.false, ne_eqb _ _ c.if-tag-eq-VARIANT.false, root_sort_of))

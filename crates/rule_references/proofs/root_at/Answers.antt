-- By the tag.
use Prim.Native.Nat.{ℕ}
use mathlib.Core.Path.{◌≡◌, subst}
use borrow.Author.Tests.{eq-eqb, ne_eqb}
use Rattle.table.specs.Rows.{Rows, rows_of}
use Rattle.rules.specs.Rules.{root_at}
use Rattle.rules.proofs.References.{root_of}
use Rattle.rule_references.proofs.root_at.Goals as goal

by_tag : (t : Rows) (i tag r : ℕ) → tag ≡ t.tag i → r ≡ root_of t tag i → r ≡ root_at t i
unfolding root_at
by_tag t i tag r e h = subst (λ k. r ≡ root_of t k i) e h

pub returns-then-tag : goal.returns-then-tag
returns-then-tag c =
    let a = c.args in
    by_tag (rows_of a.words.now) a.i c.tag_at-tag.result c.a_at.result c.tag_at-tag.ensures (rw (c.if-tag.true, root_of) c.a_at.ensures)

pub returns-then-tag-eq-GUARD : goal.returns-then-tag-eq-GUARD
returns-then-tag-eq-GUARD c =
    let a = c.args in
    by_tag (rows_of a.words.now) a.i c.tag_at-tag.result c.b_at.result c.tag_at-tag.ensures
    (rw (c.if-tag.false, eq-eqb _ _ c.if-tag-eq-GUARD.true, root_of) c.b_at.ensures)

pub returns-then-tag-2 : goal.returns-then-tag-2
returns-then-tag-2 c =
    let a = c.args in
    by_tag (rows_of a.words.now) a.i c.tag_at-tag.result c.c_at.result c.tag_at-tag.ensures
    (rw (c.if-tag.false, ne_eqb _ _ c.if-tag-eq-GUARD.false, c.if-tag-2.true, root_of) c.c_at.ensures)

pub returns : goal.returns
returns c =
    let a = c.args in
    by_tag (rows_of a.words.now) a.i c.tag_at-tag.result 0 c.tag_at-tag.ensures (rw (c.if-tag.false, ne_eqb _ _ c.if-tag-eq-GUARD.false, c.if-tag-2.false, root_of))

-- By the tag.
use Prim.Native.Nat.{ℕ}
use mathlib.Core.Path.{◌≡◌, subst}
use mathlib.Core.Bool.{Bool, true}
use borrow.Author.Tests.{eq-eqb, ne_eqb}
use Rattle.table.specs.Rows.{Rows, rows_of}
use Rattle.rules.specs.Rules.{good_target}
use Rattle.rules.proofs.References.{target_test}
use Rattle.rule_references.proofs.good_target.Goals as goal

by_tag : (t : Rows) (i tag : ℕ) (r : Bool) → tag ≡ t.tag i → r ≡ target_test t tag i → r ≡ good_target t i
by_tag t i tag r e h = subst (λ k. r ≡ target_test t k i) e h

pub returns-then-tag-eq-GUARD : goal.returns-then-tag-eq-GUARD
returns-then-tag-eq-GUARD c =
    let a = c.args in
    by_tag (rows_of a.table.now.words.now) a.i c.tag_at-tag.result c.guard_event.result c.tag_at-tag.ensures
    (rw (eq-eqb _ _ c.if-tag-eq-GUARD.true, target_test) (simp c.a_at-a.ensures at c.guard_event.ensures))

pub returns-then-tag : goal.returns-then-tag
returns-then-tag c =
    let a = c.args in
    by_tag (rows_of a.table.now.words.now) a.i c.tag_at-tag.result c.action_target.result c.tag_at-tag.ensures
    (rw (ne_eqb _ _ c.if-tag-eq-GUARD.false, c.if-tag.true, target_test) (simp (
      c.a_at-a.ensures,
      c.b_at-b.ensures,
    ) at c.action_target.ensures))

pub returns-then-tag-eq-WITNESS : goal.returns-then-tag-eq-WITNESS
returns-then-tag-eq-WITNESS c =
    let a = c.args in
    by_tag (rows_of a.table.now.words.now) a.i c.tag_at-tag.result c.witness_target.result c.tag_at-tag.ensures
    (rw (
      ne_eqb _ _ c.if-tag-eq-GUARD.false,
      c.if-tag.false,
      eq-eqb _ _ c.if-tag-eq-WITNESS.true,
      target_test,
    ) (simp (c.a_at-a.ensures, c.b_at-b.ensures) at c.witness_target.ensures))

pub returns : goal.returns
returns c =
    let a = c.args in
    by_tag (rows_of a.table.now.words.now) a.i c.tag_at-tag.result true c.tag_at-tag.ensures
    (rw (ne_eqb _ _ c.if-tag-eq-GUARD.false, c.if-tag.false, ne_eqb _ _ c.if-tag-eq-WITNESS.false, target_test))

-- By the tag.
use borrow.Author.Tests.{eq-eqb, ne_eqb}
use mathlib.Core.Bool.{false, ◌&&◌, ◌||◌}
use lib.Dec.{eqb}
use Rattle.table.specs.Rows.{rows_of}
use Rattle.rules.proofs.Sight.{seen_after}
use Rattle.rule_sight.proofs.Walk.{after_when}
use Rattle.rule_sight.proofs.may_mention_after.Goals as goal

pub returns-then-tag-eq-BECOMES_SUCH : goal.returns-then-tag-eq-BECOMES_SUCH
returns-then-tag-eq-BECOMES_SUCH c =
    let b = c.b_at-b in
    after_when (rows_of c.args.table.now.words.now) c.args.i c.args.x c.tag_at-tag.result (eqb c.args.x b.result) c.tag_at-tag.ensures
    (rw (eq-eqb _ _ c.if-tag-eq-BECOMES_SUCH.true, seen_after) (simp b.ensures))

pub returns-then-tag-eq-WITNESS : goal.returns-then-tag-eq-WITNESS
returns-then-tag-eq-WITNESS c =
    let concrete = c.is_variable_of-concrete_variable in
    let target = c.identifier_field-target in
    let kind = c.identifier_field-kind in
    let b = c.b_at-b in
    after_when (rows_of c.args.table.now.words.now) c.args.i c.args.x c.tag_at-tag.result
    (eqb target.result 2 && (concrete.result || eqb c.args.x b.result)) c.tag_at-tag.ensures
    (rw (ne_eqb _ _ c.if-tag-eq-BECOMES_SUCH.false, eq-eqb _ _ c.if-tag-eq-WITNESS.true, seen_after) (simp (concrete.ensures, target.ensures, kind.ensures, b.ensures)))

pub returns : goal.returns
returns c =
    after_when (rows_of c.args.table.now.words.now) c.args.i c.args.x c.tag_at-tag.result false c.tag_at-tag.ensures
    (rw (ne_eqb _ _ c.if-tag-eq-BECOMES_SUCH.false, ne_eqb _ _ c.if-tag-eq-WITNESS.false, seen_after))

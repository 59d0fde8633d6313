-- By the tag.
use borrow.Author.Tests.{eq-eqb, ne_eqb}
use mathlib.Core.Bool.{◌&&◌, ◌||◌}
use lib.Dec.{eqb}
use Rattle.table.specs.Rows.{rows_of}
use Rattle.rules.proofs.Sight.{seen}
use Rattle.rule_sight.proofs.Walk.{mention_when}
use Rattle.rule_sight.proofs.may_mention.Goals as goal

pub returns-then-tag-eq-AXIOM : goal.returns-then-tag-eq-AXIOM
returns-then-tag-eq-AXIOM c =
    mention_when (rows_of c.args.table.now.words.now) c.args.i c.args.x c.tag_at-tag.result (eqb c.identifier_field-kind.result 1) c.tag_at-tag.ensures
    (rw (eq-eqb _ _ c.if-tag-eq-AXIOM.true, seen) (simp c.identifier_field-kind.ensures))

pub returns-then-tag-eq-ABSTRACT_INVARIANT : goal.returns-then-tag-eq-ABSTRACT_INVARIANT
returns-then-tag-eq-ABSTRACT_INVARIANT c =
    mention_when (rows_of c.args.table.now.words.now) c.args.i c.args.x c.tag_at-tag.result (eqb c.identifier_field-kind.result 1 || c.is_variable_of-abstract_variable.result) c.tag_at-tag.ensures
    (rw (ne_eqb _ _ c.if-tag-eq-AXIOM.false, eq-eqb _ _ c.if-tag-eq-ABSTRACT_INVARIANT.true, seen) (simp (c.is_variable_of-abstract_variable.ensures, c.identifier_field-kind.ensures)))

pub returns-then-tag-eq-CONCRETE_INVARIANT : goal.returns-then-tag-eq-CONCRETE_INVARIANT
returns-then-tag-eq-CONCRETE_INVARIANT c =
    mention_when (rows_of c.args.table.now.words.now) c.args.i c.args.x c.tag_at-tag.result (eqb c.identifier_field-kind.result 1 || (eqb c.identifier_field-kind.result 2 || c.is_variable_of-concrete_variable.result)) c.tag_at-tag.ensures
    (rw (ne_eqb _ _ c.if-tag-eq-AXIOM.false, ne_eqb _ _ c.if-tag-eq-ABSTRACT_INVARIANT.false, eq-eqb _ _ c.if-tag-eq-CONCRETE_INVARIANT.true, seen) (simp (c.is_variable_of-concrete_variable.ensures, c.identifier_field-kind.ensures)))

pub returns-then-tag-eq-VARIANT : goal.returns-then-tag-eq-VARIANT
returns-then-tag-eq-VARIANT c =
    mention_when (rows_of c.args.table.now.words.now) c.args.i c.args.x c.tag_at-tag.result (eqb c.identifier_field-kind.result 1 || c.is_variable_of-concrete_variable.result) c.tag_at-tag.ensures
    (rw (ne_eqb _ _ c.if-tag-eq-AXIOM.false, ne_eqb _ _ c.if-tag-eq-ABSTRACT_INVARIANT.false, ne_eqb _ _ c.if-tag-eq-CONCRETE_INVARIANT.false, eq-eqb _ _ c.if-tag-eq-VARIANT.true, seen) (simp (c.is_variable_of-concrete_variable.ensures, c.identifier_field-kind.ensures)))

pub returns-then-tag-eq-WITNESS : goal.returns-then-tag-eq-WITNESS
returns-then-tag-eq-WITNESS c =
    mention_when (rows_of c.args.table.now.words.now) c.args.i c.args.x c.tag_at-tag.result (c.event_sees-event.result || (eqb c.identifier_field-kind.result 4 && eqb c.args.x c.b_at-b.result)) c.tag_at-tag.ensures
    (rw (ne_eqb _ _ c.if-tag-eq-AXIOM.false, ne_eqb _ _ c.if-tag-eq-ABSTRACT_INVARIANT.false, ne_eqb _ _ c.if-tag-eq-CONCRETE_INVARIANT.false, ne_eqb _ _ c.if-tag-eq-VARIANT.false, eq-eqb _ _ c.if-tag-eq-WITNESS.true, seen) (simp (c.event_sees-event.ensures, c.a_at.ensures, c.b_at-b.ensures, c.identifier_field-kind.ensures)))

pub returns : goal.returns
returns c =
    mention_when (rows_of c.args.table.now.words.now) c.args.i c.args.x c.tag_at-tag.result c.event_sees-event.result c.tag_at-tag.ensures
    (rw (ne_eqb _ _ c.if-tag-eq-AXIOM.false, ne_eqb _ _ c.if-tag-eq-ABSTRACT_INVARIANT.false, ne_eqb _ _ c.if-tag-eq-CONCRETE_INVARIANT.false, ne_eqb _ _ c.if-tag-eq-VARIANT.false, ne_eqb _ _ c.if-tag-eq-WITNESS.false, seen) (simp (c.event_sees-event.ensures, c.a_at.ensures)))

-- By the tag (Spans).
use mathlib.Core.Path.{ap, sym, subst, ◌∙◌}
use native.Mathlib.Omega.{arith}
use Prim.Native.Nat.{◌+◌}
use lib.ListN.{length}
use Rattle.table.specs.Names.{becomes_equal_tag, becomes_such_tag}
use Rattle.table.specs.Rows.{rows_of}
use Rattle.scan.specs.Spans.{SpannedTo, ActionsTo, noted}
use Rattle.scan.proofs.Spans.{noted_size, row_passed, row_noted, action_noted_lem}
use Rattle.scan.proofs.Actions.{actions_kept}
use Rattle.scan.proofs.note_row.Goals as goal

pub returns-then-tag-gt-VARIANT : goal.returns-then-tag-gt-VARIANT
returns-then-tag-gt-VARIANT c =
    (row_passed (rows_of c.args.words.now) c.args.i c.args.spans.now c.requires.0 (omega (arith, c.tag_at-tag.ensures, c.if-tag-gt-VARIANT.true)), c.requires.1)

pub note-requires : goal.note-requires
note-requires c = (c.requires.0.size, c.if-tag-gt-VARIANT.false, c.requires.2)

pub note-requires-then-tag-eq-BECOMES_SUCH : goal.note-requires-then-tag-eq-BECOMES_SUCH
note-requires-then-tag-eq-BECOMES_SUCH c =
    (ap length c.note.ensures ∙ noted_size c.args.spans.now c.tag_at-tag.result c.args.i c.requires.0.size c.if-tag-gt-VARIANT.false, omega arith, c.requires.2)

pub returns-then-tag-eq-BECOMES_SUCH : goal.returns-then-tag-eq-BECOMES_SUCH
returns-then-tag-eq-BECOMES_SUCH c =
    let t = rows_of c.args.words.now in
    let i = c.args.i in
    let such = c.if-tag-eq-BECOMES_SUCH.true in
    let one = c.note.ensures ∙ ap (λ k. noted c.args.spans.now k i) such in
    subst (λ l. SpannedTo t (i + 1) l × ActionsTo t 0 l) (sym (c.note-then-tag-eq-BECOMES_SUCH.ensures ∙ ap (λ l. noted l becomes_equal_tag i) one)) (
      action_noted_lem t i c.args.spans.now c.requires.0 (sym c.tag_at-tag.ensures ∙ such),
      actions_kept t 0 (noted c.args.spans.now becomes_such_tag i) becomes_equal_tag i (omega arith) (actions_kept t 0 c.args.spans.now becomes_such_tag i (omega arith) c.requires.1),
    )

pub returns-else-tag-eq-BECOMES_SUCH : goal.returns-else-tag-eq-BECOMES_SUCH
returns-else-tag-eq-BECOMES_SUCH c =
    let t = rows_of c.args.words.now in
    let i = c.args.i in
    subst (λ l. SpannedTo t (i + 1) l × ActionsTo t 0 l) (sym c.note.ensures) (
      row_noted t i c.args.spans.now c.requires.0 c.tag_at-tag.result c.tag_at-tag.ensures c.if-tag-gt-VARIANT.false c.if-tag-eq-BECOMES_SUCH.false,
      actions_kept t 0 c.args.spans.now c.tag_at-tag.result i c.if-tag-gt-VARIANT.false c.requires.1,
    )

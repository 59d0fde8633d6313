-- By the action's row: none, a 51 or a 52 (Actions).
use Prim.Native.Nat.{◌<◌}
use mathlib.Core.Path.{sym, ap, ap₂, ◌∙◌}
use native.Mathlib.Omega.{arith}
use lib.Bits.{bit_or}
use Rattle.table.specs.Rows.{rows_of}
use Rattle.notes.specs.Notes.{note_of}
use Rattle.nodes.specs.Notes.{noted_tree}
use Rattle.select.specs.Selection.{action_row}
use Rattle.mentioned.proofs.Actions.{set_unassigned, set_equal, set_such}
use Rattle.mentioned.proofs.action_set.Goals as goal

pub returns-then-size-row : goal.returns-then-size-row
unfolding action_row
returns-then-size-row c =
    let found = c.action_row-row in
    let a = c.args in
    let t = rows_of a.rows.now.words.now in
    c.single.ensures ∙ set_unassigned t a.event a.x found.result found.ensures (omega (arith, c.size.ensures, c.if-size-row.true))

pub returns-then-tag_at-eq-BECOMES_EQUAL : goal.returns-then-tag_at-eq-BECOMES_EQUAL
unfolding action_row
returns-then-tag_at-eq-BECOMES_EQUAL c =
    let found = c.action_row-row in
    let a = c.args in
    let t = rows_of a.rows.now.words.now in
    let inside : found.result < t.size = omega (arith, c.size.ensures, c.if-size-row.false) in
    let root = ap (λ n. n.mentioned) (c.note_at-note.ensures ∙ ap (λ r. note_of (noted_tree t r)) c.c_at.ensures) in
    ap₂ bit_or c.single-then-tag_at-eq-BECOMES_EQUAL.ensures root
    ∙ set_equal t a.event a.x found.result found.ensures inside (sym c.tag_at.ensures ∙ c.if-tag_at-eq-BECOMES_EQUAL.true)

pub returns : goal.returns
unfolding action_row
returns c =
    let found = c.action_row-row in
    let a = c.args in
    let t = rows_of a.rows.now.words.now in
    let inside : found.result < t.size = omega (arith, c.size.ensures, c.if-size-row.false) in
    ap (λ n. n.mentioned) (c.note_at-note.ensures ∙ ap (λ r. note_of (noted_tree t r)) c.c_at.ensures)
    ∙ set_such t a.event a.x found.result found.ensures inside (λ p. c.if-tag_at-eq-BECOMES_EQUAL.false (c.tag_at.ensures ∙ p))

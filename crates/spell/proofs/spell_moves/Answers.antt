-- By whether a row sets the variable, and its tag.
use mathlib.Core.Path.{sym, ◌∙◌}
use native.Mathlib.Omega.{arith}
use Rattle.table.specs.Rows.{rows_of}
use Rattle.spell.proofs.Moves.{moves_unassigned, moves_equal, moves_such}
use Rattle.spell.proofs.Written.{spelled_as}
use Rattle.spell.proofs.spell_moves.Goals as goal

pub returns-then-size-i : goal.returns-then-size-i
returns-then-size-i c =
    let i = c.find_row-i in
    let a = c.args in
    spelled_as (moves_unassigned (rows_of a.table.now.words.now) a.e a.x i.result i.ensures (omega (arith, c.size.ensures, c.if-size-i.true))) c.spell_unchanged.ensures

pub returns-then-tag_at-eq-BECOMES_EQUAL : goal.returns-then-tag_at-eq-BECOMES_EQUAL
returns-then-tag_at-eq-BECOMES_EQUAL c =
    let i = c.find_row-i in
    let r = c.c_at-root in
    let a = c.args in
    spelled_as (moves_equal (rows_of a.table.now.words.now) a.e a.x i.result i.ensures r.result r.ensures (omega (arith, c.size.ensures, c.if-size-i.false)) (sym c.tag_at.ensures ∙ c.if-tag_at-eq-BECOMES_EQUAL.true)) c.spell_comparison.ensures

pub returns : goal.returns
returns c =
    let i = c.find_row-i in
    let r = c.c_at-root in
    let a = c.args in
    spelled_as (moves_such (rows_of a.table.now.words.now) a.e a.x i.result i.ensures r.result r.ensures (omega (arith, c.size.ensures, c.if-size-i.false)) (λ q. c.if-tag_at-eq-BECOMES_EQUAL.false (c.tag_at.ensures ∙ q))) c.spell_expression.ensures

-- By the number of operands.
use mathlib.Core.Path.{ap, sym, ◌∙◌}
use Rattle.table.specs.Rows.{rows_of}
use Rattle.rules.specs.Sorts.{shape_of, operand_count}
use Rattle.operators.proofs.Found.{shape_found, operands_found}
use Rattle.rule_sorts.proofs.Sorts.{operands_none, operands_one, operands_two}
use Rattle.rule_sorts.proofs.good_operands.Goals as goal

pub returns-then-count-eq0 : goal.returns-then-count-eq0
returns-then-count-eq0 c =
    let a = c.args in
    let t = rows_of a.table.now.words.now in
    let count = c.operand_count-count.ensures ∙ ap operand_count (shape_found c.find_operator-found.result c.a_at.result c.find_operator-found.ensures ∙ ap shape_of c.a_at.ensures) in
    operands_none t (operand_count (shape_of (t.a a.i))) a.i (sym count ∙ c.if-count-eq0.true)

pub returns-then-count-eq1 : goal.returns-then-count-eq1
returns-then-count-eq1 c =
    let a = c.args in
    let t = rows_of a.table.now.words.now in
    let count = c.operand_count-count.ensures ∙ ap operand_count (shape_found c.find_operator-found.result c.a_at.result c.find_operator-found.ensures ∙ ap shape_of c.a_at.ensures) in
    simp (c.fits.ensures, c.sort_of-left.ensures, c.b_at.ensures, operands_found c.find_operator-found.result c.a_at.result c.find_operator-found.ensures, c.a_at.ensures)
    (operands_one t (operand_count (shape_of (t.a a.i))) a.i (sym count ∙ c.if-count-eq1.true))

pub returns : goal.returns
returns c =
    let a = c.args in
    let t = rows_of a.table.now.words.now in
    let count = c.operand_count-count.ensures ∙ ap operand_count (shape_found c.find_operator-found.result c.a_at.result c.find_operator-found.ensures ∙ ap shape_of c.a_at.ensures) in
    simp (
      c.fits-3.ensures,
      c.fits-2.ensures,
      c.sort_of-right.ensures,
      c.c_at.ensures,
      c.sort_of-left.ensures,
      c.b_at.ensures,
      operands_found c.find_operator-found.result c.a_at.result c.find_operator-found.ensures,
      c.a_at.ensures,
    )
    (operands_two t a.i (λ e. c.if-count-eq0.false (count ∙ e)) (λ e. c.if-count-eq1.false (count ∙ e)))

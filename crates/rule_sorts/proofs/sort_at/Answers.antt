-- By whether the row is a node's.
use mathlib.Core.Path.{ap, sym, ◌∙◌}
use borrow.Author.Tests.{eq-eqb, ne_eqb}
use Rattle.table.specs.Rows.{rows_of}
use Rattle.machine.specs.Operator.{result_sort}
use Rattle.operators.proofs.Found.{sort_found}
use Rattle.rule_sorts.proofs.sort_at.Goals as goal

pub returns-then-tag_at-eq-NODE : goal.returns-then-tag_at-eq-NODE
returns-then-tag_at-eq-NODE c =
    let a = c.args in
    let t = rows_of a.table.now.words.now in
    rw (eq-eqb (t.tag a.i) 20 (sym c.tag_at.ensures ∙ c.if-tag_at-eq-NODE.true))
    (sort_found c.find_operator-found.result c.a_at.result c.find_operator-found.ensures ∙ ap result_sort c.a_at.ensures)

pub returns : goal.returns
returns c =
    let a = c.args in
    let t = rows_of a.table.now.words.now in
    rw (ne_eqb (t.tag a.i) 20 (λ e. c.if-tag_at-eq-NODE.false (c.tag_at.ensures ∙ e))) c.root_sort.ensures

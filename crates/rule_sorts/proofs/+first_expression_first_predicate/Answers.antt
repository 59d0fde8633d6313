-- No row is left, or one is judged and those before it are (Walk).
use Prim.Native.Nat.{◌-◌}
use mathlib.Core.Path.{ap, ◌∙◌}
use Rattle.lists.specs.Choice.{pick}
use Rattle.table.specs.Rows.{rows_of}
use Rattle.rules.specs.Rules.{sort_offends}
use Rattle.rule_sorts.specs.Walk.{first_before}
use Rattle.rule_sorts.proofs.Walk.{before_none, before_row}
use Rattle.rule_sorts.proofs.+first_expression_first_predicate.Goals as goal

pub first_expression-returns-then-i-eq0 : goal.first_expression-returns-then-i-eq0
first_expression-returns-then-i-eq0 t c =
    let a = c.args in before_none (sort_offends (rows_of a.table.now.words.now)) a.found a.i c.if-i-eq0.true

pub first_expression-returns : goal.first_expression-returns
first_expression-returns t c =
    let a = c.args in
    let P = sort_offends (rows_of a.table.now.words.now) in
    before_row P a.i a.found c.first_expression.result c.if-i-eq0.false
    (c.first_expression.ensures ∙ ap (first_before P (a.i - 1)) (c.fault_or.ensures ∙ ap (λ b. pick b (a.i - 1) a.found) c.sort_offends.ensures))

pub first_predicate-returns-then-i-eq0 : goal.first_predicate-returns-then-i-eq0
first_predicate-returns-then-i-eq0 t c =
    let a = c.args in before_none (sort_offends (rows_of a.table.now.words.now)) a.found a.i c.if-i-eq0.true

pub first_predicate-returns : goal.first_predicate-returns
first_predicate-returns t c =
    let a = c.args in
    let P = sort_offends (rows_of a.table.now.words.now) in
    before_row P a.i a.found c.first_expression.result c.if-i-eq0.false
    (c.first_expression.ensures ∙ ap (first_before P (a.i - 1)) (c.fault_or.ensures ∙ ap (λ b. pick b (a.i - 1) a.found) c.sort_offends.ensures))

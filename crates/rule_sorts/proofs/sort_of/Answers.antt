-- By whether the operator names an identifier.
use mathlib.Core.Path.{ap, ◌∙◌}
use Rattle.table.specs.Rows.{rows_of}
use Rattle.machine.specs.Operator.{result_sort}
use Rattle.rules.specs.Sorts.{shape_of, names_identifier}
use Rattle.operators.proofs.Found.{shape_found, sort_found}
use Rattle.rule_sorts.proofs.Sorts.{sort_when}
use Rattle.rule_sorts.proofs.sort_of.Goals as goal

pub returns-then-names_identifier : goal.returns-then-names_identifier
returns-then-names_identifier c =
    let o = c.find_operator-found in
    let a = c.args in
    sort_when (rows_of a.table.now.words.now) a.n c.identifier_field.result c.names_identifier.result
    (c.names_identifier.ensures ∙ ap names_identifier (shape_found o.result c.node_field.result o.ensures ∙ ap shape_of c.node_field.ensures))
    (rw c.if-names_identifier.true (simp c.node_field-identifier.ensures at c.identifier_field.ensures))

pub returns : goal.returns
returns c =
    let o = c.find_operator-found in
    let a = c.args in
    sort_when (rows_of a.table.now.words.now) a.n o.result.sort c.names_identifier.result
    (c.names_identifier.ensures ∙ ap names_identifier (shape_found o.result c.node_field.result o.ensures ∙ ap shape_of c.node_field.ensures))
    (rw c.if-names_identifier.false (sort_found o.result c.node_field.result o.ensures ∙ ap result_sort c.node_field.ensures))

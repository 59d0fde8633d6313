-- Each part that was read is the table's.
use mathlib.Core.Path.{◌∙◌}
use Rattle.table.specs.Rows.{rows_of}
use Rattle.operators.proofs.Found.{shape_found}
use Rattle.spell.proofs.Nodes.{node_none, node_from_lem}
use Rattle.spell.proofs.node_at.Goals as goal

pub returns-then-n-eq0 : goal.returns-then-n-eq0
returns-then-n-eq0 c =
    let a = c.args in
    c.leaf.ensures ∙ node_none (rows_of a.table.now.words.now) a.primed a.n c.if-n-eq0.true

pub returns : goal.returns
returns c =
    c.shaped_node.ensures
    ∙ (simp (shape_found c.find_operator-found.result c.node_field-operator.result c.find_operator-found.ensures, c.operand-right.ensures, c.operand-left.ensures, c.is_variable-variable.ensures, c.node_field-c.ensures, c.node_field-b.ensures, c.node_field-operator.ensures))
    ∙ node_from_lem (rows_of c.args.table.now.words.now) c.args.primed c.args.n c.if-n-eq0.false

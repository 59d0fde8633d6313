-- Each part that was read is the table's, and the operands were noted before.
use mathlib.Core.Path.{ap, ◌∙◌}
use native.Mathlib.Omega.{arith}
use Rattle.table.specs.Rows.{rows_of}
use Rattle.table.specs.Lookups.{operand_node}
use Rattle.machine.specs.Operator.{operator_numbered}
use Rattle.machine.proofs.Described.{operand_falls}
use Rattle.operators.proofs.Found.{shape_found}
use Rattle.rules.specs.Sorts.{shape_of}
use Rattle.conditions.specs.Condition.{condition_of}
use Rattle.nodes.proofs.Stored.{note_made}
use Rattle.nodes.proofs.make_note.Goals as goal

pub load-left-requires : goal.load-left-requires
load-left-requires c = (
  c.requires.2.spanned.tags.size,
  omega (arith, c.operand.ensures, operand_falls c.args.n c.node_field-b.result c.requires.0),
)

pub load-right-requires : goal.load-right-requires
load-right-requires c = (
  c.requires.2.spanned.tags.size,
  omega (arith, c.operand-2.ensures, operand_falls c.args.n c.node_field-c.result c.requires.0),
)

pub returns : goal.returns
returns c =
    let t = rows_of c.args.table.now.words.now in
    let n = c.args.n in
    c.shaped_note.ensures
    ∙ note_made t c.args.spans.now n t.size c.requires.0 c.requires.1 c.requires.2
    (shape_found c.find_operator-found.result c.node_field-operator.result c.find_operator-found.ensures ∙ ap shape_of c.node_field-operator.ensures)
    (c.find_condition-condition.ensures ∙ ap (λ o. condition_of (operator_numbered o)) c.node_field-operator.ensures)
    c.node_field-b.ensures
    c.load-left.ensures
    (c.operand.ensures ∙ ap (operand_node n) c.node_field-b.ensures)
    c.load-right.ensures
    (c.operand-2.ensures ∙ ap (operand_node n) c.node_field-c.ensures)

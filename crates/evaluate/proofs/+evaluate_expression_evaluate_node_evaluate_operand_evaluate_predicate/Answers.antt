-- A leaf's answer is its own; the operands of an operator fall, a fault of one that is read is the node's, and what their values combine to is, whether the right one was read or not.
use mathlib.Core.Path.{sym, ap, ◌∙◌}
use native.Mathlib.Omega.{arith}
use Rattle.table.specs.Rows.{rows_of}
use Rattle.machine.specs.Operator.{operator_numbered}
use Rattle.machine.specs.Described.{machine_of}
use Rattle.answer.specs.Stored.{stored_env}
use Rattle.std.specs.Prelude.{Ok}
use Rattle.signed.specs.Found.{Found, found_of, answer_of}
use Rattle.signed.specs.declared.Value.{Value}
use Rattle.evaluate.specs.Evaluate.{combined}
use Rattle.evaluate.proofs.Nodes.{operand_below, leaf_is, left_is_faulty, right_is_faulty, both_read, left_read}
use Rattle.evaluate.proofs.+evaluate_expression_evaluate_node_evaluate_operand_evaluate_predicate.Goals as goal
use Rattle.evaluate.proofs.+evaluate_expression_evaluate_node_evaluate_operand_evaluate_predicate.Goals.{
  evaluate_node-then-reads_right+in_ok-right,
  evaluate_node-else-reads_right,
}

pub evaluate_node-returns-then-is_leaf : goal.evaluate_node-returns-then-is_leaf
evaluate_node-returns-then-is_leaf t c =
    let a = c.args in
    let rows = rows_of a.env.now.words.now in
    let ρ = stored_env (machine_of rows).type a.env.now.present.now a.env.now.after.now in
    c.leaf.ensures
    ∙ leaf_is rows a.n c.operator_at-operator.result c.node_field-b.result c.operator_at-operator.ensures c.node_field-b.ensures ρ (sym c.is_leaf.ensures ∙ c.if-is_leaf.true)

pub evaluate_node-evaluate_operand-requires : goal.evaluate_node-evaluate_operand-requires
evaluate_node-evaluate_operand-requires t c =
    let a = c.args in
    let b = c.node_field-b.result in
    let below =
    operand_below (rows_of a.env.now.words.now) a.n c.operator_at-operator.result b c.operator_at-operator.ensures c.node_field-b.ensures
    c.operand-x.result b c.operand-x.ensures (sym c.is_leaf.ensures ∙ c.if-is_leaf.false) in
    omega (arith, below, c.decreases)

pub evaluate_node-evaluate_operand-requires-then-reads_right : goal.evaluate_node-evaluate_operand-requires-then-reads_right
evaluate_node-evaluate_operand-requires-then-reads_right t c =
    let a = c.args in
    let b = c.node_field-b.result in
    let below =
    operand_below (rows_of a.env.now.words.now) a.n c.operator_at-operator.result b c.operator_at-operator.ensures c.node_field-b.ensures
    c.operand-y.result c.node_field-c.result c.operand-y.ensures (sym c.is_leaf.ensures ∙ c.if-is_leaf.false) in
    omega (arith, below, c.decreases)

pub evaluate_node-returns-in_err-left : goal.evaluate_node-returns-in_err-left
evaluate_node-returns-in_err-left t c =
    let a = c.args in
    let rows = rows_of a.env.now.words.now in
    let ρ = stored_env (machine_of rows).type a.env.now.present.now a.env.now.after.now in
    let inner = sym c.is_leaf.ensures ∙ c.if-is_leaf.false in
    left_is_faulty rows a.n c.operator_at-operator.result c.node_field-b.result c.operator_at-operator.ensures c.node_field-b.ensures ρ inner
    c.operand-x.result c.operand-x.ensures c.evaluate_operand.result c.evaluate_operand.ensures c.in_err-left.was c.from_residual.ensures.1

pub evaluate_node-returns-in_err-right : goal.evaluate_node-returns-in_err-right
evaluate_node-returns-in_err-right t c =
    let a = c.args in
    let rows = rows_of a.env.now.words.now in
    let ρ = stored_env (machine_of rows).type a.env.now.present.now a.env.now.after.now in
    let inner = sym c.is_leaf.ensures ∙ c.if-is_leaf.false in
    right_is_faulty rows a.n c.operator_at-operator.result c.node_field-b.result c.operator_at-operator.ensures c.node_field-b.ensures ρ inner
    c.operand-x.result c.operand-x.ensures c.evaluate_operand.result c.evaluate_operand.ensures
    c.in_ok-left.left c.in_ok-left.was (sym c.reads_right.ensures ∙ c.if-reads_right.true)
    c.node_field-c.result c.operand-y.result c.node_field-c.ensures c.operand-y.ensures
    c.evaluate_operand-then-reads_right.result c.evaluate_operand-then-reads_right.ensures c.in_err-right.was c.from_residual-in_err-right.ensures.1

pub evaluate_node-returns : goal.evaluate_node-returns
evaluate_node-returns t c =
    let a = c.args in
    let rows = rows_of a.env.now.words.now in
    let ρ = stored_env (machine_of rows).type a.env.now.present.now a.env.now.after.now in
    let operator = c.operator_at-operator.result in
    let left = c.in_ok-left.left in
    let found = sym c.in_ok-left.was ∙ c.evaluate_operand.ensures in
    let inner = sym c.is_leaf.ensures ∙ c.if-is_leaf.false in
    let given : Value → Found = λ r. found_of (combined (operator_numbered operator) (answer_of (Ok left)) (answer_of (Ok r))) in
    c.combine.ensures ∙ elim c.if-reads_right.branch [
      | evaluate_node-then-reads_right+in_ok-right w ↦
          ap given w.right-is
          ∙ both_read rows a.n operator c.node_field-b.result c.operator_at-operator.ensures c.node_field-b.ensures ρ inner
          c.operand-x.result c.operand-x.ensures (Ok left) found
          w.node_field-c.result w.operand-y.result w.node_field-c.ensures w.operand-y.ensures (Ok w.in_ok-right.right) (sym w.in_ok-right.was ∙ w.evaluate_operand-then-reads_right.ensures)
      | evaluate_node-else-reads_right w ↦
          ap given w.right-is
          ∙ left_read rows a.n operator c.node_field-b.result c.operator_at-operator.ensures c.node_field-b.ensures ρ inner
          c.operand-x.result c.operand-x.ensures (Ok left) found (sym c.reads_right.ensures ∙ w.if-reads_right.false)
    ]

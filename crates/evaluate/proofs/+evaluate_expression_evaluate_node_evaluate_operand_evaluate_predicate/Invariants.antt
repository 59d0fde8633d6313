-- A node's answer is a leaf's, or comes from its operands', which have smaller numbers. The measure is three times the node's number, two more for an operand, one more for
-- an expression or a predicate.
use Prim.Native.Nat.{◌+◌, ◌*◌}
use Rattle.evaluate.proofs.+evaluate_expression_evaluate_node_evaluate_operand_evaluate_predicate.Given as goal

abbrev pub decreases-evaluate_expression : goal.decreases-evaluate_expression
decreases-evaluate_expression l = 3 * l.n + 1

abbrev pub decreases-evaluate_node : goal.decreases-evaluate_node
decreases-evaluate_node l = 3 * l.n

abbrev pub decreases-evaluate_operand : goal.decreases-evaluate_operand
decreases-evaluate_operand l = 3 * l.n + 2

abbrev pub decreases-evaluate_predicate : goal.decreases-evaluate_predicate
decreases-evaluate_predicate l = 3 * l.n + 1

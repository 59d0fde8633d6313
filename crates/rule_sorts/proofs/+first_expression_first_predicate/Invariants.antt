-- Each call judges one row and goes on to those before it (Walk). The measure is twice the number of rows left, and one more where the row may still be handed on.
use Prim.Native.Nat.{◌+◌, ◌*◌}
use Rattle.rule_sorts.proofs.+first_expression_first_predicate.Given as goal

abbrev pub decreases-first_expression : goal.decreases-first_expression
decreases-first_expression l = 2 * l.i + 1

abbrev pub decreases-first_predicate : goal.decreases-first_predicate
decreases-first_predicate l = 2 * l.i

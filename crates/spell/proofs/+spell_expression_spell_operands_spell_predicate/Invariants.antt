-- A node's rows are its own, then those of its operands, which have smaller numbers; a predicate is handed on. The measure is three times the node's number and
-- two more for an expression, one more for a predicate; of operands it is three times what their numbers are below, at most their node's.
use Prim.Native.Nat.{◌+◌, ◌*◌}
use Rattle.spell.proofs.Nodes.{above}
use Rattle.spell.proofs.+spell_expression_spell_operands_spell_predicate.Given as goal

abbrev pub decreases-spell_expression : goal.decreases-spell_expression
decreases-spell_expression l = 3 * l.n + 2

abbrev pub decreases-spell_operands : goal.decreases-spell_operands
decreases-spell_operands l = 3 * above l.node

abbrev pub decreases-spell_predicate : goal.decreases-spell_predicate
decreases-spell_predicate l = 3 * l.n + 1

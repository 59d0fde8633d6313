-- An operand that is walked has a smaller number than its node: the measure is the node's number.
use Rattle.rule_sight.proofs.+sees_only.Given as goal

abbrev pub decreases-sees_only : goal.decreases-sees_only
decreases-sees_only l = l.n

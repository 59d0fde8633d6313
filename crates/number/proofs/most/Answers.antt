-- By the sign's case.
use Rattle.number.proofs.most.Goals as goal

pub returns-then-negative : goal.returns-then-negative
returns-then-negative c = simp c.if-negative.true

-- By the test of zero and the sign.
use borrow.Author.Tests.{eq-eqb, ne_eqb}
use Rattle.number.proofs.word.Goals as goal

pub returns-then-magnitude-eq0 : goal.returns-then-magnitude-eq0
returns-then-magnitude-eq0 c = simp (eq-eqb _ _ c.if-magnitude-eq0.true)

pub returns-then-negative : goal.returns-then-negative
returns-then-negative c =
    simp (ne_eqb _ _ c.if-magnitude-eq0.false, c.if-negative.true) c.negated.ensures

pub returns-else-negative : goal.returns-else-negative
returns-else-negative c =
    simp (ne_eqb _ _ c.if-magnitude-eq0.false, c.if-negative.false)

-- Each variant's test is the definition's, at the numbers that the variant holds.
use Rattle.scan.proofs.passes.Goals as goal

pub returns-in-SameTarget : goal.returns-in-SameTarget
returns-in-SameTarget c = simp c.in-SameTarget.is

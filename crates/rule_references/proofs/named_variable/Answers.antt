-- By the identifier that is looked up.
use Rattle.rule_references.proofs.named_variable.Goals as goal

pub returns : goal.returns
returns c = simp (c.is_variable.ensures, c.named_identifier.ensures)

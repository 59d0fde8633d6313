-- By the row's tag.
use Rattle.rule_references.proofs.names_root.Goals as goal

pub returns : goal.returns
returns c = simp c.tag_at-tag.ensures

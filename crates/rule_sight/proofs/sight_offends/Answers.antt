-- By the root that the row names.
use Rattle.rules.specs.Rules.{sight_offends}
use Rattle.rule_sight.proofs.sight_offends.Goals as goal

pub returns : goal.returns
unfolding sight_offends
returns c =
    simp (c.sees_only-sees.ensures, c.root_at.ensures, c.names_root-names.ensures)

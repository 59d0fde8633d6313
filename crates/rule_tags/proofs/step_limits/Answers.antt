-- Each of the three tags is looked up in the table of tags.
use mathlib.Core.Path.{refl}
use native.Mathlib.Omega.{arith}
use Rattle.rules.specs.Tags.{columns_used, row_limit}
use Rattle.rule_tags.proofs.TagLimits.{limits_range}
use Rattle.rule_tags.proofs.step_limits.Goals as goal

pub returns-then-tag-eq-GUARD : goal.returns-then-tag-eq-GUARD
unfolding columns_used row_limit
returns-then-tag-eq-GUARD c =
    limits_range 2 64 50 1 refl refl c.args.tag (omega arith) (omega arith)

pub returns : goal.returns
unfolding columns_used row_limit
returns c =
    limits_range 3 128 51 2 refl refl c.args.tag (omega arith) (omega arith)

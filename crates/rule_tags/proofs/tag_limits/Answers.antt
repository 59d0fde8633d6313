-- Each arm's tags, one or a range of them, are looked up in the table of tags; the other arms have none of its tags.
use mathlib.Core.Path.{refl}
use native.Mathlib.Omega.{arith}
use Rattle.rules.specs.Tags.{columns_used, row_limit}
use Rattle.rule_tags.proofs.TagLimits.{limits_range, limits_unknown}
use borrow.Author.Rules.{rules}
use Rattle.rule_tags.proofs.tag_limits.Goals as goal

pub step_limits-requires : goal.step_limits-requires
unfolding columns_used row_limit
step_limits-requires c = search rules

pub returns-in-10 : goal.returns-in-10
unfolding columns_used row_limit
returns-in-10 c =
    limits_range 3 64 10 1 refl refl c.args.tag (omega arith) (omega arith)

pub returns-in-20 : goal.returns-in-20
unfolding columns_used row_limit
returns-in-20 c =
    limits_range 3 512 20 1 refl refl c.args.tag (omega arith) (omega arith)

pub returns-in-40 : goal.returns-in-40
unfolding columns_used row_limit
returns-in-40 c =
    limits_range 3 32 40 1 refl refl c.args.tag (omega arith) (omega arith)

pub returns-in-60 : goal.returns-in-60
unfolding columns_used row_limit
returns-in-60 c =
    limits_range 3 128 60 1 refl refl c.args.tag (omega arith) (omega arith)

pub returns-in-70 : goal.returns-in-70
unfolding columns_used row_limit
returns-in-70 c =
    limits_range 1 1 70 1 refl refl c.args.tag (omega arith) (omega arith)

pub returns-in-30-to-32 : goal.returns-in-30-to-32
unfolding columns_used row_limit
returns-in-30-to-32 c =
    limits_range 1 16 30 3 refl refl c.args.tag (omega arith) (omega arith)

pub returns-in-50-to-52 : goal.returns-in-50-to-52
unfolding columns_used row_limit
returns-in-50-to-52 c = search rules

pub returns-in_default : goal.returns-in_default
unfolding columns_used row_limit
returns-in_default c =
    limits_unknown c.args.tag (omega arith, (omega arith, (omega arith, (omega arith, (omega arith, (omega arith, (omega arith, (omega arith, (omega arith, (omega arith, (omega arith, tt)))))))))))

pub returns-in_default-2 : goal.returns-in_default-2
unfolding columns_used row_limit
returns-in_default-2 c =
    limits_unknown c.args.tag (omega arith, (omega arith, (omega arith, (omega arith, (omega arith, (omega arith, (omega arith, (omega arith, (omega arith, (omega arith, (omega arith, tt)))))))))))

pub returns-in_default-3 : goal.returns-in_default-3
unfolding columns_used row_limit
returns-in_default-3 c =
    limits_unknown c.args.tag (omega arith, (omega arith, (omega arith, (omega arith, (omega arith, (omega arith, (omega arith, (omega arith, (omega arith, (omega arith, (omega arith, tt)))))))))))

-- Each part of the test from the number that it reads.
use Rattle.rules.specs.Rules.{tag_offends}
use borrow.Author.Rules.{rules}
use Rattle.rule_tags.proofs.tag_offends.Goals as goal

pub tag_at-requires : goal.tag_at-requires
unfolding tag_offends
tag_at-requires c = search rules

pub tag_limits-used-requires : goal.tag_limits-used-requires
unfolding tag_offends
tag_limits-used-requires c = search rules

pub b_at-requires : goal.b_at-requires
unfolding tag_offends
b_at-requires c = search rules

pub c_at-requires : goal.c_at-requires
unfolding tag_offends
c_at-requires c = search rules

pub falls-requires : goal.falls-requires
unfolding tag_offends
falls-requires c = search rules

pub returns : goal.returns
unfolding tag_offends
returns c =
    simp (c.falls.ensures, c.c_at.ensures, c.b_at.ensures, c.tag_limits-used.ensures.0, c.tag_at.ensures)

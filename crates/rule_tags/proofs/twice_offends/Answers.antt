-- A row that is neither an action nor a witness has no target (Twice); of the others, the rows before are searched for one with its tag, event and target.
use mathlib.Core.Path.{ap, sym, ◌∙◌}
use mathlib.Core.Bool.{not, ◌||◌}
use native.Mathlib.Omega.{arith}
use lib.Dec.{eqb}
use Rattle.table.specs.Rows.{rows_of}
use Rattle.rules.specs.Rules.{twice_offends}
use Rattle.rule_tags.proofs.Twice.{twice_none, target_known}
use borrow.Author.Rules.{rules}
use Rattle.rule_tags.proofs.twice_offends.Goals as goal

pub tag_at-tag-requires : goal.tag_at-tag-requires
unfolding twice_offends
tag_at-tag-requires c = search rules

pub returns-then-not-tag : goal.returns-then-not-tag
unfolding twice_offends
returns-then-not-tag c =
    let a = c.args in
    sym (twice_none (rows_of a.scanned.now.table.words.now) a.i (ap (λ k. not ((eqb k 51 || eqb k 52) || eqb k 60)) (sym c.tag_at-tag.ensures) ∙ ap not c.if-not-tag.true))

pub a_at-event-requires : goal.a_at-event-requires
unfolding twice_offends
a_at-event-requires c = search rules

pub b_at-target-requires : goal.b_at-target-requires
unfolding twice_offends
b_at-target-requires c = search rules

pub some_row-requires : goal.some_row-requires
unfolding twice_offends
some_row-requires c =
    (omega (arith, c.requires), target_known c.tag_at-tag.result c.if-not-tag.false)

pub returns : goal.returns
unfolding twice_offends
returns c =
    simp (c.some_row.ensures, c.b_at-target.ensures, c.a_at-event.ensures, c.tag_at-tag.ensures)

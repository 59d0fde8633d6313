-- By whether the row is one of the selection.
use mathlib.Core.Path.{sym, ◌∙◌}
use Rattle.select.specs.Each.{count_at}
use borrow.Author.Rules.{rules}
use Rattle.select.proofs.count_at.Goals as goal

pub weight-requires : goal.weight-requires
unfolding count_at
weight-requires c = search rules

pub returns-then-selects : goal.returns-then-selects
unfolding count_at
returns-then-selects c =
    rw (sym c.selects.ensures ∙ c.if-selects.true) c.weight.ensures

pub returns : goal.returns
unfolding count_at
returns c = rw (sym c.selects.ensures ∙ c.if-selects.false)

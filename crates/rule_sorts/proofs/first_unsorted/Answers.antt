-- The walk from the last row down finds the first row (Walk).
use mathlib.Core.Path.{ap, ◌∙◌}
use Rattle.table.specs.Rows.{rows_of}
use Rattle.rules.specs.Rules.{offends, sort_offends}
use Rattle.rule_sorts.specs.Walk.{first_before}
use Rattle.rule_sorts.proofs.Walk.{first_found}
use borrow.Author.Rules.{rules}
use Rattle.rule_sorts.proofs.first_unsorted.Goals as goal

pub size-rows-requires : goal.size-rows-requires
unfolding offends
size-rows-requires c = search rules

pub returns : goal.returns
unfolding offends
returns c =
    let P = sort_offends (rows_of c.args.table.now.words.now) in
    c.first_expression.ensures ∙ ap (λ n. first_before P n n) c.size-rows.ensures ∙ first_found P (rows_of c.args.table.now.words.now).size

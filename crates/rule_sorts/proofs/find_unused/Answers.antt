use mathlib.Core.Path.{sym, ◌∙◌}
use native.Mathlib.Omega.{arith}
use Rattle.lists.proofs.First.{first_at, first_none}
use Rattle.table.specs.Rows.{rows_of}
use Rattle.rules.specs.Rules.{use_offends, offends}
use Rattle.rule_sorts.proofs.find_unused.Goals as goal

pub returns-then-use_offends : goal.returns-then-use_offends
unfolding offends
returns-then-use_offends c =
    let t = rows_of c.args.table.now.words.now in
    first_at (use_offends t) t.size c.loop-i.i c.loop-i.invariant (omega (arith, c.size-rows.ensures, c.loop-i-test.true)) (sym c.use_offends.ensures ∙ c.if-use_offends.true)

pub returns : goal.returns
unfolding offends
returns c =
    let t = rows_of c.args.table.now.words.now in
    c.size-rows.ensures ∙ first_none (use_offends t) t.size (λ j l. c.loop-i.invariant j (omega (arith, c.size-rows.ensures, c.loop-i-test.false)))

-- Where the test passes and the list has a place for n, it is counted; a number past the list changes nothing.
use mathlib.Core.Path.{sym, ◌∙◌}
use native.Mathlib.Omega.{arith}
use lib.Seq.{set_out}
use Rattle.lists.proofs.Choice.{chosen, not_chosen}
use Rattle.rule_sorts.proofs.use_if.Goals as goal

pub returns-then-not-test : goal.returns-then-not-test
returns-then-not-test c = sym (not_chosen c.args.test _ _ c.if-not-test.true)

pub returns-then-uses-n : goal.returns-then-uses-n
returns-then-uses-n c =
    let a = c.args in
    sym (chosen a.test _ _ c.if-not-test.false ∙ set_out a.uses.now a.n _ c.if-uses-n.true)

pub overflow_add-uses : goal.overflow_add-uses
overflow_add-uses c = omega (arith, c.requires c.args.n)

pub returns : goal.returns
returns c = sym (chosen c.args.test _ _ c.if-not-test.false)

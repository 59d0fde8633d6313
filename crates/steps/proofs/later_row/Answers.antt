-- By whether it is 0.
use Prim.Native.Nat.{◌+◌}
use mathlib.Core.Path.{sym, ap}
use borrow.Author.Tests.{eq-eqb, ne_eqb}
use Rattle.lists.specs.Choice.{pick}
use Rattle.steps.proofs.later_row.Goals as goal

pub returns-then-row-eq0 : goal.returns-then-row-eq0
returns-then-row-eq0 c =
    let row = c.args.row in
    sym (ap (λ b. pick b 0 (c.args.before + row)) (eq-eqb row 0 c.if-row-eq0.true))

pub returns : goal.returns
returns c =
    let row = c.args.row in
    sym (ap (λ b. pick b 0 (c.args.before + row)) (ne_eqb row 0 c.if-row-eq0.false))

-- By the test.
use mathlib.Core.Path.{ap, sym}
use Rattle.lists.specs.Choice.{pick}
use Rattle.table.proofs.operand.Goals as goal

pub returns-then-x-n : goal.returns-then-x-n
returns-then-x-n c =
    let x = c.args.x in
    ap (λ b. pick b x 0) (sym c.if-x-n.true)

pub returns : goal.returns
returns c =
    let x = c.args.x in
    ap (λ b. pick b x 0) (sym c.if-x-n.false)

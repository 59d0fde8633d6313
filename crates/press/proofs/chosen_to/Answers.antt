-- By whether a byte is left.
use mathlib.Core.Path.{sym, ap}
use borrow.Author.Tests.{lt-ltb, le-ltb}
use Rattle.lists.specs.Choice.{pick}
use Rattle.std.specs.Prelude.{Some, None}
use Rattle.press.proofs.chosen_to.Goals as goal

pub returns-then-end-length : goal.returns-then-end-length
returns-then-end-length c =
    let a = c.args in
    sym (ap (λ b. pick b None (Some a.e)) (lt-ltb a.end a.length c.if-end-length.true))

pub returns : goal.returns
returns c =
    let a = c.args in
    sym (ap (λ b. pick b None (Some a.e)) (le-ltb a.end a.length c.if-end-length.false))

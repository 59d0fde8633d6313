-- By whether the lengths are the same.
use mathlib.Core.Path.{sym, ap}
use borrow.Author.Tests.{eq-eqb, ne_eqb}
use Rattle.lists.specs.Choice.{pick}
use Rattle.press.proofs.room_of.Goals as goal

pub returns-then-values-sorts : goal.returns-then-values-sorts
returns-then-values-sorts c =
    let a = c.args in
    sym (ap (λ b. pick b a.values 65) (eq-eqb a.values a.sorts c.if-values-sorts.true))

pub returns : goal.returns
returns c =
    let a = c.args in
    sym (ap (λ b. pick b a.values 65) (ne_eqb a.values a.sorts c.if-values-sorts.false))

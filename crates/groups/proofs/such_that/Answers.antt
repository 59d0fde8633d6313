-- The kind is that of the machine's variables.
use mathlib.Core.Path.{ap, ◌∙◌}
use Rattle.select.specs.declared.Selection.TheVariants.{SuchThat}
use Rattle.groups.specs.Groups.{of_event}
use Rattle.groups.proofs.such_that.Goals as goal

pub returns : goal.returns
returns c =
    let a = c.args in
    c.of_event.ensures ∙ ap (λ k. of_event a.event (SuchThat k a.event)) c.own_kind-kind.ensures

-- By the event and the test.
use mathlib.Core.Path.{ap, ◌∙◌}
use Rattle.groups.specs.Groups.{of_event}
use Rattle.groups.proofs.variant_when.Goals as goal

pub returns : goal.returns
returns c =
    let a = c.args in
    c.of_event.ensures ∙ ap (of_event a.event) c.when.ensures

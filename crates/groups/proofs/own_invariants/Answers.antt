-- The tag is the machine's.
use mathlib.Core.Path.{ap, ◌∙◌}
use Rattle.select.specs.declared.Selection.TheVariants.{Tagged}
use Rattle.groups.specs.Groups.{of_event}
use Rattle.groups.proofs.own_invariants.Goals as goal

pub returns : goal.returns
returns c =
    let a = c.args in
    c.of_event.ensures ∙ ap (λ k. of_event a.event (Tagged k)) c.own_invariant_tag-tag.ensures

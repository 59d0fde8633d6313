-- The rows of the tag, where there is no event.
use mathlib.Core.Path.{ap, ◌∙◌}
use Rattle.select.specs.declared.Item.TheVariants.{A}
use Rattle.groups.specs.Groups.{defined_group}
use Rattle.groups.proofs.Group.formulas.Goals as goal

pub returns : goal.returns
returns c =
    let a = c.args in
    c.defined.ensures ∙ ap (λ rows. defined_group rows A a.event) c.alone.ensures

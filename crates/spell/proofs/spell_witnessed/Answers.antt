-- The row by the identifier's kind, then the witness's tree.
use mathlib.Core.Path.{ap, ap₂, ◌∙◌}
use mathlib.Core.Bool.{false}
use mathlib.Core.List.{◌∷◌}
use Rattle.lists.specs.Choice.{pick}
use Rattle.table.specs.Rows.{rows_of}
use Rattle.reply.specs.Spelled.{spelled}
use Rattle.spell.specs.Spell.{shown_rows}
use Rattle.spell.proofs.Written.{spelled_as}
use Rattle.spell.proofs.spell_witnessed.Goals as goal

pub returns : goal.returns
returns c =
    let a = c.args in
    spelled_as (ap₂ (λ o r. spelled o a.x ∷ shown_rows (rows_of a.table.now.words.now) false r) (c.some_operator-operator.ensures ∙ ap (λ c. pick c 41 40) c.is_variable.ensures) c.witness_root-root.ensures) c.spell_under.ensures

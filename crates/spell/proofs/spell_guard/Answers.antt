-- By the operator that the left side stands under, if there is one.
use mathlib.Core.Path.{ap, sym, ◌∙◌}
use mathlib.Core.Bool.{false}
use mathlib.Core.List.{◌∷◌}
use Rattle.table.specs.Rows.{rows_of}
use Rattle.reply.specs.Spelled.{spelled}
use Rattle.spell.specs.Spell.{shown_rows}
use Rattle.spell.proofs.Defined.{guard_none, guard_some}
use Rattle.spell.proofs.Written.{spelled_none, spelled_as}
use Rattle.spell.proofs.spell_guard.Goals as goal

pub returns-then-guard-eq0 : goal.returns-then-guard-eq0
returns-then-guard-eq0 c =
    spelled_as (guard_none c.args.operator _ (sym c.guard_number-guard.ensures ∙ c.if-guard-eq0.true)) (spelled_none c.args.out.now)

pub returns : goal.returns
returns c =
    let left = shown_rows (rows_of c.args.table.now.words.now) false c.args.left in
    spelled_as (ap (λ k. spelled k 0 ∷ left) c.guard_number-guard.ensures ∙ guard_some c.args.operator left (λ z. c.if-guard-eq0.false (c.guard_number-guard.ensures ∙ z))) c.spell_under.ensures

-- One row, and for a division a second in what it leaves.
use mathlib.Core.Path.{sym, ◌∙◌}
use native.Mathlib.Omega.{arith}
use Rattle.spell.proofs.Defined.{opening_division, opening_other}
use Rattle.spell.proofs.Written.{spelled_as, spelled_join}
use Rattle.spell.proofs.spell_opening.Goals as goal

pub returns-then-divides : goal.returns-then-divides
returns-then-divides c =
    spelled_as (opening_division c.args.operator (sym c.divides.ensures ∙ c.if-divides.true)) (spelled_join (omega (arith, c.well_formed)) (omega arith) c.row_83-head.ensures c.rest_start-at.ensures.value c.row_83-second.ensures c.add_rows.ensures)

pub returns : goal.returns
returns c =
    spelled_as (opening_other c.args.operator (sym c.divides.ensures ∙ c.if-divides.false)) c.row_83-head.ensures

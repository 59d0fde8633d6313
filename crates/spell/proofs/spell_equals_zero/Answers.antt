-- The equation's row and its left side, then the literal in what they leave.
use native.Mathlib.Omega.{arith}
use Rattle.spell.proofs.Written.{spelled_join}
use Rattle.spell.proofs.spell_equals_zero.Goals as goal

pub returns : goal.returns
returns c =
    spelled_join (omega (arith, c.well_formed)) (omega arith) c.spell_under-equal.ensures c.rest_start-at.ensures.value c.row_83-zero.ensures c.add_rows.ensures

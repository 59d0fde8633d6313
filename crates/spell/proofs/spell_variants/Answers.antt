-- The operator's row and the after side, then the other in what they leave.
use native.Mathlib.Omega.{arith}
use Rattle.spell.proofs.Written.{spelled_join}
use Rattle.spell.proofs.spell_variants.Goals as goal

pub returns : goal.returns
returns c =
    spelled_join (omega (arith, c.well_formed)) (omega arith) c.spell_under-after.ensures c.rest_start-at.ensures.value c.spell_expression-before.ensures c.add_rows.ensures

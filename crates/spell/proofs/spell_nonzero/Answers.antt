-- ¬, then the equation in what it leaves.
use native.Mathlib.Omega.{arith}
use Rattle.spell.proofs.Written.{spelled_join}
use Rattle.spell.proofs.spell_nonzero.Goals as goal

pub returns : goal.returns
returns c =
    spelled_join (omega (arith, c.well_formed)) (omega arith) c.row_83-head.ensures c.rest_start-at.ensures.value c.spell_equals_zero-equal.ensures c.add_rows.ensures

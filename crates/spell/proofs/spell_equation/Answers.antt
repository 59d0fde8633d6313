-- Three rows, each in what those before it leave.
use native.Mathlib.Omega.{arith}
use Rattle.spell.proofs.Written.{spelled_join}
use Rattle.spell.proofs.spell_equation.Goals as goal

pub returns : goal.returns
returns c =
    spelled_join (omega (arith, c.well_formed)) (omega arith) (spelled_join (omega (arith, c.well_formed)) (omega arith) c.row_83-head.ensures c.rest_start-left_at.ensures.value c.row_83-first.ensures c.add_rows-to_left.ensures) c.rest_start-right_at.ensures.value c.row_83-second.ensures c.add_rows.ensures

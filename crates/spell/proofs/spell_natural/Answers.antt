-- ∧, then the two comparisons, each in what is left.
use native.Mathlib.Omega.{arith}
use Rattle.spell.proofs.Written.{spelled_join}
use Rattle.spell.proofs.spell_natural.Goals as goal

pub returns : goal.returns
returns c =
    let j = spelled_join (omega (arith, c.well_formed)) (omega arith) c.row_83-head.ensures c.rest_start-left_at.ensures.value c.spell_comparison-at_most.ensures c.add_rows-to_left.ensures in
    spelled_join (omega (arith, c.well_formed)) (omega arith) j c.rest_start-right_at.ensures.value c.spell_comparison-less.ensures c.add_rows.ensures

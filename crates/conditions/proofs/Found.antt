-- The condition by the operators' table: at one of its numbers, where its row is computed, and at any other number.
use Prim.Native.Nat.{ℕ}
use mathlib.Core.Path.{◌≡◌, ap, sym, ◌∙◌}
use Rattle.machine.specs.Operator.{operators, row_numbered, operator_numbered}
use Rattle.machine.proofs.Operator.{Other, row_other}
use Rattle.conditions.specs.declared.Condition.{Condition}
use Rattle.conditions.specs.declared.Condition.TheVariants.{Nothing}
use Rattle.conditions.specs.Condition.{condition_of}

pub condition_at : (k : ℕ) {n : ℕ} {made : Condition} → n ≡ k → made ≡ condition_of (row_numbered operators k).operator → made ≡ condition_of (operator_numbered n)
unfolding operator_numbered
condition_at k e row = row ∙ ap (λ n. condition_of (row_numbered operators n).operator) (sym e)

pub condition_other : {n : ℕ} → Other n operators Unit → Nothing ≡ condition_of (operator_numbered n)
unfolding operator_numbered
condition_other {n} h = ap (λ row. condition_of row.operator) (row_other n operators Unit h)

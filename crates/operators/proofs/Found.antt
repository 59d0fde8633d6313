-- What the operators' table gives: at one of its numbers, where its row is computed, at any other number, and in each column.
use Prim.Native.Nat.{ℕ}
use mathlib.Core.Path.{◌≡◌, refl, ap, sym, ◌∙◌, subst}
use Rattle.machine.specs.Operator.{Numbered, operators, row_numbered, operator_numbered, operand_sort, result_sort}
use Rattle.machine.proofs.Operator.{Other, row_other}
use Rattle.rules.specs.Sorts.{Shape, shape, shape_of}
use Rattle.operators.specs.declared.Operator.{Operator}
use Rattle.operators.specs.declared.Shape as held
use Rattle.operators.specs.Operator.{Usage, usage_of, meant, meant_shape}

abbrev usage : Shape → ℕ → ℕ → ℕ → Usage
usage s o r n = record { number = n; columns = s; operands = o; sort = r }

-- how a row is used
abbrev row_usage : Numbered → ℕ → Usage
row_usage row n = usage (shape row.operator) row.operands row.sort n

abbrev tabled : ℕ → Usage
tabled n = row_usage (row_numbered operators n) n

tabled_used : (n : ℕ) → tabled n ≡ usage_of n
unfolding shape_of operator_numbered operand_sort result_sort
tabled_used n = refl

-- an operator that was made where the number is k
pub found_at : (k : ℕ) {made : Operator} {n o r : ℕ} {s : held.Shape} → made ≡ record { number = n; shape = s; operands = o; sort = r }
    → n ≡ k → usage (meant_shape s) o r k ≡ tabled k → meant made ≡ usage_of n
found_at k {n} {o} {r} {s} made e row = ap meant made ∙ subst (λ n. usage (meant_shape s) o r n ≡ tabled n) (sym e) row ∙ tabled_used n

pub found_other : {made : Operator} {n : ℕ} → made ≡ record { number = n; shape = held.TheVariants.Unknown; operands = 0; sort = 0 }
    → Other n operators Unit → meant made ≡ usage_of n
found_other {n} made h = ap meant made ∙ ap (λ row. row_usage row n) (row_other n operators Unit h) ∙ tabled_used n

module _ (o : Operator) (n : ℕ) (e : meant o ≡ usage_of n) where
  pub shape_found : meant_shape o.shape ≡ shape_of n
  shape_found = ap (λ o. o.columns) e

  pub operands_found : o.operands ≡ operand_sort n
  operands_found = ap (λ o. o.operands) e

  pub sort_found : o.sort ≡ result_sort n
  sort_found = ap (λ o. o.sort) e

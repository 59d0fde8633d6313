-- A table that meets every rule: no row offends against any check from 3 to 11, and nothing is missing.
use Prim.Native.Nat.{ℕ, ◌<◌}
use native.Mathlib.Omega.{arith}
use mathlib.Core.Path.{◌≡◌}
use mathlib.Core.Bool.{false}
use Rattle.table.specs.Rows.{Rows}
use Rattle.rules.specs.Rules.{tag_offends, full_offends, event_offends, identifier_offends, reference_offends, sort_offends, use_offends, sight_offends, twice_offends, missing, offends}
use Rattle.rules.specs.Verdict.{Passes}

pub record Obeys (t : Rows) : Type 0 where
  pub tags : (i : ℕ) → i < t.size → tag_offends t i ≡ false
  pub full : (i : ℕ) → i < t.size → full_offends t i ≡ false
  pub events : (i : ℕ) → i < t.size → event_offends t i ≡ false
  pub identifiers : (i : ℕ) → i < t.size → identifier_offends t i ≡ false
  pub references : (i : ℕ) → i < t.size → reference_offends t i ≡ false
  pub sorts : (i : ℕ) → i < t.size → sort_offends t i ≡ false
  pub uses : (i : ℕ) → i < t.size → use_offends t i ≡ false
  pub sight : (i : ℕ) → i < t.size → sight_offends t i ≡ false
  pub twice : (i : ℕ) → i < t.size → twice_offends t i ≡ false
  pub present : missing t ≡ false

-- where no check is offended against
pub passes_obeys : (t : Rows) → Passes t → Obeys t
unfolding offends
passes_obeys t (passed, present) = record {
  tags = λ i h. passed 3 i (omega arith) (omega arith) h;
  full = λ i h. passed 4 i (omega arith) (omega arith) h;
  events = λ i h. passed 5 i (omega arith) (omega arith) h;
  identifiers = λ i h. passed 6 i (omega arith) (omega arith) h;
  references = λ i h. passed 7 i (omega arith) (omega arith) h;
  sorts = λ i h. passed 8 i (omega arith) (omega arith) h;
  uses = λ i h. passed 9 i (omega arith) (omega arith) h;
  sight = λ i h. passed 10 i (omega arith) (omega arith) h;
  twice = λ i h. passed 11 i (omega arith) (omega arith) h;
  present = present;
}

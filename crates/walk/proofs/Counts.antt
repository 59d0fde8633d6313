-- A search with more left than the list has comes to the end and has passed over the whole list.
use Prim.Native.Nat.{ℕ, ◌+◌, ◌*◌, ◌≤◌, ◌<◌}
use mathlib.Core.Path.{◌≡◌, sym, ap, ◌∙◌}
use mathlib.Core.Logic.{inl, inr}
use native.Mathlib.Omega.{arith}
use native.Mathlib.Nat.{mul-le-mul}
use Rattle.table.specs.Rows.{Rows, count}
use Rattle.walk.specs.declared.Slot.{Slot}
use Rattle.groups.specs.Groups.{groups}
use Rattle.walk.specs.Slots.{slot_at, walk_to, walk_count, Within, AtEnd, position, SoughtSlot}
use Rattle.walk.proofs.Find.{walk_start, walk_end, walk_reaches, walk_at_most}
use Rattle.walk.proofs.Slots.{events_within}

module _ (t : Rows) where
  -- 01: 1,724 rows are all that 65,536 bytes hold
  pub count_small : t.size ≤ 1724 → walk_count t < 4294967296
  count_small h =
      let most : (count t 40 + 1) * (groups * (t.size * 2)) ≤ 1725 * (groups * (1724 * 2)) =
      mul-le-mul {n₂ = 1725} {m₂ = groups * (1724 * 2)} (omega (arith, events_within t)) (omega arith) in
      omega (arith, walk_at_most t)

  -- the start is in the walk, and names the place that is left to pass over
  pub start_within : (k : ℕ) → Within t (slot_at 0 0 0 k)
  start_within k = record { event = omega arith; group = omega arith; row = omega arith }

  pub start_position : (k : ℕ) → position t (slot_at 0 0 0 k) ≡ k
  start_position k = omega (arith, walk_start t)

  -- a search that has come to the end has passed over the whole list
  pub passed_end : (k : ℕ) (r : Slot) → position t r ≡ k → AtEnd t r → walk_count t + r.left ≡ k
  passed_end k r p x = ap (λ n. n + r.left) (sym (walk_end t) ∙ sym at) ∙ p
    where
      at : walk_to t r.event r.group r.row ≡ walk_to t (count t 40 + 1) 0 0
      at = ap (λ e. walk_to t e r.group r.row) x.event ∙ ap (λ g. walk_to t (count t 40 + 1) g r.row) x.group ∙ ap (walk_to t (count t 40 + 1) 0) x.row

  pub passed_all : (many : ℕ) (r : Slot) → walk_count t < many → SoughtSlot t many r → walk_count t + r.left ≡ many
  passed_all many r h (p, inl w) = absurd (omega (arith, w.left, walk_reaches t r.event r.group r.row w.event w.group w.row))
  passed_all many r h (p, inr x) = passed_end many r p x

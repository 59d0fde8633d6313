-- A group by its number: its line of the table, and no rows beyond the last.
use Prim.Native.Nat.{ℕ, ◌≤◌}
use mathlib.Core.Path.{◌≡◌, sym, ap, ◌∙◌}
use lib.ListN.{get_or-eq_default}
use Rattle.table.specs.Rows.{Rows}
use Rattle.sequent.specs.Sequent.{WD}
use Rattle.select.specs.declared.Selection.TheVariants.{None}
use Rattle.select.specs.declared.Item.TheVariants.{A}
use Rattle.groups.specs.declared.Group.{Group}
use Rattle.groups.specs.Groups.{groups, whole_group, group_table, group_at, group_rows}

module _ (t : Rows) where
  -- a group whose number is known
  pub at_number : (e : ℕ) {g : ℕ} (k : ℕ) → g ≡ k → {r : Group} → r ≡ group_at t e k → r ≡ group_at t e g
  at_number e k p q = q ∙ sym (ap (group_at t e) p)

  -- no rows beyond the last group
  pub no_group : (e g : ℕ) → groups ≤ g → group_rows t e g ≡ None
  unfolding group_at
  no_group e g h = ap (λ r. r.rows) (get_or-eq_default (group_table t e) (whole_group WD None A) h)

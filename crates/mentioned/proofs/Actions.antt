-- The set of an action, by the row that was found for it.
use Prim.Native.Nat.{ℕ, ◌≤◌, ◌<◌}
use mathlib.Core.Path.{◌≡◌, sym, ap, ◌∙◌}
use mathlib.Core.Bool.{true}
use mathlib.Core.List.{[], ◌∷◌}
use native.Mathlib.Omega.{arith}
use lib.Bits.{bit_or}
use borrow.Author.Tests.{lt-ltb, le-ltb, eq-eqb, ne_eqb}
use Rattle.lists.proofs.Choice.{chosen, not_chosen}
use Rattle.sets.specs.Set.{set_of}
use Rattle.table.specs.Rows.{Rows, tagged}
use Rattle.select.specs.Selection.{action_row, is_assigned}
use Rattle.mentioned.specs.Mentioned.{node_set, action_set}

module _ (t : Rows) (e x row : ℕ) (found : row ≡ action_row t e x) where
  assigned : row < t.size → is_assigned t e x ≡ true
  assigned h = lt-ltb (action_row t e x) t.size (omega (arith, found))

  pub set_unassigned : t.size ≤ row → set_of (x ∷ []) ≡ action_set t e x
  unfolding action_set
  set_unassigned h = sym (not_chosen (is_assigned t e x) _ _ (le-ltb (action_row t e x) t.size (omega (arith, found))))

  pub set_equal : row < t.size → t.tag row ≡ 51 → bit_or (set_of (x ∷ [])) (node_set t (t.c row)) ≡ action_set t e x
  unfolding action_set
  set_equal h p =
      ap (λ i. bit_or (set_of (x ∷ [])) (node_set t (t.c i))) found
      ∙ sym (chosen (is_assigned t e x) _ _ (assigned h) ∙ chosen (tagged t 51 (action_row t e x)) _ _ (eq-eqb _ 51 (ap t.tag (sym found) ∙ p)))

  pub set_such : row < t.size → (t.tag row ≡ 51 → ⊥) → node_set t (t.c row) ≡ action_set t e x
  unfolding action_set
  set_such h f =
      ap (λ i. node_set t (t.c i)) found
      ∙ sym (chosen (is_assigned t e x) _ _ (assigned h) ∙ not_chosen (tagged t 51 (action_row t e x)) _ _ (ne_eqb _ 51 (λ p. f (ap t.tag found ∙ p))))

-- The rows of an action, from the first row that sets the variable: by whether there is one and its tag.
use Prim.Native.Nat.{ℕ, ◌≤◌, ◌<◌}
use mathlib.Core.Path.{◌≡◌, refl, sym, ap, ap₂, ◌∙◌}
use mathlib.Core.Bool.{Bool, true, false}
use mathlib.Core.List.{◌∷◌}
use lib.Dec.{ltb}
use borrow.Author.Tests.{lt-ltb, le-ltb, eq-eqb, ne_eqb}
use Rattle.lists.specs.Choice.{pick}
use Rattle.lists.specs.Below.{first}
use Rattle.table.specs.Rows.{Rows, tagged}
use Rattle.machine.specs.Machine.{Action, unassigned, becomes_equal, becomes_such_that}
use Rattle.machine.specs.Described.{sets, action_of, machine_of}
use Rattle.sequent.specs.Entry.{action_tree}
use Rattle.reply.specs.Spelled.{spelled, spell_tree}
use Rattle.spell.specs.Spell.{shown_rows, unchanged_rows, moves_rows}

module _ (t : Rows) (e x i : ℕ) (found : i ≡ first (sets t e x) t.size 0) where
  -- the action by two tests of the row: that it is one, and its tag
  abbrev action_by : Bool → Bool → ℕ → Action
  action_by b c i = pick b (pick c (becomes_equal (t.c i)) (becomes_such_that (t.c i))) unassigned

  action_by_lem : (b c : Bool) → ltb i t.size ≡ b → tagged t 51 i ≡ c → action_by b c i ≡ action_of t e x
  unfolding action_of
  action_by_lem b c f g = sym (ap₂ (λ b c. action_by b c i) f g) ∙ ap (λ i. action_by (ltb i t.size) (tagged t 51 i) i) found

  moves_by : (b c : Bool) → ltb i t.size ≡ b → tagged t 51 i ≡ c → spell_tree (action_tree (machine_of t) (action_by b c i) x) ≡ moves_rows t e x
  unfolding moves_rows machine_of
  moves_by b c f g = ap (λ a. spell_tree (action_tree (machine_of t) a x)) (action_by_lem b c f g)

  pub moves_unassigned : t.size ≤ i → unchanged_rows x ≡ moves_rows t e x
  unfolding spell_tree
  moves_unassigned h = moves_by false (tagged t 51 i) (le-ltb i t.size h) refl

  module _ (r : ℕ) (root : r ≡ t.c i) (inside : i < t.size) where
    pub moves_equal : t.tag i ≡ 51 → spelled 20 0 ∷ spelled 3 x ∷ shown_rows t false r ≡ moves_rows t e x
    unfolding shown_rows spell_tree machine_of
    moves_equal h = ap (λ r. spelled 20 0 ∷ spelled 3 x ∷ shown_rows t false r) root ∙ moves_by true true (lt-ltb i t.size inside) (eq-eqb (t.tag i) 51 h)

    pub moves_such : (t.tag i ≡ 51 → ⊥) → shown_rows t false r ≡ moves_rows t e x
    unfolding shown_rows machine_of
    moves_such h = ap (shown_rows t false) root ∙ moves_by true false (lt-ltb i t.size inside) (ne_eqb (t.tag i) 51 h)

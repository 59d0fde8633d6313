-- Moving the variables one after another, in identifier order.
use mathlib.Core.Path.{◌≡◌, refl, sym, ap, ◌∙◌}
use mathlib.Core.Bool.{Bool, true, false}
use mathlib.Core.List.{List, ◌∷◌}
use Prim.Native.Nat.{ℕ, ◌+◌, ◌≤◌, ◌<◌}
use lib.IntN.{ℤ, pos}
use lib.ListN.{get_or, set}
use Rattle.lists.specs.Choice.{pick}
use Rattle.table.specs.Rows.{Rows, count}
use Rattle.machine.specs.Described.{variables_of, machine_of}
use Rattle.recording.specs.Rows.{is_state_variable}
use Rattle.recording.specs.Replay.{Values, move, moved}
use Rattle.values.specs.Values.{values_of}
use Rattle.values.proofs.Behind.{behind, behind_all, behind_next, behind_none}

module _ (t : Rows) where
  -- the variables behind x
  abbrev pub variables_from : ℕ → List ℕ
  variables_from x = behind (is_state_variable t) (count t 10) x

  pub move_start : (vs : Values) → move (variables_from 0) vs ≡ moved t vs
  unfolding machine_of variables_of
  move_start vs = ap (λ xs. move xs vs) (behind_all (is_state_variable t) (count t 10))

  pub move_next : (x : ℕ) → x < count t 10 → (present after next : List ℤ)
      → next ≡ pick (is_state_variable t (x + 1)) (set present (x + 1) (get_or after (x + 1) (pos 0))) present
      → move (variables_from (x + 1)) (values_of next after) ≡ move (variables_from x) (values_of present after)
  unfolding move
  move_next x h present after next e =
      ap (λ p. move (variables_from (x + 1)) (values_of p after)) e ∙ go (is_state_variable t (x + 1))
      ∙ sym (ap (λ xs. move xs (values_of present after)) (behind_next (is_state_variable t) (count t 10) x h))
    where
      go : (b : Bool) → move (variables_from (x + 1)) (values_of (pick b (set present (x + 1) (get_or after (x + 1) (pos 0))) present) after)
          ≡ move (pick b ((x + 1) ∷ variables_from (x + 1)) (variables_from (x + 1))) (values_of present after)
      go true = refl
      go false = refl

  pub move_end : (x : ℕ) → count t 10 ≤ x → (vs : Values) → vs ≡ move (variables_from x) vs
  unfolding move
  move_end x h vs = sym (ap (λ xs. move xs vs) (behind_none (is_state_variable t) (count t 10) x h))

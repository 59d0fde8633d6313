-- The after values of a step's variables: of one by the row of its action, and of all of them, one after another.
use mathlib.Core.Path.{◌≡◌, refl, sym, ap, ◌∙◌}
use mathlib.Core.Bool.{Bool, true, false}
use mathlib.Core.List.{List, [], ◌∷◌}
use Prim.Native.Nat.{ℕ, suc, ◌+◌, ◌≤◌, ◌<◌}
use borrow.Author.Tests.{le-ltb, lt-ltb, eq-eqb, ne_eqb}
use lib.IntN.{ℤ, pos}
use lib.ListN.{get_or, set}
use Rattle.lists.specs.Choice.{pick}
use Rattle.lists.specs.Below.{first}
use Rattle.answer.specs.Answer.{answer}
use Rattle.answer.specs.Stored.{stored_env}
use Rattle.table.specs.Rows.{Rows, tagged, count}
use Rattle.machine.specs.Described.{tree_of, sets, variables_of, machine_of}
use Rattle.machine.proofs.Described.{action_by_row}
use Rattle.recording.specs.Rows.{is_state_variable}
use Rattle.recording.specs.Replay.{Values}
use Rattle.values.specs.Values.{values_of}
use Rattle.values.proofs.Behind.{behind_all, behind_next, behind_none}
use Rattle.values.proofs.Moving.{variables_from}
use Rattle.bench.specs.Press.{answered, after_by, complete, completed}

module _ (t : Rows) (e : ℕ) (vs : Values) (x i : ℕ) (found : i ≡ first (sets t e x) t.size 0) where
  pub unassigned_after : t.size ≤ i → get_or vs.present x (pos 0) ≡ after_by t vs x ((machine_of t).action e x)
  unfolding after_by machine_of
  unassigned_after h = sym (ap (after_by t vs x) (action_by_row t e x i found false (tagged t 51 i) (le-ltb i t.size h) refl))

  pub equal_after : suc i ≤ t.size → t.tag i ≡ 51 → answered (answer (stored_env (machine_of t).type vs.present []) (tree_of t (t.c i))) ≡ after_by t vs x ((machine_of t).action e x)
  unfolding after_by machine_of
  equal_after h k = sym (ap (after_by t vs x) (action_by_row t e x i found true true (lt-ltb i t.size h) (eq-eqb (t.tag i) 51 k)))

  pub such_after : suc i ≤ t.size → (t.tag i ≡ 51 → ⊥) → get_or vs.after x (pos 0) ≡ after_by t vs x ((machine_of t).action e x)
  unfolding after_by machine_of
  such_after h k = sym (ap (after_by t vs x) (action_by_row t e x i found true false (lt-ltb i t.size h) (ne_eqb (t.tag i) 51 k)))

module _ (t : Rows) (e : ℕ) where
  pub complete_start : (vs : Values) → complete t e (variables_from t 0) vs ≡ completed t e vs
  unfolding machine_of variables_of
  complete_start vs = ap (λ xs. complete t e xs vs) (behind_all (is_state_variable t) (count t 10))

  pub complete_next : (x : ℕ) → x < count t 10 → (present after next : List ℤ)
      → next ≡ pick (is_state_variable t (x + 1)) (set after (x + 1) (after_by t (values_of present after) (x + 1) ((machine_of t).action e (x + 1)))) after
      → complete t e (variables_from t (x + 1)) (values_of present next) ≡ complete t e (variables_from t x) (values_of present after)
  unfolding complete
  complete_next x h present after next q =
      ap (λ a. complete t e (variables_from t (x + 1)) (values_of present a)) q ∙ go (is_state_variable t (x + 1))
      ∙ sym (ap (λ xs. complete t e xs (values_of present after)) (behind_next (is_state_variable t) (count t 10) x h))
    where
      go : (b : Bool) → complete t e (variables_from t (x + 1)) (values_of present (pick b (set after (x + 1) (after_by t (values_of present after) (x + 1) ((machine_of t).action e (x + 1)))) after))
          ≡ complete t e (pick b ((x + 1) ∷ variables_from t (x + 1)) (variables_from t (x + 1))) (values_of present after)
      go true = refl
      go false = refl

  pub complete_end : (x : ℕ) → count t 10 ≤ x → (vs : Values) → vs ≡ complete t e (variables_from t x) vs
  unfolding complete
  complete_end x h vs = sym (ap (λ xs. complete t e xs vs) (behind_none (is_state_variable t) (count t 10) x h))

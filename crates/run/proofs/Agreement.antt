-- Truth and reading pass between environments that agree on what a formula mentions: from the laws of evaluation and reading, formula by formula.
use mathlib.Core.Path.{sym, ◌∙◌, subst}
use mathlib.Core.Bool.{Bool}
use mathlib.Core.List.{List}
use Prim.Native.Nat.{ℕ}
use lib.Dec.{T, eqb, eqb_refl}
use Rattle.lists.specs.All.{All, all_nil, all_cons}
use Rattle.lists.proofs.All.{all_head, all_tail}
use Rattle.formula.specs.Values.{as_truth}
use Rattle.formula.specs.Tree.{Tree}
use Rattle.formula.specs.Evaluate.{Env, evaluate, True}
use Rattle.formula.specs.Mentions.{mentions}
use Rattle.formula.proofs.Mentions.{Agree, evaluate_agree, read_agree}
use Rattle.machine.specs.Machine.{Kind, Action, unassigned, becomes_equal, becomes_such_that, Machine}
use Rattle.sequent.specs.Entry.{action_tree}
use Rattle.run.specs.Run.{Defined, AllReadTrue, NoneUndefined, ActionDefined}
use Rattle.run.proofs.WellFormed.{never, among, ActionSees}
use Rattle.run.proofs.Reading.{AllTrue}

module _ (m : Machine) {P Q : ℕ → Bool} (ρ σ : Env m.type) (h : Agree P Q ρ σ) where
  abbrev AllSeen : List ℕ → Type 0
  AllSeen rs = All (λ r. T (mentions P Q (m.tree r))) rs

  pub true_agree : (t : Tree) → T (mentions P Q t) → True ρ t → True σ t
  true_agree t s x = subst (λ v. T (as_truth v)) (evaluate_agree ρ σ h t s) x

  pub all_true_agree : {rs : List ℕ} → AllSeen rs → AllTrue m ρ rs → AllTrue m σ rs
  all_true_agree all_nil ts = all_nil
  all_true_agree (all_cons {x = r} s ss) ts = all_cons (true_agree (m.tree r) s (all_head ts)) (all_true_agree ss (all_tail ts))

  pub defined_agree : (r : ℕ) → T (mentions P Q (m.tree r)) → Defined m ρ r → Defined m σ r
  defined_agree r s d = (d.0, sym (read_agree ρ σ h (m.tree r) s) ∙ d.1)

  pub all_read_agree : {rs : List ℕ} → AllSeen rs → AllReadTrue m ρ rs → AllReadTrue m σ rs
  all_read_agree all_nil ts = all_nil
  all_read_agree (all_cons {x = r} s ss) ts = all_cons (sym (read_agree ρ σ h (m.tree r) s) ∙ all_head ts) (all_read_agree ss (all_tail ts))

  pub none_undefined_agree : {rs : List ℕ} → AllSeen rs → NoneUndefined m ρ rs → NoneUndefined m σ rs
  none_undefined_agree all_nil t = tt
  none_undefined_agree (all_cons {x = r} s ss) t =
      (defined_agree r s t.0, λ e. none_undefined_agree ss (t.1 (read_agree ρ σ h (m.tree r) s ∙ e)))

-- an action of the variable x, whose after value it may mention
module _ (m : Machine) (S : Kind → Bool) (x : ℕ) (ρ σ : Env m.type) (h : Agree (among m S) (eqb x) ρ σ) where
  present_agree : Agree (among m S) never ρ σ
  present_agree = record { present = h.present; after = λ y t. absurd t }

  pub action_true_agree : (A : Action) → ActionSees m S x A → True ρ (action_tree m A x) → True σ (action_tree m A x)
  unfolding evaluate
  action_true_agree unassigned s t = rw (← h.after x (eqb_refl x), ← h.present x s) t
  action_true_agree (becomes_equal r) s t = rw (← h.after x (eqb_refl x), ← evaluate_agree ρ σ present_agree (m.tree r) s.0) t
  action_true_agree (becomes_such_that r) s t = true_agree m ρ σ h (m.tree r) s t

  pub action_defined_agree : (A : Action) → ActionSees m S x A → ActionDefined m ρ A → ActionDefined m σ A
  action_defined_agree unassigned s d = tt
  action_defined_agree (becomes_equal r) s d = defined_agree m ρ σ present_agree r s.0 d
  action_defined_agree (becomes_such_that r) s d = defined_agree m ρ σ h r s d

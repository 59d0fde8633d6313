-- An event in a world where its base hypotheses are true: nothing undefined is reached, and where it is enabled it has a successor, whose after
-- values are those of FIS and of the assigned expressions.
use mathlib.Core.Path.{◌≡◌, refl, sym, ap, ◌∙◌, subst}
use mathlib.Core.Bool.{Bool}
use mathlib.Core.List.{List}
use Prim.Native.Nat.{ℕ}
use lib.Dec.{T, eqb, eqb→eq}
use Rattle.lists.specs.All.{All, In}
use Rattle.lists.proofs.All.{all_head, all_at, all_in}
use Rattle.formula.specs.Values.{Value, wrap, as_value}
use Rattle.formula.specs.Evaluate.{Env, with_after, override, evaluate, True}
use Rattle.formula.specs.Formula.{Holds, some_after_value}
use Rattle.formula.proofs.Values.{eq_equal_value}
use Rattle.formula.proofs.Mentions.{Agree, evaluate_agree}
use Rattle.formula.proofs.Override.{override_same}
use Rattle.formula.proofs.Choose.{choose_after}
use Rattle.machine.specs.Machine.{Kind, Action, unassigned, becomes_equal, becomes_such_that, Machine, Role}
use Rattle.sequent.specs.Entry.{Entry, action_tree}
use Rattle.sequent.specs.Sequent.{Meets, Valid}
use Rattle.sequent.specs.Listed.{action_fis, base, guarded}
use Rattle.sequent.specs.Required.{own_variables}
use Rattle.run.specs.Run.{State, blank, world, view, NoneUndefined, ActionDefined, Enabled, Step}
use Rattle.run.specs.SafeRun.{own_state, not_initial, EventSafe}
use Rattle.run.proofs.WellFormed.{own_kinds, never, variable_kind, among, Variable, ActionSees}
use Rattle.run.proofs.Reading.{evaluate_typed, in_order_defined}
use Rattle.run.proofs.Agreement.{action_true_agree, none_undefined_agree}
use Rattle.run.proofs.Views.{same_shared, Shares, own_same, world_after, guard_agree}
use Rattle.run.proofs.Events.{EventSees, EventValid}
use Rattle.run.proofs.Valuations.{values_found}
use Rattle.run.proofs.Steps.{enabled_true, enabled_guarded, actions_defined_lem, moved_step}

-- some after value of x makes form 4 true: the value before, the expression's value, or one that FIS promises
module _ (m : Machine) (S : Kind → Bool) (e x : ℕ) (ρ : Env m.type) (hs : List Entry) (h : All (Meets m ρ) hs) where
  pub after_value : (A : Action) → m.action e x ≡ A → ActionSees m S x A → All (Valid m) (action_fis e x hs A) →
      (v : Value (m.type x)) × True (with_after ρ x v) (action_tree m A x)
  unfolding evaluate Valid
  after_value unassigned q s f = (ρ.present x, eq_equal_value _ _ (ap (wrap (m.type x)) (override_same m.type ρ.after x (ρ.present x))))
  after_value (becomes_equal r) q s f =
      let v : Value (m.type x) = as_value (m.type x) (evaluate ρ (m.tree r)) in
      let unseen : Agree (among m S) never ρ (with_after ρ x v) = record { present = λ y t. refl; after = λ y t. absurd t } in
      let assigned : wrap (m.type x) (override m.type ρ.after x v x) ≡ evaluate ρ (m.tree r) =
      ap (wrap (m.type x)) (override_same m.type ρ.after x v) ∙ sym (evaluate_typed m ρ r s.1) in
      (v, eq_equal_value _ _ (assigned ∙ evaluate_agree ρ (with_after ρ x v) unseen (m.tree r) s.0))
  after_value (becomes_such_that r) q s f = choose_after ρ x (m.tree r) (subst (λ A. Holds ρ (some_after_value x (action_tree m A x))) q (all_head f ρ h))

module _ (m : Machine) (ro : Role) (e : ℕ) (see : EventSees m ro e) (valid : EventValid m ro e) (c a k p : State m) (z : Shares m ro a k)
    (b : (n : State m) → All (Meets m (world m c a k p p n n)) (base m ro)) where
  -- the world of the sequents, in which both machines have the event's parameters and after values
  abbrev at : State m → Env m.type
  at n = world m c a k p p n n

  abbrev own : State m
  own = own_state m ro a k

  parameters : T (not_initial m ro) → own_state m ro p p ≡ p
  parameters t = own_same m ro p

  alike : {n : State m} → Shares m ro n n
  alike {n} t = same_shared m n

  guards_defined_lem : NoneUndefined m (view m ro c own p (blank m)) (m.guards e)
  guards_defined_lem =
      none_undefined_agree m (at (blank m)) _ (guard_agree m ro c a k p p _ _ p parameters z (blank m)) see.guards
      (in_order_defined m (at (blank m)) e (base m ro) (m.guards e) valid.guards (b (blank m)))

  module _ (en : Enabled m ro e c own p) where
    chosen : (x : ℕ) → In x (own_variables m ro) → (v : Value (m.type x)) × True (with_after (at (blank m)) x v) (action_tree m (m.action e x) x)
    chosen x i =
        after_value m (own_kinds ro) e x (at (blank m)) (guarded m ro e) (enabled_guarded m ro e see c a k p p _ _ p parameters z alike (b (blank m)) en)
        (m.action e x) refl (all_at see.actions i) (all_at valid.feasible i)

    results : (s : State m) × ((x : ℕ) → In x (own_variables m ro) → True (with_after (at (blank m)) x (s x)) (action_tree m (m.action e x) x))
    results = values_found m (own_variables m ro) (λ x v. True (with_after (at (blank m)) x v) (action_tree m (m.action e x) x)) chosen

    result : State m
    result = results.0

    result_agree : (x : ℕ) → Variable m (variable_kind ro) x → Agree (among m (own_kinds ro)) (eqb x) (with_after (at (blank m)) x (result x)) (at result)
    result_agree x kx = record {
      present = λ y t. refl;
      after = λ y t. subst (λ z. override m.type (at (blank m)).after x (result x) z ≡ (at result).after z) (eqb→eq x y t)
          (override_same m.type (at (blank m)).after x (result x)
          ∙ sym (world_after m ro c a k p p result result alike x kx ∙ ap (λ s. s x) (own_same m ro result)));
    }

    successor : (s' : State m) × Step m ro e c own p s'
    unfolding result
    successor = (
      result,
      subst (λ s. Step m ro e c own p s) (own_same m ro result)
          (moved_step m ro e see c a k p p result result p parameters z alike valid (b result) (enabled_true m ro e see c a k p p result result p parameters z alike en)
          (all_in (own_variables m ro) (λ x i.
          action_true_agree m (own_kinds ro) x _ (at result) (result_agree x (all_at see.kind i)) (m.action e x) (all_at see.actions i) (results.1 x i)))),
    )

    all_defined : (s' : State m) → All (λ x. ActionDefined m (view m ro c own p s') (m.action e x)) (own_variables m ro)
    all_defined s' = all_in (own_variables m ro) (λ x i.
        subst (λ s. ActionDefined m (view m ro c own p s) (m.action e x)) (own_same m ro s')
        (actions_defined_lem m ro e see c a k p p s' s' p parameters z alike valid (b s') (enabled_true m ro e see c a k p p s' s' p parameters z alike en) x i))

  pub event_safe : EventSafe m ro e c own p
  event_safe = record { guards_defined = guards_defined_lem; actions_defined = all_defined; successor = successor }

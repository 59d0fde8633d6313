-- Values of the abstract parameters and abstract after values that meet all witnesses of a concrete event at once. WFIS promises a value for each
-- witness by itself; a witness mentions no hidden identifier but its own, so the values found one by one meet the witnesses together.
use mathlib.Core.Path.{◌≡◌, refl, sym, ◌∙◌, subst}
use mathlib.Core.Bool.{Bool, true, false, not, ◌||◌}
use mathlib.Core.List.{List, map}
use mathlib.Core.Logic.{⊎_elim}
use Prim.Native.Nat.{ℕ}
use lib.Dec.{T, eqb, eqb→eq}
use Rattle.lists.specs.Choice.{pick}
use Rattle.lists.specs.All.{All, In}
use Rattle.lists.proofs.All.{all_head, all_tail, all_at, all_in, all_imp, all_map, in_map}
use Rattle.lists.proofs.Below.{in_keep}
use Rattle.lists.proofs.Choice.{chosen as chosen_first, not_chosen}
use Rattle.lists.proofs.Keep.{all_keep}
use Rattle.formula.specs.Values.{Value}
use Rattle.formula.specs.Tree.{Tree}
use Rattle.formula.specs.Evaluate.{Env, with_present, with_after, override, True}
use Rattle.formula.specs.Formula.{some_value, some_after_value, Holds}
use Rattle.formula.proofs.Truth.{or_either, test_true}
use Rattle.formula.proofs.Mentions.{Agree}
use Rattle.formula.proofs.Override.{override_same, override_other}
use Rattle.formula.proofs.Choose.{choose_present, choose_after}
use Rattle.machine.specs.Machine.{Kind, constant_kind, abstractVariable, concreteVariable, abstractParameter, concreteParameter, sharedVariable, is_variable, is_shared}
use Rattle.machine.specs.Machine.{Machine, Role, shared_variables}
use Rattle.sequent.specs.Entry.{written, witnessed, variable, witness_tree}
use Rattle.sequent.specs.Sequent.{Meets, Valid, sequent, WFIS}
use Rattle.sequent.specs.Listed.{guarded, moved, witness_entries, parameter_witnesses}
use Rattle.run.specs.Run.{State, blank, world, AgreeOnShared}
use Rattle.run.proofs.WellFormed.{concrete_event_kinds, concrete_variable_kinds, hidden_kinds, WitnessSees}
use Rattle.run.proofs.Agreement.{true_agree}
use Rattle.run.proofs.Views.{by_kind_agree}
use Rattle.run.proofs.Events.{EventValid}
use Rattle.run.proofs.Valuations.{values_found}

-- valuations that agree on a set of kinds, with the identifier x beside it
module _ (m : Machine) (S : Kind → Bool) (x : ℕ) (f g : State m) (same : (y : ℕ) → T (S (m.kind y)) → f y ≡ g y) where
  beside : f x ≡ g x → (y : ℕ) → T (S (m.kind y) || eqb y x) → f y ≡ g y
  beside e y t = ⊎_elim (same y) (λ s. subst (λ z. f z ≡ g z) (sym (eqb→eq y x s)) e) (or_either (S (m.kind y)) (eqb y x) t)

  replaced : (T (S (m.kind x)) → ⊥) → (v : Value (m.type x)) → v ≡ g x → (y : ℕ) → T (S (m.kind y) || eqb y x) → override m.type f x v y ≡ g y
  replaced n v e y t =
      ⊎_elim (λ s. override_other m.type f x v y (λ q. n (subst (λ z. T (S (m.kind z))) q s)) ∙ same y s)
      (λ s. subst (λ z. override m.type f x v z ≡ g z) (sym (eqb→eq y x s)) (override_same m.type f x v ∙ e))
      (or_either (S (m.kind y)) (eqb y x) t)

module _ (m : Machine) where
  -- the identifiers that an event's witnesses are for
  abbrev targets : ℕ → List ℕ
  targets e = map (λ w. w.target) (m.witnesses e)

  -- a hidden identifier's value put in: an after value of an abstract variable, the value of an abstract parameter
  abbrev put : Kind → Env m.type → (x : ℕ) → Value (m.type x) → Env m.type
  put constant_kind ρ x v = ρ
  put abstractVariable ρ x v = with_after ρ x v
  put concreteVariable ρ x v = ρ
  put abstractParameter ρ x v = with_present ρ x v
  put concreteParameter ρ x v = ρ
  put sharedVariable ρ x v = ρ

  put_value : (ρ : Env m.type) (x : ℕ) (t : Tree) (K : Kind) → T (hidden_kinds K) →
      Holds ρ (pick (is_variable K) (some_after_value x t) (some_value x t)) → (v : Value (m.type x)) × True (put K ρ x v) t
  put_value ρ x t constant_kind h z = absurd h
  put_value ρ x t abstractVariable h z = choose_after ρ x t z
  put_value ρ x t concreteVariable h z = absurd h
  put_value ρ x t abstractParameter h z = choose_present ρ x t z
  put_value ρ x t concreteParameter h z = absurd h
  put_value ρ x t sharedVariable h z = absurd h

  -- a hidden identifier is not shared
  hidden_unshared : (K : Kind) → T (hidden_kinds K) → is_shared K ≡ false
  hidden_unshared constant_kind h = absurd h
  hidden_unshared abstractVariable h = refl
  hidden_unshared concreteVariable h = absurd h
  hidden_unshared abstractParameter h = refl
  hidden_unshared concreteParameter h = absurd h
  hidden_unshared sharedVariable h = absurd h

-- a concrete step beside the abstract state a, before the hidden values are known, and with the hidden values w
module _ (m : Machine) (c a k p k' : State m) where
  abbrev pub unmatched : Env m.type
  unmatched = world m c a k (blank m) p (blank m) k'

  abbrev pub matched : State m → Env m.type
  matched w = world m c a k w p w k'

  put_agree : (w : State m) (x : ℕ) (K : Kind) → m.kind x ≡ K → T (hidden_kinds K) →
      Agree (λ y. concrete_event_kinds (m.kind y) || eqb y x) (λ y. concrete_variable_kinds (m.kind y) || eqb y x)
      (put m K unmatched x (w x)) (matched w)
  put_agree w x K kx h = record { present = before K kx h; after = later K kx h }
    where
      seen : (y : ℕ) → T (concrete_event_kinds (m.kind y)) → unmatched.present y ≡ (matched w).present y
      seen y t = by_kind_agree concrete_event_kinds (m.kind y) (λ s. refl) (λ s. absurd s) (λ s. refl) (λ s. absurd s) (λ s. refl) (λ e s. refl) t

      seen_after_lem : (y : ℕ) → T (concrete_variable_kinds (m.kind y)) → unmatched.after y ≡ (matched w).after y
      seen_after_lem y t =
          by_kind_agree concrete_variable_kinds (m.kind y) (λ s. absurd s) (λ s. absurd s) (λ s. refl) (λ s. absurd s) (λ s. absurd s) (λ e s. refl) t

      before : (K : Kind) → m.kind x ≡ K → T (hidden_kinds K) → (y : ℕ) → T (concrete_event_kinds (m.kind y) || eqb y x) →
          (put m K unmatched x (w x)).present y ≡ (matched w).present y
      before constant_kind kx h = absurd h
      before abstractVariable kx h = beside m concrete_event_kinds x unmatched.present (matched w).present seen (rw kx)
      before concreteVariable kx h = absurd h
      before abstractParameter kx h =
          replaced m concrete_event_kinds x unmatched.present (matched w).present seen (rw kx (λ t. t)) (w x) (rw kx)
      before concreteParameter kx h = absurd h
      before sharedVariable kx h = absurd h

      later : (K : Kind) → m.kind x ≡ K → T (hidden_kinds K) → (y : ℕ) → T (concrete_variable_kinds (m.kind y) || eqb y x) →
          (put m K unmatched x (w x)).after y ≡ (matched w).after y
      later constant_kind kx h = absurd h
      later abstractVariable kx h =
          replaced m concrete_variable_kinds x unmatched.after (matched w).after seen_after_lem (rw kx (λ t. t)) (w x) (rw kx)
      later concreteVariable kx h = absurd h
      later abstractParameter kx h = beside m concrete_variable_kinds x unmatched.after (matched w).after seen_after_lem (rw kx)
      later concreteParameter kx h = absurd h
      later sharedVariable kx h = absurd h

  module _ (ro : Role) (e : ℕ) (see : All (WitnessSees m e) (m.witnesses e)) (valid : EventValid m ro e)
      (g : All (Meets m unmatched) (guarded m ro e)) (mv : All (Meets m unmatched) (moved m ro e)) where
    hidden : All (λ x. T (hidden_kinds (m.kind x))) (targets m e)
    hidden = all_map (λ w. w.target) (all_imp (λ w s. s.hidden) see)

    promised : All (λ x. Valid m (sequent WFIS e x (pick (variable m x) (moved m ro e) (guarded m ro e)) (witnessed e x))) (targets m e)
    promised = all_map (λ w. w.target) (all_imp (λ w v. all_head (all_tail v)) valid.witnesses)

    under : (b : Bool) → All (Meets m unmatched) (pick b (moved m ro e) (guarded m ro e))
    under true = mv
    under false = g

    chosen : (x : ℕ) → In x (targets m e) → (v : Value (m.type x)) × True (put m (m.kind x) unmatched x v) (witness_tree m e x)
    unfolding Valid
    chosen x i = put_value m unmatched x (witness_tree m e x) (m.kind x) (all_at hidden i) (all_at promised i unmatched (under (variable m x)))

    found : (w : State m) × ((x : ℕ) → In x (targets m e) → True (put m (m.kind x) unmatched x (w x)) (witness_tree m e x))
    found = values_found m (targets m e) (λ x v. True (put m (m.kind x) unmatched x v) (witness_tree m e x)) chosen

    -- with the concrete machine's after values of the shared variables
    pub hidden_values : State m
    hidden_values x = pick (is_shared (m.kind x)) (k' x) (found.0 x)

    pub shared_values : AgreeOnShared m hidden_values k'
    unfolding hidden_values
    shared_values = all_in (shared_variables m) (λ x i.
        chosen_first (is_shared (m.kind x)) _ _ (test_true _ (in_keep (λ x. is_shared (m.kind x)) m.abstract_variables i).1))

    hidden_true : (x : ℕ) → In x (targets m e) → True (put m (m.kind x) unmatched x (hidden_values x)) (witness_tree m e x)
    unfolding hidden_values
    hidden_true x i =
        subst (λ v. True (put m (m.kind x) unmatched x v) (witness_tree m e x))
        (sym (not_chosen (is_shared (m.kind x)) _ _ (hidden_unshared m (m.kind x) (all_at hidden i)))) (found.1 x i)

    witnesses_true : All (λ w. Meets m (matched hidden_values) (written w.root)) (m.witnesses e)
    witnesses_true = all_in (m.witnesses e) (λ w i.
        let s = all_at see i in
        true_agree m _ (matched hidden_values) (put_agree hidden_values w.target (m.kind w.target) refl s.hidden) (m.tree w.root) s.mentioned
        (subst (λ r. True (put m (m.kind w.target) unmatched w.target (hidden_values w.target)) (m.tree r)) s.found
        (hidden_true w.target (in_map (λ w. w.target) i))))

    pub entries_true : All (Meets m (matched hidden_values)) (witness_entries m (m.witnesses e))
    entries_true = all_map (λ w. written w.root) witnesses_true

    pub parameter_entries_true : All (Meets m (matched hidden_values)) (witness_entries m (parameter_witnesses m e))
    parameter_entries_true = all_map (λ w. written w.root) (all_keep (λ w. not (variable m w.target)) witnesses_true)

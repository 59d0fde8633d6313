-- A matched pair of states that agree on the shared variables and at which the axioms and all invariants are true: the base hypotheses of every event hold
-- there, and the pair is safe.
use mathlib.Core.Path.{refl}
use mathlib.Core.List.{[]}
use lib.Dec.{T}
use Rattle.lists.specs.All.{All, all_nil}
use Rattle.lists.proofs.All.{all_right, all_join, all_at, all_in, all_map}
use Rattle.formula.specs.Evaluate.{Env}
use Rattle.machine.specs.Machine.{Machine, Role, abstract_initialisation, abstract_ordinary, concrete_initialisation, refining, convergent, anticipated}
use Rattle.sequent.specs.Entry.{written, primed}
use Rattle.sequent.specs.Sequent.{Meets, Valid}
use Rattle.sequent.specs.Listed.{all_written, base, formulas, obligations}
use Rattle.run.specs.Run.{State, blank, world, AgreeOnShared}
use Rattle.run.specs.SafeRun.{not_initial, PairSafe}
use Rattle.run.proofs.WellFormed.{only_constants, abstract_state_kinds, concrete_state_kinds, both_state_kinds, WellFormed}
use Rattle.run.proofs.Reading.{AllTrue, well_defined_defined, in_order_read}
use Rattle.run.proofs.Agreement.{all_true_agree, defined_agree}
use Rattle.run.proofs.Views.{same_shared, world_agree}
use Rattle.run.proofs.Events.{event_sees_lem, formulas_valid, variants_valid, events_valid}
use Rattle.run.proofs.Successor.{event_safe}
use Rattle.run.proofs.AfterState.{after_true}

module _ (m : Machine) where
  -- the values of a pair of states, with no step
  abbrev pub pair_of : State m → State m → State m → Env m.type
  pair_of c a k = world m c a k (blank m) (blank m) (blank m) (blank m)

  -- the axioms are true of the constants
  abbrev pub AxiomsTrue : State m → Type 0
  AxiomsTrue c = AllTrue m (pair_of c (blank m) (blank m)) m.axioms

  pub record PairTrue (c a k : State m) : Type 0 where
    pub shared : AgreeOnShared m a k
    pub axioms : AxiomsTrue c
    pub abstract_invariants : AllTrue m (pair_of c a k) m.abstract_invariants
    pub concrete_invariants : AllTrue m (pair_of c a k) m.concrete_invariants

module _ (m : Machine) (wf : WellFormed m) where
  pub axioms_world : (c : State m) → AxiomsTrue m c → (a k q p a' k' : State m) → AllTrue m (world m c a k q p a' k') m.axioms
  axioms_world c h a k q p a' k' =
      all_true_agree m _ _
      (world_agree m only_constants c _ _ _ _ _ _ a k q p a' k' (λ t. absurd t) (λ t. absurd t) (λ t. absurd t) (λ t. absurd t) (λ t. absurd t))
      wf.axioms_see h

  -- abstract invariants mention nothing of the concrete state but the shared variables
  pub abstract_world : (c a k : State m) → PairTrue m c a k → (k₂ q p a' k' : State m) → AgreeOnShared m k k₂
      → AllTrue m (world m c a k₂ q p a' k') m.abstract_invariants
  abstract_world c a k h k₂ q p a' k' z =
      all_true_agree m _ _
      (world_agree m abstract_state_kinds c a k _ _ _ _ a k₂ q p a' k' (λ t. refl) (λ t. absurd t) (λ t. absurd t) (λ t. absurd t) (λ t. z))
      wf.abstract_invariants_see h.abstract_invariants

  concrete_world : (c a k : State m) → PairTrue m c a k → (q p a' k' : State m) → AllTrue m (world m c a k q p a' k') m.concrete_invariants
  concrete_world c a k h q p a' k' =
      all_true_agree m _ _
      (world_agree m both_state_kinds c a k _ _ _ _ a k q p a' k' (λ t. refl) (λ t. refl) (λ t. absurd t) (λ t. absurd t) (λ t. same_shared m k))
      wf.concrete_invariants_see h.concrete_invariants

  -- the base hypotheses of every event that is no initialisation are true
  pub base_true : (c a k : State m) → PairTrue m c a k → (q p a' k' : State m) (ro : Role) → T (not_initial m ro)
      → All (Meets m (world m c a k q p a' k')) (base m ro)
  base_true c a k h q p a' k' ro l = go ro l
    where
      axioms : All (Meets m (world m c a k q p a' k')) (all_written m m.axioms)
      axioms = all_map written (axioms_world c h.axioms a k q p a' k')

      abstract : All (Meets m (world m c a k q p a' k')) (all_written m m.abstract_invariants)
      abstract = all_map written (abstract_world c a k h k q p a' k' (same_shared m k))

      concrete : All (Meets m (world m c a k q p a' k')) (all_written m m.concrete_invariants)
      concrete = all_map written (concrete_world c a k h q p a' k')

      go : (ro : Role) → T (not_initial m ro) → All (Meets m (world m c a k q p a' k')) (base m ro)
      go abstract_initialisation l = absurd l
      go abstract_ordinary l = all_join axioms abstract
      go (concrete_initialisation f) l = absurd l
      go (refining f) l = all_join axioms (all_join abstract concrete)
      go convergent l = all_join axioms (all_join abstract concrete)
      go anticipated l = all_join axioms (all_join abstract concrete)

  -- the goals of INV, in the world of a step, say that the invariants are true at the pair after it
  module _ (c a k q p a' k' : State m) where
    pub abstract_after_lem : All (λ r. Meets m (world m c a k q p a' k') (primed r)) m.abstract_invariants → AllTrue m (pair_of m c a' k') m.abstract_invariants
    abstract_after_lem ts =
        after_true m abstract_state_kinds (λ t. t) (λ t. t) c a k q p a' k' a' (λ t. refl) wf.abstract_invariants_see ts

    pub concrete_after : All (λ r. Meets m (world m c a k q p a' k') (primed r)) m.concrete_invariants → AllTrue m (pair_of m c a' k') m.concrete_invariants
    concrete_after ts =
        after_true m both_state_kinds (λ t. t) (λ t. t) c a k q p a' k' a' (λ t. refl) wf.concrete_invariants_see ts

  module _ (vs : All (Valid m) (obligations m)) where
    pub pair_safe : (c a k : State m) → PairTrue m c a k → PairSafe m c a k
    unfolding Valid
    pair_safe c a k h =
        let ρ : Env m.type = pair_of m c a k in
        let ts : AllTrue m ρ (formulas m) = all_join (axioms_world c h.axioms a k _ _ _ _) (all_join h.abstract_invariants h.concrete_invariants) in
        record {
          shared = h.shared;
          invariants = all_right m.axioms (in_order_read m ρ 0 [] (formulas m) (formulas_valid m vs) all_nil ts);
          variant = all_in m.variants (λ r i.
              defined_agree m ρ (pair_of m c (blank m) k)
              (world_agree m concrete_state_kinds c a k _ _ _ _ (blank m) k _ _ _ _ (λ t. absurd t) (λ t. refl) (λ t. absurd t) (λ t. absurd t)
              (λ t. same_shared m k))
              r (all_at wf.variants_see i) (well_defined_defined m ρ r (all_at (variants_valid m vs) i ρ (all_map written ts))));
          events = λ e i l p.
              event_safe m (m.role e) e (event_sees_lem m wf e i refl) (events_valid m vs e i refl) c a k p (λ t. h.shared) (λ n. base_true c a k h p p n n (m.role e) l);
        }

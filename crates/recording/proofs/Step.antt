-- A step whose values are stored has no fault exactly where it is a step of the run that has these values, and no term met leaves 64 bits.
use Prim.Native.Nat.{ℕ, ◌+◌}
use mathlib.Core.Path.{◌≡◌, refl, sym, ap, ◌∙◌, subst}
use mathlib.Core.Bool.{Bool, true, false, not, ◌&&◌, ◌||◌}
use mathlib.Core.List.{List, [], ◌++◌, map}
use native.Mathlib.Omega.{arith}
use lib.Dec.{T, eqb, eqb→eq}
use lib.IntN.{ℤ}
use Rattle.lists.specs.Choice.{pick}
use Rattle.lists.specs.All.{All, all_nil, In}
use Rattle.lists.proofs.All.{all_in, all_at, all_left, all_right, all_join, all_map, all_unmap}
use Rattle.formula.specs.Evaluate.{Env}
use Rattle.formula.specs.Mentions.{mentions}
use Rattle.formula.proofs.Truth.{and_split, and_join, or_cases, test_true}
use Rattle.formula.proofs.Mentions.{Agree}
use Rattle.answer.specs.Stored.{stored, stored_env}
use Rattle.table.specs.Names.{is_variable_of}
use Rattle.table.specs.Rows.{Rows, named, kind_of, owner_of, machine_number, class_of, refined_by}
use Rattle.machine.specs.Machine.{Role, abstract_initialisation, abstract_ordinary, concrete_initialisation, refining, convergent, anticipated, Machine}
use Rattle.machine.specs.Described.{kind_numbered, role_numbered, machine_of}
use Rattle.machine.proofs.Described.{variable_named}
use Rattle.machine.proofs.Roles.{RoleSays}
use Rattle.rules.specs.Sight.{has_kind, has_variable_kind, own_parameter, present_variable, event_sees}
use Rattle.rules.proofs.Obeys.{Obeys}
use Rattle.rules.proofs.Events.{event_says}
use Rattle.rules.proofs.Identifiers.{parameter_owner}
use Rattle.run.specs.Run.{by_kind, State, blank, world, AllReadTrue, Allows, Step}
use Rattle.recording.specs.Rows.{is_initial, is_state_variable}
use Rattle.recording.specs.Faults.{no_fault, untrue, not_allowed, step_fault}
use Rattle.recording.specs.Recorded.{ActionInside, AllInside, StepInside, constants_alone}
use Rattle.recording.proofs.Faults.{first_none, none_first}
use Rattle.recording.proofs.Sight.{never, sees, a_constant, ActionSeen, axioms_seen, guards_seen, action_seen}
use Rattle.recording.proofs.Judged.{predicates_judged, judged_predicates, action_judged, judged_action}

module _ (t : Rows) where
  abbrev machine : Machine
  machine = machine_of t

  -- the stored values are, where the event e reads or sets them, constants c, the state s, the parameters q and the state k after the step
  pub record Held (e : ℕ) (present after : List ℤ) (c s q k : State machine) : Type 0 where
    pub constants : (x : ℕ) → T (named t 10 x) → kind_of t x ≡ 1 → stored machine.type present x ≡ c x
    pub variables : T (not (is_initial t e)) → (x : ℕ) → T (named t 10 x) → T (is_state_variable t x) → stored machine.type present x ≡ s x
    pub parameters : (x : ℕ) → T (named t 10 x) → kind_of t x ≡ 5 → owner_of t x ≡ e → stored machine.type present x ≡ q x
    pub after_values : (x : ℕ) → T (named t 10 x) → T (is_state_variable t x) → stored machine.type after x ≡ k x

  -- what a step without a fault is
  pub record Allowed (ro : Role) (e : ℕ) (c s q k : State machine) : Type 0 where
    pub axioms : T (is_initial t e) → AllReadTrue machine (constants_alone t c) machine.axioms × AllInside t (constants_alone t c) machine.axioms
    pub step : Step machine ro e c s q k
    pub inside : StepInside t ro e c s q k

  -- the variables of the concrete machine
  abbrev pub a_variable : ℕ → Bool
  a_variable x = named t 10 x && is_state_variable t x

  pub variable_in : (x : ℕ) → In x machine.concrete_variables → T (a_variable x)
  unfolding machine_of
  variable_in x i = let p = variable_named t 3 x i in and_join (named t 10 x) (is_state_variable t x) p.0 p.1

  -- a value by the kind of a variable, or of another identifier
  by_variable : {A : Type 0} (k : ℕ) (c a s q p z : A) → T (is_variable_of 3 k) → (w : A) → w ≡ s → w ≡ z → w ≡ by_kind (kind_numbered k) c a s q p z
  unfolding kind_numbered
  by_variable k c a s q p z h w e f =
      or_cases (eqb k 3) (eqb k 6) h
      (λ i. subst (λ k. w ≡ by_kind (kind_numbered k) c a s q p z) (sym (eqb→eq k 3 i)) e)
      (λ i. subst (λ k. w ≡ by_kind (kind_numbered k) c a s q p z) (sym (eqb→eq k 6 i)) f)

  by_constant : {A : Type 0} (k : ℕ) (c a s q p z : A) → k ≡ 1 → (w : A) → w ≡ c → w ≡ by_kind (kind_numbered k) c a s q p z
  unfolding kind_numbered
  by_constant k c a s q p z i w e = subst (λ k. w ≡ by_kind (kind_numbered k) c a s q p z) (sym i) e

  by_parameter : {A : Type 0} (k : ℕ) (c a s q p z : A) → k ≡ 5 → (w : A) → w ≡ p → w ≡ by_kind (kind_numbered k) c a s q p z
  unfolding kind_numbered
  by_parameter k c a s q p z i w e = subst (λ k. w ≡ by_kind (kind_numbered k) c a s q p z) (sym i) e

  module _ (ok : Obeys t) (e : ℕ) (n : T (named t 40 e)) (concrete : machine_number t e ≡ 2) (present after : List ℤ) (c s q k : State machine) (held : Held e present after c s q k) where
    abbrev before : Env machine.type
    before = stored_env machine.type present []

    abbrev both : Env machine.type
    both = stored_env machine.type present after

    -- what an event of the concrete machine reads
    abbrev reads : State machine → Env machine.type
    reads k' = world machine c (blank machine) s (blank machine) q (blank machine) k'

    agree_present : (k' : State machine) (x : ℕ) → T (sees t e x) → stored machine.type present x ≡ (reads k').present x
    unfolding machine_of
    agree_present k' x h =
        let p = and_split (named t 10 x) (event_sees t e x) h in
        or_cases (has_kind t 1 x) (own_parameter t e x || present_variable t e x) p.1
        (λ i. by_constant (kind_of t x) _ _ _ _ _ _ (eqb→eq (kind_of t x) 1 i) _ (held.constants x p.0 (eqb→eq (kind_of t x) 1 i)))
        (λ i. or_cases (own_parameter t e x) (present_variable t e x) i
        (λ i. let j : kind_of t x ≡ 5 = (parameter_owner t ok e x p.0 i).0 ∙ ap (λ m. 3 + m) concrete in
        let o = and_split (has_kind t 4 x || has_kind t 5 x) (eqb (owner_of t x) e) i in
        by_parameter (kind_of t x) _ _ _ _ _ _ j _ (held.parameters x p.0 j (eqb→eq (owner_of t x) e o.1)))
        (λ i. let j = and_split (has_variable_kind t (1 + machine_number t e) x) (not (eqb (class_of t e) 0)) i in
        let v : T (is_state_variable t x) = subst (λ m. T (is_variable_of (1 + m) (kind_of t x))) concrete j.0 in
        let w = held.variables j.1 x p.0 v in
        by_variable (kind_of t x) _ _ _ _ _ _ v _ w w))

    pub agree_before : Agree (sees t e) never before (reads (blank machine))
    agree_before = record { present = agree_present (blank machine); after = λ x z. absurd z }

    pub agree_both : Agree (sees t e) a_variable both (reads k)
    unfolding machine_of
    agree_both = record {
      present = agree_present k;
      after = λ x h. let p = and_split (named t 10 x) (is_state_variable t x) h in
          let w = held.after_values x p.0 p.1 in
          by_variable (kind_of t x) _ _ _ _ _ _ p.1 _ w w;
    }

    pub agree_constants : Agree (a_constant t) never before (constants_alone t c)
    unfolding machine_of
    agree_constants = record {
      present = λ x h. let p = and_split (named t 10 x) (has_kind t 1 x) h in
          let i = eqb→eq (kind_of t x) 1 p.1 in
          by_constant (kind_of t x) _ _ _ _ _ _ i _ (held.constants x p.0 i);
      after = λ x z. absurd z;
    }

    pub seen_action : (x : ℕ) → In x machine.concrete_variables → ActionSeen machine.tree (sees t e) x (machine.action e x)
    unfolding machine_of
    seen_action x i =
        let p = variable_named t 3 x i in
        action_seen t ok e x n p.0 (subst (λ m. T (is_variable_of (1 + m) (kind_of t x))) (sym concrete) p.1)

    pub seen_axioms : All (λ r. T (mentions (a_constant t) never (machine.tree r))) machine.axioms
    unfolding machine_of
    seen_axioms = axioms_seen t ok

    pub seen_guards : All (λ r. T (mentions (sees t e) never (machine.tree r))) (machine.guards e)
    unfolding machine_of
    seen_guards = guards_seen t ok e

    -- ---- the three lists of faults
    abbrev axiom_faults : List ℕ
    axiom_faults = map (untrue before machine.tree) machine.axioms

    abbrev guard_faults : List ℕ
    guard_faults = map (untrue before machine.tree) (machine.guards e)

    abbrev action_faults : List ℕ
    action_faults = map (λ x. not_allowed both machine.tree x (machine.action e x)) machine.concrete_variables

    abbrev None : List ℕ → Type 0
    None fs = All (λ f. f ≡ no_fault) fs

    pub record NoFaults : Type 0 where
      axioms_none : T (is_initial t e) → None axiom_faults
      guards_none_of : None guard_faults
      actions_none : None action_faults

    faults_none : step_fault t e present after ≡ no_fault → NoFaults
    unfolding step_fault
    faults_none h =
        let a = first_none _ h in
        let initial : List ℕ = pick (is_initial t e) axiom_faults [] in
        let rest = all_right initial a in
        record {
          axioms_none = λ i. subst (λ b. None (pick b axiom_faults [])) (test_true (is_initial t e) i) (all_left initial (guard_faults ++ action_faults) a);
          guards_none_of = all_left guard_faults action_faults rest;
          actions_none = all_right guard_faults rest;
        }

    none_faults : NoFaults → step_fault t e present after ≡ no_fault
    unfolding step_fault
    none_faults h = none_first (all_join (where_initial (is_initial t e) h.axioms_none) (all_join h.guards_none_of h.actions_none))
      where
        where_initial : (b : Bool) → (T b → None axiom_faults) → None (pick b axiom_faults [])
        where_initial true f = f tt
        where_initial false f = all_nil

    -- ---- the step
    pub record Parts : Type 0 where
      axioms : T (is_initial t e) → AllReadTrue machine (constants_alone t c) machine.axioms × AllInside t (constants_alone t c) machine.axioms
      guards : AllReadTrue machine (reads (blank machine)) (machine.guards e) × AllInside t (reads (blank machine)) (machine.guards e)
      actions : All (λ x. Allows machine (reads k) x (machine.action e x)) machine.concrete_variables
          × All (λ x. ActionInside t (reads k) (machine.action e x)) machine.concrete_variables

    parts_judged : NoFaults → Parts
    parts_judged h = record {
      axioms = λ i. predicates_judged t before (constants_alone t c) agree_constants machine.axioms seen_axioms (h.axioms_none i);
      guards = predicates_judged t before (reads (blank machine)) agree_before (machine.guards e) seen_guards h.guards_none_of;
      actions =
          let faults = all_unmap (λ x. not_allowed both machine.tree x (machine.action e x)) machine.concrete_variables h.actions_none in (
            all_in machine.concrete_variables (λ x i. (action_judged t both (reads k) agree_both x (variable_in x i) (machine.action e x) (seen_action x i) (all_at faults i)).0),
            all_in machine.concrete_variables (λ x i. (action_judged t both (reads k) agree_both x (variable_in x i) (machine.action e x) (seen_action x i) (all_at faults i)).1),
          );
    }

    judged_parts : Parts → NoFaults
    judged_parts h = record {
      axioms_none = λ i. judged_predicates t before (constants_alone t c) agree_constants machine.axioms seen_axioms (h.axioms i).0 (h.axioms i).1;
      guards_none_of = judged_predicates t before (reads (blank machine)) agree_before (machine.guards e) seen_guards h.guards.0 h.guards.1;
      actions_none = all_map (λ x. not_allowed both machine.tree x (machine.action e x)) (all_in machine.concrete_variables (λ x i.
          judged_action t both (reads k) agree_both x (variable_in x i) (machine.action e x) (seen_action x i) (all_at h.actions.0 i) (all_at h.actions.1 i)));
    }

    -- by the role of a concrete event
    abbrev Says : Role → Type 0
    Says ro = RoleSays (machine_number t e) (class_of t e) (refined_by t e) ro

    parts_allowed : (ro : Role) → Says ro → Parts → Allowed ro e c s q k
    parts_allowed abstract_initialisation r h = absurd (let z : machine_number t e ≡ 1 = r.0 in omega (arith, concrete))
    parts_allowed abstract_ordinary r h = absurd (let z : machine_number t e ≡ 1 = r.0 in omega (arith, concrete))
    parts_allowed (concrete_initialisation f) r h = record {
      axioms = h.axioms;
      step = record { enabled = h.guards.0; allowed = h.actions.0 };
      inside = record { guards = h.guards.1; actions = h.actions.1 };
    }
    parts_allowed (refining f) r h = record {
      axioms = h.axioms;
      step = record { enabled = h.guards.0; allowed = h.actions.0 };
      inside = record { guards = h.guards.1; actions = h.actions.1 };
    }
    parts_allowed convergent r h = record {
      axioms = h.axioms;
      step = record { enabled = h.guards.0; allowed = h.actions.0 };
      inside = record { guards = h.guards.1; actions = h.actions.1 };
    }
    parts_allowed anticipated r h = record {
      axioms = h.axioms;
      step = record { enabled = h.guards.0; allowed = h.actions.0 };
      inside = record { guards = h.guards.1; actions = h.actions.1 };
    }

    allowed_parts : (ro : Role) → Says ro → Allowed ro e c s q k → Parts
    allowed_parts abstract_initialisation r h = absurd (let z : machine_number t e ≡ 1 = r.0 in omega (arith, concrete))
    allowed_parts abstract_ordinary r h = absurd (let z : machine_number t e ≡ 1 = r.0 in omega (arith, concrete))
    allowed_parts (concrete_initialisation f) r h =
        record { axioms = h.axioms; guards = (h.step.enabled, h.inside.guards); actions = (h.step.allowed, h.inside.actions) }
    allowed_parts (refining f) r h =
        record { axioms = h.axioms; guards = (h.step.enabled, h.inside.guards); actions = (h.step.allowed, h.inside.actions) }
    allowed_parts convergent r h =
        record { axioms = h.axioms; guards = (h.step.enabled, h.inside.guards); actions = (h.step.allowed, h.inside.actions) }
    allowed_parts anticipated r h =
        record { axioms = h.axioms; guards = (h.step.enabled, h.inside.guards); actions = (h.step.allowed, h.inside.actions) }

    abbrev says : Says (role_numbered (machine_number t e) (class_of t e) (refined_by t e))
    says = event_says t ok e (role_numbered (machine_number t e) (class_of t e) (refined_by t e)) n refl

    -- the step is allowed exactly where it has no fault
    pub fault_allowed : step_fault t e present after ≡ no_fault → Allowed (machine.role e) e c s q k
    unfolding machine_of
    fault_allowed h = parts_allowed (machine.role e) says (parts_judged (faults_none h))

    pub allowed_fault : Allowed (machine.role e) e c s q k → step_fault t e present after ≡ no_fault
    unfolding machine_of
    allowed_fault h = none_faults (judged_parts (allowed_parts (machine.role e) says h))

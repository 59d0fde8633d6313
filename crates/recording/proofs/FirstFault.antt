-- A step whose values are stored has the number of a fault exactly where the run that has these values has that fault first. A list's first number that is a fault is
-- the first fault of its members; an answer's number is its formula's fault, at the stored values as at the run's, which agree on what the formula mentions.
use Prim.Native.Nat.{ℕ}
use mathlib.Core.Path.{◌≡◌, refl, sym, ap, ◌∙◌, subst}
use mathlib.Core.Bool.{Bool, true, false, true≢false}
use mathlib.Core.List.{List, [], ◌∷◌, ◌++◌, map}
use mathlib.Core.Logic.{◌⊎◌, inl, inr}
use native.Mathlib.Omega.{arith}
use lib.Dec.{T, eqb}
use lib.IntN.{ℤ}
use borrow.Author.Tests.{eqb-true, eq-eqb, ne_eqb}
use Rattle.lists.specs.Choice.{pick}
use Rattle.lists.specs.All.{All, all_nil, In, First, fault_here, fault_later}
use Rattle.lists.proofs.All.{all_at, first_nil, first_left, first_right, first_either, first_map, first_unmap}
use Rattle.formula.specs.Values.{AnyValue, truth, wrap, equal_value}
use Rattle.formula.specs.Tree.{Tree}
use Rattle.formula.specs.Evaluate.{Env}
use Rattle.formula.specs.Mentions.{mentions}
use Rattle.formula.proofs.Truth.{test_true, true_test}
use Rattle.formula.proofs.Values.{wrap_injective, equal_value_eq, eq_equal_value}
use Rattle.formula.proofs.Mentions.{Agree}
use Rattle.answer.specs.Answer.{Answer, value, outside, undefined, answer}
use Rattle.answer.specs.Stored.{stored_env}
use Rattle.answer.proofs.Answer.{answer_exact, answer_reads, reads_answer}
use Rattle.answer.proofs.Mentions.{answer_agree}
use Rattle.table.specs.Rows.{Rows, named, machine_number, class_of, refined_by}
use Rattle.machine.specs.Machine.{Action, unassigned, becomes_equal, becomes_such_that, Machine}
use Rattle.machine.specs.Machine.{Role, abstract_initialisation, abstract_ordinary, concrete_initialisation, refining, convergent, anticipated}
use Rattle.machine.specs.Described.{machine_of}
use Rattle.machine.proofs.Roles.{RoleSays}
use Rattle.sequent.specs.Required.{own_variables}
use Rattle.rules.proofs.Obeys.{Obeys}
use Rattle.rules.proofs.Events.{event_says}
use Rattle.run.specs.Run.{State, blank, world, view}
use Rattle.recording.specs.Rows.{is_initial}
use Rattle.recording.specs.Faults.{no_fault, log_fault, differs, fault_of, first_fault, untrue, not_allowed, step_fault}
use Rattle.recording.specs.Recorded.{constants_alone}
use Rattle.recording.specs.Refusal.{FormulaFault, outside_term, undefined_term, other_value, ActionFault, FirstUntrue, AxiomsMet}
use Rattle.recording.specs.Refusal.{StepFault, axiom_fault, guard_fault, action_at_fault}
use Rattle.recording.proofs.Sight.{never, sees, a_constant, ActionSeen}
use Rattle.recording.proofs.Judged.{agree_less, agree_own, formula_judged, judged_formula, predicates_judged, judged_predicates, action_judged, judged_action}
use Rattle.recording.proofs.Step.{Held, a_variable, variable_in, agree_before, agree_both, agree_constants, seen_action, seen_axioms, seen_guards}

-- ---- the first fault of a list of numbers
abbrev pub None : ℕ → Type 0
None f = f ≡ no_fault

abbrev pub Marks : ℕ → ℕ → Type 0
Marks f n = (f ≡ n) × ¬ (n ≡ no_fault)

pub number_first : (fs : List ℕ) (n : ℕ) → first_fault fs ≡ n → ¬ (n ≡ no_fault) → First None Marks fs n
unfolding first_fault
number_first [] n e h = absurd (h (sym e))
number_first (f ∷ fs) n e h = go (eqb f no_fault) refl e (number_first fs n)
  where
    go : (b : Bool) → eqb f no_fault ≡ b → pick b (first_fault fs) f ≡ n → (first_fault fs ≡ n → ¬ (n ≡ no_fault) → First None Marks fs n) → First None Marks (f ∷ fs) n
    go true z e rest = fault_later (eqb-true f no_fault z) (rest e h)
    go false z e rest = fault_here (e, h)

pub first_number : {fs : List ℕ} {n : ℕ} → First None Marks fs n → Marks (first_fault fs) n
unfolding first_fault
first_number (fault_here {x = f} {xs = fs} (e, h)) = (ap (λ b. pick b (first_fault fs) f) (ne_eqb f no_fault (λ z. h (sym e ∙ z))) ∙ e, h)
first_number (fault_later {x = f} {xs = fs} z r) = let p = first_number r in (ap (λ b. pick b (first_fault fs) f) (eq-eqb f no_fault z) ∙ p.0, p.1)

-- ---- one formula, which has to have the value v
log_marks : Marks log_fault log_fault
log_marks = (refl, λ e. let z : ◌≡◌ {A = ℕ} 18 0 = e in omega arith)

-- values that differ
number_differs : (v w : AnyValue) (n : ℕ) → Marks (differs v w) n → ¬ (v ≡ w) × (n ≡ log_fault)
number_differs v w n (e, h) = go (equal_value v w) refl e
  where
    go : (b : Bool) → equal_value v w ≡ b → pick b no_fault log_fault ≡ n → ¬ (v ≡ w) × (n ≡ log_fault)
    go true b e = absurd (h (sym e))
    go false b e = (λ q. true≢false (sym (test_true _ (eq_equal_value v w q)) ∙ b), sym e)

differs_number : (v w : AnyValue) → ¬ (v ≡ w) → Marks (differs v w) log_fault
differs_number v w h = go (equal_value v w) refl
  where
    go : (b : Bool) → equal_value v w ≡ b → Marks (pick b no_fault log_fault) log_fault
    go true b = absurd (h (equal_value_eq v w (true_test _ b)))
    go false b = log_marks

module _ (t : Rows) where
  abbrev machine : Machine
  machine = machine_of t

  abbrev tree : ℕ → Tree
  tree r = machine.tree r

  module _ {P Q : ℕ → Bool} (ρ σ : Env machine.type) (h : Agree P Q ρ σ) (r : ℕ) (s : T (mentions P Q (tree r))) (v : AnyValue) where
    number_formula : (n : ℕ) → Marks (fault_of v (answer ρ (tree r))) n → FormulaFault t σ r v n
    number_formula n m = go (answer ρ (tree r)) (sym (answer_agree ρ σ h (tree r) s)) m
      where
        go : (a : Answer) → answer σ (tree r) ≡ a → Marks (fault_of v a) n → FormulaFault t σ r v n
        go (value w) e m =
            let d = number_differs v w n m in
            let p = answer_reads σ (tree r) w e in
            subst (FormulaFault t σ r v) (sym d.1) (other_value w p.0 p.1 (λ q. d.0 (sym q)))
        go outside e (m, z) = subst (FormulaFault t σ r v) m (outside_term ((answer_exact σ (tree r) outside).0 e))
        go undefined e (m, z) = subst (FormulaFault t σ r v) m (undefined_term ((answer_exact σ (tree r) undefined).0 e))

    formula_number : {n : ℕ} → FormulaFault t σ r v n → Marks (fault_of v (answer ρ (tree r))) n
    formula_number {n} f = subst (λ a. Marks (fault_of v a) n) (sym (answer_agree ρ σ h (tree r) s)) (go f)
      where
        go : {n : ℕ} → FormulaFault t σ r v n → Marks (fault_of v (answer σ (tree r))) n
        go (outside_term f) = (ap (fault_of v) ((answer_exact σ (tree r) outside).1 f), λ e. let z : ◌≡◌ {A = ℕ} 16 0 = e in omega arith)
        go (undefined_term f) = (ap (fault_of v) ((answer_exact σ (tree r) undefined).1 f), λ e. let z : ◌≡◌ {A = ℕ} 17 0 = e in omega arith)
        go (other_value w e l d) = subst (λ a. Marks (fault_of v a) log_fault) (sym (reads_answer σ (tree r) w e l)) (differs_number v w (λ q. d (sym q)))

  -- ---- predicates that have to be true
  module _ {P Q : ℕ → Bool} (ρ σ : Env machine.type) (h : Agree P Q ρ σ) (rs : List ℕ) (seen : All (λ r. T (mentions P Q (tree r))) rs) {n : ℕ} where
    pub number_untrue : First None Marks (map (untrue ρ machine.tree) rs) n → FirstUntrue t σ rs n
    unfolding untrue
    number_untrue f =
        first_unmap (untrue ρ machine.tree) rs
        (λ r i e. formula_judged ρ σ h (tree r) (all_at seen i) (truth true) e)
        (λ r i m. number_formula ρ σ h r (all_at seen i) (truth true) n m) f

    pub untrue_number : FirstUntrue t σ rs n → First None Marks (map (untrue ρ machine.tree) rs) n
    unfolding untrue
    untrue_number f =
        first_map (untrue ρ machine.tree)
        (λ r i e. judged_formula ρ σ h (tree r) (all_at seen i) (truth true) e.0 e.1)
        (λ r i m. formula_number ρ σ h r (all_at seen i) (truth true) m) f

  -- ---- the action of one variable
  module _ {P Q : ℕ → Bool} (ρ σ : Env machine.type) (h : Agree P Q ρ σ) (x : ℕ) (variable : T (Q x)) where
    abbrev same : ρ.after x ≡ σ.after x
    same = h.after x variable

    number_action : {n : ℕ} (a : Action) → ActionSeen machine.tree P x a → Marks (not_allowed ρ machine.tree x a) n → ActionFault t σ x a n
    unfolding not_allowed untrue
    number_action {n} unassigned s m =
        let d = number_differs (wrap (machine.type x) (ρ.after x)) (wrap (machine.type x) (ρ.present x)) n m in
        (λ q. d.0 (ap (wrap (machine.type x)) (same ∙ q ∙ sym (h.present x s))), d.1)
    number_action {n} (becomes_equal r) s m =
        subst (λ w. FormulaFault t σ r (wrap (machine.type x) w) n) same (number_formula ρ σ (agree_less h) r s (wrap (machine.type x) (ρ.after x)) n m)
    number_action {n} (becomes_such_that r) s m = number_formula ρ σ (agree_own h x variable) r s (truth true) n m

    action_number : {n : ℕ} (a : Action) → ActionSeen machine.tree P x a → ActionFault t σ x a n → Marks (not_allowed ρ machine.tree x a) n
    unfolding not_allowed untrue
    action_number {n} unassigned s (d, e) =
        subst (Marks (differs (wrap (machine.type x) (ρ.after x)) (wrap (machine.type x) (ρ.present x)))) (sym e)
        (differs_number _ _ (λ q. d (sym same ∙ wrap_injective (machine.type x) (ρ.after x) (ρ.present x) q ∙ h.present x s)))
    action_number {n} (becomes_equal r) s f =
        formula_number ρ σ (agree_less h) r s (wrap (machine.type x) (ρ.after x)) (subst (λ w. FormulaFault t σ r (wrap (machine.type x) w) n) (sym same) f)
    action_number {n} (becomes_such_that r) s f = formula_number ρ σ (agree_own h x variable) r s (truth true) f

  -- ---- the step
  module _ (ok : Obeys t) (e : ℕ) (named_event : T (named t 40 e)) (concrete : machine_number t e ≡ 2) (present after : List ℤ) (c s q k : State machine)
      (held : Held t e present after c s q k) where
    abbrev before : Env machine.type
    before = stored_env machine.type present []

    abbrev both : Env machine.type
    both = stored_env machine.type present after

    -- what an event of the concrete machine reads, and the variables that it sets
    record Concrete (ro : Role) : Type 0 where
      sight : view machine ro c s q ≡ (λ k'. world machine c (blank machine) s (blank machine) q (blank machine) k')
      own : own_variables machine ro ≡ machine.concrete_variables

    concrete_role : (ro : Role) → RoleSays (machine_number t e) (class_of t e) (refined_by t e) ro → Concrete ro
    concrete_role abstract_initialisation r = absurd (let z : machine_number t e ≡ 1 = r.0 in omega (arith, concrete))
    concrete_role abstract_ordinary r = absurd (let z : machine_number t e ≡ 1 = r.0 in omega (arith, concrete))
    concrete_role (concrete_initialisation f) r = record { sight = refl; own = refl }
    concrete_role (refining f) r = record { sight = refl; own = refl }
    concrete_role convergent r = record { sight = refl; own = refl }
    concrete_role anticipated r = record { sight = refl; own = refl }

    abbrev axiom_faults : List ℕ
    axiom_faults = map (untrue before machine.tree) machine.axioms

    abbrev guard_faults : List ℕ
    guard_faults = map (untrue before machine.tree) (machine.guards e)

    abbrev action_fault : ℕ → ℕ
    action_fault x = not_allowed both machine.tree x (machine.action e x)

    constants_agree : Agree (a_constant t) never before (constants_alone t c)
    constants_agree = agree_constants t ok e named_event concrete present after c s q k held

    axioms_seen : All (λ r. T (mentions (a_constant t) never (tree r))) machine.axioms
    axioms_seen = seen_axioms t ok e named_event concrete present after c s q k held

    guards_seen : All (λ r. T (mentions (sees t e) never (tree r))) (machine.guards e)
    guards_seen = seen_guards t ok e named_event concrete present after c s q k held

    axioms_met : (b : Bool) → is_initial t e ≡ b → All None (pick b axiom_faults []) → AxiomsMet t e c
    axioms_met true i a j = predicates_judged t before (constants_alone t c) constants_agree machine.axioms axioms_seen a
    axioms_met false i a j = absurd (subst T i j)

    met_axioms : (b : Bool) → is_initial t e ≡ b → AxiomsMet t e c → All None (pick b axiom_faults [])
    met_axioms true i m = let a = m (true_test _ i) in judged_predicates t before (constants_alone t c) constants_agree machine.axioms axioms_seen a.0 a.1
    met_axioms false i m = all_nil

    module _ (ro : Role) (is : Concrete ro) where
      abbrev sight : State machine → Env machine.type
      sight k' = view machine ro c s q k'

      guards_agree : Agree (sees t e) never before (sight (blank machine))
      guards_agree = subst (λ ρ. Agree (sees t e) never before (ρ (blank machine))) (sym is.sight) (agree_before t ok e named_event concrete present after c s q k held)

      actions_agree : Agree (sees t e) (a_variable t) both (sight k)
      actions_agree = subst (λ ρ. Agree (sees t e) (a_variable t) both (ρ k)) (sym is.sight) (agree_both t ok e named_event concrete present after c s q k held)

      own_variable : (x : ℕ) → In x (own_variables machine ro) → In x machine.concrete_variables
      own_variable x i = subst (In x) is.own i

      action_seen : (x : ℕ) → In x (own_variables machine ro) → ActionSeen machine.tree (sees t e) x (machine.action e x)
      action_seen x i = seen_action t ok e named_event concrete present after c s q k held x (own_variable x i)

      -- the three lists of faults, one after the other
      number_parts : (b : Bool) {m : ℕ} → is_initial t e ≡ b → First None Marks (pick b axiom_faults [] ++ (guard_faults ++ map action_fault (own_variables machine ro))) m
          → StepFault t ro e c s q k m
      number_parts b {m} i f = either (first_either (pick b axiom_faults []) f)
        where
          earlier : (b : Bool) → is_initial t e ≡ b → First None Marks (pick b axiom_faults []) m → StepFault t ro e c s q k m
          earlier true i f = axiom_fault (true_test _ i) (number_untrue before (constants_alone t c) constants_agree machine.axioms axioms_seen f)
          earlier false i f = absurd (first_nil f)

          later : AxiomsMet t e c → First None Marks guard_faults m ⊎ (All None guard_faults × First None Marks (map action_fault (own_variables machine ro)) m) → StepFault t ro e c s q k m
          later a (inl f) = guard_fault a (number_untrue before (sight (blank machine)) guards_agree (machine.guards e) guards_seen f)
          later a (inr (g, f)) =
              action_at_fault a (predicates_judged t before (sight (blank machine)) guards_agree (machine.guards e) guards_seen g)
              (first_unmap action_fault (own_variables machine ro)
              (λ x i z. action_judged t both (sight k) actions_agree x (variable_in t x (own_variable x i)) (machine.action e x) (action_seen x i) z)
              (λ x i z. number_action both (sight k) actions_agree x (variable_in t x (own_variable x i)) (machine.action e x) (action_seen x i) z) f)

          either : First None Marks (pick b axiom_faults []) m ⊎ (All None (pick b axiom_faults []) × First None Marks (guard_faults ++ map action_fault (own_variables machine ro)) m)
              → StepFault t ro e c s q k m
          either (inl f) = earlier b i f
          either (inr (a, f)) = later (axioms_met b i a) (first_either guard_faults f)

      parts_number : (b : Bool) {m : ℕ} → is_initial t e ≡ b → StepFault t ro e c s q k m
          → First None Marks (pick b axiom_faults [] ++ (guard_faults ++ map action_fault (own_variables machine ro))) m
      parts_number b {m} i (axiom_fault j f) =
          first_left _ (subst (λ b. First None Marks (pick b axiom_faults []) m) (sym (test_true _ j) ∙ i) (untrue_number before (constants_alone t c) constants_agree machine.axioms axioms_seen f))
      parts_number b {m} i (guard_fault a f) =
          first_right (met_axioms b i a) (first_left _ (untrue_number before (sight (blank machine)) guards_agree (machine.guards e) guards_seen f))
      parts_number b {m} i (action_at_fault a g f) =
          first_right (met_axioms b i a) (first_right (judged_predicates t before (sight (blank machine)) guards_agree (machine.guards e) guards_seen g.0 g.1)
          (first_map action_fault
          (λ x i z. judged_action t both (sight k) actions_agree x (variable_in t x (own_variable x i)) (machine.action e x) (action_seen x i) z.0 z.1)
          (λ x i z. action_number both (sight k) actions_agree x (variable_in t x (own_variable x i)) (machine.action e x) (action_seen x i) z) f))

    concrete_event : Concrete (machine.role e)
    unfolding machine_of
    concrete_event = concrete_role (machine.role e) (event_says t ok e (machine.role e) named_event refl)

    -- the number of a step's fault is that of the fault that it has first
    pub number_fault : (m : ℕ) → step_fault t e present after ≡ m → ¬ (m ≡ no_fault) → StepFault t (machine.role e) e c s q k m
    unfolding step_fault
    number_fault m h z =
        let own = concrete_event.own in
        number_parts (machine.role e) concrete_event (is_initial t e) refl
        (subst (λ xs. First None Marks (pick (is_initial t e) axiom_faults [] ++ (guard_faults ++ map action_fault xs)) m) (sym own) (number_first _ m h z))

    pub fault_number : (m : ℕ) → StepFault t (machine.role e) e c s q k m → (step_fault t e present after ≡ m) × ¬ (m ≡ no_fault)
    unfolding step_fault
    fault_number m f =
        let own = concrete_event.own in
        first_number (subst (λ xs. First None Marks (pick (is_initial t e) axiom_faults [] ++ (guard_faults ++ map action_fault xs)) m) own
        (parts_number (machine.role e) concrete_event (is_initial t e) refl f))

-- A choice that is pressed on a state: what it reads and sets are the state's values, the chosen parameters, and after values that are by each action what a step of the
-- run needs. So it has no fault exactly where it is such a step, no term of which leaves 64 bits, and what it makes of the state is what that step leaves.
use Prim.Native.Nat.{ℕ, ◌-◌, ◌≤◌}
use mathlib.Core.Path.{◌≡◌, refl, sym, ap, ◌∙◌, subst}
use mathlib.Core.Bool.{Bool, true, false, ◌&&◌}
use mathlib.Core.List.{List, [], ◌∷◌, ◌++◌, map}
use native.Mathlib.Omega.{arith}
use lib.Dec.{T, eqb, eqb→eq}
use lib.IntN.{ℤ, pos}
use lib.ListN.{length, get_or}
use Rattle.lists.specs.Choice.{pick}
use Rattle.lists.specs.All.{All, all_nil, all_cons, In}
use Rattle.lists.specs.Below.{numbers}
use Rattle.lists.proofs.All.{all_head, all_left, all_right, all_join, all_at, map_same}
use Rattle.lists.proofs.Below.{in_numbers}
use Rattle.lists.proofs.Distinct.{Distinct, pairwise_keep, numbers_distinct}
use Rattle.row.specs.Reading.{Line}
use Rattle.formula.specs.Values.{Value, wrap}
use Rattle.formula.specs.Evaluate.{Env}
use Rattle.formula.proofs.Truth.{and_split, and_join, or_right, test_true, true_test}
use Rattle.formula.proofs.Mentions.{Agree}
use Rattle.answer.specs.Answer.{value, answer}
use Rattle.answer.specs.Stored.{stored_value, stored, stored_env}
use Rattle.answer.proofs.Answer.{reads_answer}
use Rattle.answer.proofs.Mentions.{answer_agree}
use Rattle.table.specs.Rows.{Rows, count, named, kind_of, owner_of, type_of, machine_number}
use Rattle.table.proofs.Sections.{named_bounds, bounds_named}
use Rattle.machine.specs.Machine.{Action, unassigned, becomes_equal, becomes_such_that, Machine}
use Rattle.machine.specs.Described.{action_of, variables_of, machine_of}
use Rattle.rules.proofs.Obeys.{Obeys}
use Rattle.rules.proofs.Full.{few_identifiers}
use Rattle.run.specs.Run.{State, blank, world, Allows}
use Rattle.recording.specs.Rows.{is_initial, is_given, is_state_variable}
use Rattle.recording.specs.Faults.{no_fault, untrue, step_fault}
use Rattle.recording.specs.Replay.{Values, found, read_values}
use Rattle.recording.specs.Recorded.{ActionInside}
use Rattle.recording.proofs.Faults.{first_none, none_first}
use Rattle.recording.proofs.Sight.{never, sees, ActionSeen}
use Rattle.recording.proofs.Step.{Held, agree_before, seen_action}
use Rattle.recording.proofs.Values.{read_size, read_present}
use Rattle.recording.proofs.Steps.{not_given, logged_variable, variables_small, of_variable}
use Rattle.bench.specs.State.{value_of, is_of_type, IsState, updated}
use Rattle.bench.specs.Choice.{is_such_that, asked}
use Rattle.bench.specs.Press.{number_in, answered, after_by, completed, press_fault, at_hand}
use Rattle.bench.specs.Pressed.{state_of, left}
use Rattle.bench.proofs.State.{placed_at}
use Rattle.bench.proofs.Numbers.{number_stored, stored_number}
use Rattle.bench.proofs.After.{complete_present, complete_at}
use Rattle.bench.proofs.Chosen.{asked_in, hand_size, choice_of_type}

module _ (t : Rows) where
  abbrev machine : Machine
  machine = machine_of t

  -- the values of a state are those of constants c and of the state s of the concrete machine
  pub record Shows (zs : List ℤ) (c s : State machine) : Type 0 where
    pub constants : (x : ℕ) → T (named t 10 x) → kind_of t x ≡ 1 → state_of t zs x ≡ c x
    pub variables : (x : ℕ) → T (named t 10 x) → T (is_state_variable t x) → state_of t zs x ≡ s x

  variables_distinct : Distinct machine.concrete_variables
  unfolding machine_of variables_of
  variables_distinct = pairwise_keep (is_state_variable t) (numbers_distinct (count t 10) 1)

  -- the action of a variable is a 52: it is asked for
  pub such_asked : (e x r : ℕ) → T (named t 10 x) → T (is_state_variable t x) → machine.action e x ≡ becomes_such_that r → In x (asked t e)
  unfolding machine_of
  such_asked e x r n v a =
      asked_in t e x n (or_right (is_given t e x) (is_such_that (action_of t e x) && is_state_variable t x)
      (and_join (is_such_that (action_of t e x)) (is_state_variable t x) (subst (λ a. T (is_such_that a)) (sym a) tt) v))

  -- a choice of the event e on a state, with the values at hand that reading its rows gives
  pub record Situation (zs : List ℤ) (types : List ℕ) (c s : State machine) (e : ℕ) (ws : Values) : Type 0 where
    pub right : IsState t zs types
    pub shows : Shows zs c s
    pub event : T (named t 40 e)
    pub concrete : machine_number t e ≡ 2
    pub initial : is_initial t e ≡ false
    pub others : List Line
    pub reads : read_values t e (asked t e) 2 others (at_hand t zs) ≡ found ws []

  module _ (ok : Obeys t) {zs : List ℤ} {types : List ℕ} {c s : State machine} {e : ℕ} {ws : Values} (at : Situation zs types c s e ws) where
    abbrev pub us : List ℤ
    us = (completed t e ws).after

    abbrev before : Env machine.type
    before = stored_env machine.type ws.present []

    -- ---- what is read
    given_by : (x : ℕ) → is_given t e x ≡ (eqb (kind_of t x) 5 && eqb (owner_of t x) e)
    given_by x = ap (λ b. pick b (eqb (kind_of t x) 1) (eqb (kind_of t x) 5 && eqb (owner_of t x) e)) at.initial

    value_placed : (x : ℕ) → T (named t 10 x) → is_given t e x ≡ false → get_or ws.present x (pos 0) ≡ value_of zs x
    value_placed x n g =
        let b = named_bounds t 10 x n in
        let size = at.right.size in
        let few = few_identifiers t ok.full in
        read_present t e (asked t e) 2 at.others (at_hand t zs) ws [] x g at.reads ∙ placed_at zs x b.0 (omega (arith, b.1, size)) (omega (arith, size, few))

    state_read : (x : ℕ) → T (named t 10 x) → is_given t e x ≡ false → stored machine.type ws.present x ≡ state_of t zs x
    unfolding stored state_of
    state_read x n g = ap (stored_value (machine.type x)) (value_placed x n g)

    pub held : (q k : State machine) → ((x : ℕ) → T (named t 10 x) → kind_of t x ≡ 5 → owner_of t x ≡ e → stored machine.type ws.present x ≡ q x)
        → ((x : ℕ) → T (named t 10 x) → T (is_state_variable t x) → stored machine.type us x ≡ k x) → Held t e ws.present us c s q k
    held q k parameters afters = record {
      constants = λ x n i. state_read x n (given_by x ∙ ap (λ k. eqb k 5 && eqb (owner_of t x) e) i) ∙ at.shows.constants x n i;
      variables = λ h x n v. state_read x n (not_given t e x v) ∙ at.shows.variables x n v;
      parameters = parameters;
      after_values = afters;
    }

    -- the after values, taken as they are
    abbrev pub state_made : State machine
    state_made = stored machine.type us

    -- ---- what is set
    after_at : (x : ℕ) → In x machine.concrete_variables → get_or us x (pos 0) ≡ after_by t ws x (machine.action e x)
    after_at x i =
        complete_at t e machine.concrete_variables ws x (read_size t e (asked t e) 2 at.others (at_hand t zs) ws [] (hand_size t zs) at.reads) variables_distinct (variables_small t ok) i

    -- what an action has to give, for an after value to be that of k
    abbrev pub Gives : State machine → ℕ → Action → Type 0
    Gives k x unassigned = k x ≡ state_of t zs x
    Gives k x (becomes_equal r) = answer before (machine.tree r) ≡ value (wrap (machine.type x) (k x))
    Gives k x (becomes_such_that r) = k x ≡ stored machine.type ws.after x

    state_of_type : (x : ℕ) → T (named t 10 x) → is_of_type (type_of t x) (value_of zs x) ≡ true
    state_of_type x n =
        let b = named_bounds t 10 x n in
        let sort = get_or types (x - 1) 0 in
        let p = and_split (eqb sort (type_of t x)) (is_of_type sort (value_of zs x)) (true_test _ (at.right.records x b.0 b.1)) in
        subst (λ n. is_of_type n (value_of zs x) ≡ true) (eqb→eq sort (type_of t x) p.0) (test_true _ p.1)

    number_of : (x : ℕ) (z : ℤ) → is_of_type (type_of t x) z ≡ true → z ≡ number_in (wrap (machine.type x) (stored_value (machine.type x) z))
    unfolding machine_of
    number_of x z h = sym (stored_number (type_of t x) z h)

    after_by_lem : (k : State machine) (x : ℕ) → T (named t 10 x) → T (is_state_variable t x) → (a : Action) → machine.action e x ≡ a → Gives k x a → after_by t ws x a ≡ number_in (wrap (machine.type x) (k x))
    unfolding after_by stored state_of
    after_by_lem k x n v unassigned a g =
        value_placed x n (not_given t e x v) ∙ number_of x (value_of zs x) (state_of_type x n) ∙ ap (λ v. number_in (wrap (machine.type x) v)) (sym g)
    after_by_lem k x n v (becomes_equal r) a g = ap answered g
    after_by_lem k x n v (becomes_such_that r) a g =
        number_of x (get_or ws.after x (pos 0))
        (subst (λ b. is_of_type (type_of t x) (get_or (pick b ws.present ws.after) x (pos 0)) ≡ true) (not_given t e x v) (choice_of_type t ok zs e at.others ws at.reads x (such_asked e x r n v a)))
        ∙ ap (λ v. number_in (wrap (machine.type x) v)) (sym g)

    pub after_number_lem : (k : State machine) (x : ℕ) → T (named t 10 x) → T (is_state_variable t x) → Gives k x (machine.action e x) → get_or us x (pos 0) ≡ number_in (wrap (machine.type x) (k x))
    after_number_lem k x n v g = after_at x (of_variable t x n v) ∙ after_by_lem k x n v (machine.action e x) refl g

    pub after_value : (k : State machine) (x : ℕ) → T (named t 10 x) → T (is_state_variable t x) → Gives k x (machine.action e x) → stored machine.type us x ≡ k x
    unfolding stored
    after_value k x n v g = ap (stored_value (machine.type x)) (after_number_lem k x n v g) ∙ number_stored (machine.type x) (k x)

    -- the values that are made are those of the state after the step
    pub made_left : (k : State machine) → ((x : ℕ) → T (named t 10 x) → T (is_state_variable t x) → Gives k x (machine.action e x)) → updated t us zs ≡ left t k zs
    unfolding updated left
    made_left k gives = map_same _ _ (numbers (length zs) 1) (λ x i.
        let b = in_numbers (length zs) 1 x i in
        go x (is_state_variable t x) refl (bounded x b.0 (let size = at.right.size in omega (arith, b.1, size))))
      where
        bounded : (x : ℕ) → 1 ≤ x → x ≤ count t 10 → T (named t 10 x)
        bounded x l h = bounds_named t 10 x l h

        go : (x : ℕ) (b : Bool) → is_state_variable t x ≡ b → T (named t 10 x)
            → pick b (get_or us x (pos 0)) (value_of zs x) ≡ pick b (number_in (wrap (machine.type x) (k x))) (value_of zs x)
        go x true v n = after_number_lem k x n (true_test _ v) (gives x n (true_test _ v))
        go x false v n = refl

    -- ---- faults
    pub no_faults : press_fault t e (completed t e ws).present us ≡ no_fault
        → All (λ f. f ≡ no_fault) (map (untrue before machine.tree) machine.axioms) × (step_fault t e ws.present us ≡ no_fault)
    unfolding press_fault
    no_faults h =
        let none : press_fault t e ws.present us ≡ no_fault = ap (λ ps. press_fault t e ps us) (sym (complete_present t e machine.concrete_variables ws)) ∙ h in
        let faults : List ℕ = map (untrue before machine.tree) machine.axioms in
        let a = first_none (faults ++ (step_fault t e ws.present us ∷ [])) none in
        (all_left faults (step_fault t e ws.present us ∷ []) a, all_head (all_right faults a))

    pub faults_no : All (λ f. f ≡ no_fault) (map (untrue before machine.tree) machine.axioms) → step_fault t e ws.present us ≡ no_fault → press_fault t e (completed t e ws).present us ≡ no_fault
    unfolding press_fault
    faults_no a f = ap (λ ps. press_fault t e ps us) (complete_present t e machine.concrete_variables ws) ∙ none_first (all_join a (all_cons f all_nil))

    -- ---- a step of the run gives the after values
    abbrev pub reading : State machine → State machine → Env machine.type
    reading q k = world machine c (blank machine) s (blank machine) q (blank machine) k

    abbrev pub Chosen : State machine → Type 0
    Chosen q = (x : ℕ) → T (named t 10 x) → kind_of t x ≡ 5 → owner_of t x ≡ e → stored machine.type ws.present x ≡ q x

    agree_reading : (q k : State machine) → Chosen q → Agree (sees t e) never before (reading q k)
    agree_reading q k chosen = record {
      present = (agree_before t ok e at.event at.concrete ws.present us c s q state_made (held q state_made chosen (λ x n v. refl))).present;
      after = λ x z. absurd z;
    }

    gives_by : (q k : State machine) → Chosen q → (x : ℕ) → T (named t 10 x) → T (is_state_variable t x) → (a : Action) → ActionSeen machine.tree (sees t e) x a
        → ((r : ℕ) → a ≡ becomes_such_that r → k x ≡ stored machine.type ws.after x) → Allows machine (reading q k) x a → ActionInside t (reading q k) a → Gives k x a
    gives_by q k chosen x n v unassigned seen such allows inside =
        sym (logged_variable t (blank machine) (blank machine) k x v) ∙ allows ∙ logged_variable t c q s x v ∙ sym (at.shows.variables x n v)
    gives_by q k chosen x n v (becomes_equal r) seen such allows inside =
        answer_agree before (reading q k) (agree_reading q k chosen) (machine.tree r) seen
        ∙ reads_answer (reading q k) (machine.tree r) (wrap (machine.type x) ((reading q k).after x)) allows inside
        ∙ ap (λ v. value (wrap (machine.type x) v)) (logged_variable t (blank machine) (blank machine) k x v)
    gives_by q k chosen x n v (becomes_such_that r) seen such allows inside = such r refl

    pub step_gives : (q k : State machine) → Chosen q → (x : ℕ) → T (named t 10 x) → T (is_state_variable t x)
        → ((r : ℕ) → machine.action e x ≡ becomes_such_that r → k x ≡ stored machine.type ws.after x)
        → All (λ x. Allows machine (reading q k) x (machine.action e x)) machine.concrete_variables → All (λ x. ActionInside t (reading q k) (machine.action e x)) machine.concrete_variables
        → Gives k x (machine.action e x)
    step_gives q k chosen x n v such allows inside =
        let i = of_variable t x n v in
        let known = held q state_made chosen (λ x n v. refl) in
        gives_by q k chosen x n v (machine.action e x) (seen_action t ok e at.event at.concrete ws.present us c s q state_made known x i) such (all_at allows i) (all_at inside i)

    -- a 52's after value is the chosen one
    pub such_made : (x r : ℕ) → T (named t 10 x) → T (is_state_variable t x) → machine.action e x ≡ becomes_such_that r → state_made x ≡ stored machine.type ws.after x
    unfolding stored after_by
    such_made x r n v a = ap (stored_value (machine.type x)) (after_at x (of_variable t x n v) ∙ ap (after_by t ws x) a)

    -- ---- the after value of a variable, whether or not the step has a fault
    abbrev pub completion : State machine → (x : ℕ) → Action → Value (machine.type x)
    completion q x unassigned = state_of t zs x
    completion q x (becomes_equal r) = stored_value (machine.type x) (answered (answer (reading q (blank machine)) (machine.tree r)))
    completion q x (becomes_such_that r) = stored machine.type ws.after x

    made_by : (q : State machine) → Chosen q → (x : ℕ) → T (named t 10 x) → T (is_state_variable t x) → (a : Action) → ActionSeen machine.tree (sees t e) x a
        → stored_value (machine.type x) (after_by t ws x a) ≡ completion q x a
    unfolding after_by stored state_of
    made_by q chosen x n v unassigned seen = ap (stored_value (machine.type x)) (value_placed x n (not_given t e x v))
    made_by q chosen x n v (becomes_equal r) seen =
        ap (λ a. stored_value (machine.type x) (answered a)) (answer_agree before (reading q (blank machine)) (agree_reading q (blank machine) chosen) (machine.tree r) seen)
    made_by q chosen x n v (becomes_such_that r) seen = refl

    pub made_is : (q : State machine) → Chosen q → (x : ℕ) → T (named t 10 x) → T (is_state_variable t x) → state_made x ≡ completion q x (machine.action e x)
    unfolding stored
    made_is q chosen x n v =
        let i = of_variable t x n v in
        let known = held q state_made chosen (λ x n v. refl) in
        ap (stored_value (machine.type x)) (after_at x i) ∙ made_by q chosen x n v (machine.action e x) (seen_action t ok e at.event at.concrete ws.present us c s q state_made known x i)

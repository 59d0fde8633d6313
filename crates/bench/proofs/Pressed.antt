-- 02, request 6: pressing gives a state exactly where the event has that step by the scope paper's definition from the state's values, with these parameters and after
-- values, and no term met leaves 64 bits.
use Prim.Native.Nat.{ℕ}
use mathlib.Core.Path.{◌≡◌, refl, sym, ap, ◌∙◌, subst}
use mathlib.Core.Bool.{true, false, ◌&&◌, ◌||◌}
use mathlib.Core.List.{List, [], ◌∷◌, map, flat_map}
use lib.Dec.{T, eqb, eqb→eq}
use lib.IntN.{ℤ}
use Rattle.lists.specs.Choice.{pick}
use Rattle.lists.specs.All.{All, In}
use Rattle.lists.proofs.All.{all_tail}
use Rattle.row.specs.Row.{greatest, width, row_bytes, Writable}
use Rattle.std.specs.Prelude.{Some}
use Rattle.formula.proofs.Truth.{and_split, and_join, or_cases, or_left, test_true, true_test, eq→eqb}
use Rattle.answer.specs.Stored.{stored, stored_env}
use Rattle.table.specs.Rows.{Rows, count, named, kind_of, owner_of, machine_number}
use Rattle.machine.specs.Machine.{Role, abstract_initialisation, abstract_ordinary, concrete_initialisation, refining, convergent, anticipated}
use Rattle.machine.specs.Machine.{Action, unassigned, becomes_equal, becomes_such_that, Machine}
use Rattle.machine.specs.Described.{action_of, machine_of}
use Rattle.rules.proofs.Obeys.{Obeys}
use Rattle.run.specs.Run.{State, blank, world, AllReadTrue, Allows, Step, of_run}
use Rattle.recording.specs.Rows.{is_initial, is_given, is_state_variable}
use Rattle.recording.specs.Lines.{lines}
use Rattle.recording.specs.Faults.{no_fault}
use Rattle.recording.specs.Replay.{Values}
use Rattle.recording.specs.Recorded.{ActionInside, AllInside, StepInside, constants_alone, logged_value}
use Rattle.recording.proofs.Judged.{predicates_judged, judged_predicates}
use Rattle.recording.proofs.Step.{Held, agree_constants, seen_axioms, fault_allowed, allowed_fault}
use Rattle.recording.proofs.Values.{LineFormed, value_at}
use Rattle.recording.proofs.Lines.{lines_formed, lines_written, written_lines}
use Rattle.recording.proofs.Steps.{value_given, value_after, not_given, logged_variable, logged_parameter}
use Rattle.recording.proofs.Runs.{step_row, step_row_of, row_step, event_of, of_event_lem, later_role, role_later}
use Rattle.bench.specs.State.{IsState}
use Rattle.bench.specs.Choice.{is_such_that, chosen, none, asked, choice}
use Rattle.bench.specs.Press.{made, at_hand, completed, press_fault, press_on}
use Rattle.bench.specs.Pressed.{state_of, left, choice_rows, PressedBy}
use Rattle.bench.proofs.Lengths.{made_pressing, pressing_made}
use Rattle.bench.proofs.Chosen.{in_asked, asked_in, choice_chose, choice_rows_lem, others, rows_found, rows_choice}
use Rattle.bench.proofs.Performed.{Shows, such_asked, Situation, us, held, Gives, after_value, made_left, no_faults, faults_no, step_gives, such_made}

module _ (t : Rows) where
  abbrev machine : Machine
  machine = machine_of t

  -- an event of the run reads and sets as the concrete machine does
  pub step_parts : (ro : Role) → T (of_run machine ro) → (e : ℕ) (c s q k : State machine) → Step machine ro e c s q k → StepInside t ro e c s q k
      → All (λ x. Allows machine (world machine c (blank machine) s (blank machine) q (blank machine) k) x (machine.action e x)) machine.concrete_variables
      × All (λ x. ActionInside t (world machine c (blank machine) s (blank machine) q (blank machine) k) (machine.action e x)) machine.concrete_variables
  step_parts abstract_initialisation o e c s q k p i = absurd o
  step_parts abstract_ordinary o e c s q k p i = absurd o
  step_parts (concrete_initialisation f) o e c s q k p i = absurd o
  step_parts (refining f) o e c s q k p i = (p.allowed, i.actions)
  step_parts convergent o e c s q k p i = (p.allowed, i.actions)
  step_parts anticipated o e c s q k p i = (p.allowed, i.actions)

  -- what is asked: a parameter of the event, or a variable whose action is a 52
  pub asked_by : (e x : ℕ) {A : Type 0} → is_initial t e ≡ false → T (is_given t e x || (is_such_that (machine.action e x) && is_state_variable t x))
      → (T (is_given t e x) → kind_of t x ≡ 5 → A) → (T (is_state_variable t x) → (r : ℕ) → machine.action e x ≡ becomes_such_that r → A) → A
  asked_by e x initial h given told = or_cases (is_given t e x) (is_such_that (machine.action e x) && is_state_variable t x) h
      (λ g. let p = and_split (eqb (kind_of t x) 5) (eqb (owner_of t x) e) (subst (λ b. T (pick b (eqb (kind_of t x) 1) (eqb (kind_of t x) 5 && eqb (owner_of t x) e))) initial g) in
      given g (eqb→eq (kind_of t x) 5 p.0))
      (λ g. let p = and_split (is_such_that (machine.action e x)) (is_state_variable t x) g in go (machine.action e x) refl p.0 (told p.1))
    where
      go : {A : Type 0} (a : Action) → machine.action e x ≡ a → T (is_such_that a) → ((r : ℕ) → machine.action e x ≡ becomes_such_that r → A) → A
      go unassigned q s f = absurd s
      go (becomes_equal r) q s f = absurd s
      go (becomes_such_that r) q s f = f r q

  pub same_state : (zs : List ℤ) → Shows t zs (state_of t zs) (state_of t zs)
  same_state zs = record { constants = λ x n i. refl; variables = λ x n v. refl }

  -- ---- what was chosen on a state: its rows are those of the values at hand
  pub record Situated (step : List ℕ) (zs : List ℤ) (types : List ℕ) (e : ℕ) (ws : Values) : Type 0 where
    pub at : Situation t zs types (state_of t zs) (state_of t zs) e ws
    pub is_event : In e machine.events
    pub is_other : T (of_run machine (machine.role e))
    pub in_form : All (Writable greatest width) (choice_rows t e (stored machine.type ws.present) (stored machine.type (completed t e ws).after))
    pub written : step ≡ flat_map (row_bytes width) (choice_rows t e (stored machine.type ws.present) (stored machine.type (completed t e ws).after))

  pub chosen_situated : Obeys t → (step : List ℕ) (zs : List ℤ) (types : List ℕ) → IsState t zs types → (e : ℕ) (ws : Values) → choice t (lines step) (at_hand t zs) ≡ chosen e ws
      → Situated step zs types e ws
  unfolding machine_of
  chosen_situated ok step zs types right e ws h =
      let chose = choice_chose t (lines step) (at_hand t zs) e ws h in
      let row = step_row t false chose.row chose.good in
      let event : T (named t 40 e) = subst (λ e. T (named t 40 e)) chose.event row.is_event in
      let concrete : machine_number t e ≡ 2 = ap (machine_number t) (sym chose.event) ∙ row.concrete in
      let initial : is_initial t e ≡ false = ap (is_initial t) (sym chose.event) ∙ row.initial in
      let at : Situation t zs types (state_of t zs) (state_of t zs) e ws =
      record { right = right; shows = same_state zs; event = event; concrete = concrete; initial = initial; others = chose.others; reads = chose.reads } in
      let q : State machine = stored machine.type ws.present in
      let k : State machine = stored machine.type (completed t e ws).after in
      let are : (x : ℕ) → In x (asked t e) → value_at t e ws x ≡ logged_value t (blank machine) q k x = λ x i.
      let a = in_asked t e x i in
      asked_by e x initial a.1 (λ g j. value_given t e ws x (test_true _ g) ∙ sym (logged_parameter t (blank machine) q k x j))
      (λ v r b. value_after t e ws x (not_given t e x v) ∙ sym (such_made t ok at x r a.0 v b) ∙ sym (logged_variable t (blank machine) q k x v)) in
      let formed = subst (All LineFormed) chose.lines (lines_formed step) in
      let rows = choice_rows_lem t ok zs e chose.others ws q k (all_tail formed) chose.reads are in
      let written = lines_written (choice_rows t e q k) step (chose.lines ∙ ap (λ r. Some r ∷ chose.others) (row.is_row ∙ ap (step_row_of t) chose.event) ∙ rows) in
      record { at = at; is_event = event_of t e event; is_other = later_role t ok e event concrete initial; in_form = written.1; written = written.0 }

  module _ (ok : Obeys t) (step : List ℕ) (zs : List ℤ) (types : List ℕ) (room : ℕ) (ys : List ℤ) where
    pub made_pressed : press_on t step zs types room ≡ made ys → PressedBy t step zs ys
    unfolding machine_of
    made_pressed h =
        let p = made_pressing t step zs types room ys h in
        let e = p.event in
        let ws : Values = p.values in
        let w = chosen_situated ok step zs types p.right e ws p.chooses in
        let at = w.at in
        let c : State machine = state_of t zs in
        let q : State machine = stored machine.type ws.present in
        let k : State machine = stored machine.type (completed t e ws).after in
        let known : Held t e ws.present (completed t e ws).after c c q k = held t ok at q k (λ x n i o. refl) (λ x n v. refl) in
        let none = no_faults t ok at p.faultless in
        let allowed = fault_allowed t ok e at.event at.concrete ws.present (completed t e ws).after c c q k known none.1 in
        let axioms = predicates_judged t (stored_env machine.type ws.present []) (constants_alone t c) (agree_constants t ok e at.event at.concrete ws.present (completed t e ws).after c c q k known)
        machine.axioms (seen_axioms t ok e at.event at.concrete ws.present (completed t e ws).after c c q k known) none.0 in
        let parts = step_parts (machine.role e) w.is_other e c c q k allowed.step allowed.inside in
        let gives : (x : ℕ) → T (named t 10 x) → T (is_state_variable t x) → Gives t ok at k x (machine.action e x) =
        λ x n v. step_gives t ok at q k (λ x n i o. refl) x n v (λ r a. such_made t ok at x r n v a) parts.0 parts.1 in
        record {
          taken = record { event = e; parameters = q; result = k };
          is_event = w.is_event;
          is_other = w.is_other;
          axioms = axioms.0;
          axioms_inside = axioms.1;
          is_step = allowed.step;
          inside = allowed.inside;
          in_form = w.in_form;
          written = w.written;
          leaves = p.makes ∙ made_left t ok at k gives;
        }

  -- ---- the other way round: the rows of a step of the run, from any constants and state that the list shows, are pressed, and what is made is what the step leaves
  module _ (ok : Obeys t) (zs : List ℤ) (types : List ℕ) (right : IsState t zs types) (c s : State machine) (shows : Shows t zs c s) (e : ℕ) (q k : State machine)
      (writable : All (Writable greatest width) (choice_rows t e q k)) where
    -- the values of the rows
    abbrev pub readings : Values
    readings = (rows_found t ok zs e q k writable).values

    pub row_parameter : is_initial t e ≡ false → (x : ℕ) → T (named t 10 x) → kind_of t x ≡ 5 → owner_of t x ≡ e → stored machine.type readings.present x ≡ q x
    row_parameter initial x n i o =
        let g : is_given t e x ≡ true = ap (λ b. pick b (eqb (kind_of t x) 1) (eqb (kind_of t x) 5 && eqb (owner_of t x) e)) initial
        ∙ test_true _ (and_join (eqb (kind_of t x) 5) (eqb (owner_of t x) e) (eq→eqb (kind_of t x) 5 i) (eq→eqb (owner_of t x) e o)) in
        sym (value_given t e readings x g)
        ∙ (rows_found t ok zs e q k writable).are x (asked_in t e x n (or_left (is_given t e x) (is_such_that (action_of t e x) && is_state_variable t x) (true_test _ g)))
        ∙ logged_parameter t (blank machine) q k x i

    pub row_such : (x : ℕ) → T (named t 10 x) → T (is_state_variable t x) → (r : ℕ) → machine.action e x ≡ becomes_such_that r → k x ≡ stored machine.type readings.after x
    row_such x n v r a =
        sym (logged_variable t (blank machine) q k x v) ∙ sym ((rows_found t ok zs e q k writable).are x (such_asked t e x r n v a)) ∙ value_after t e readings x (not_given t e x v)

    module _ (event : T (named t 40 e)) (concrete : machine_number t e ≡ 2) (initial : is_initial t e ≡ false) where
      pub situation : Situation t zs types c s e readings
      situation = record {
        right = right;
        shows = shows;
        event = event;
        concrete = concrete;
        initial = initial;
        others = others t ok zs e q k writable;
        reads = (rows_found t ok zs e q k writable).reads;
      }

      -- the axioms are met, and the step is one of the run, exactly where there is no fault
      pub record Taking : Type 0 where
        pub axioms : AllReadTrue machine (constants_alone t c) machine.axioms × AllInside t (constants_alone t c) machine.axioms
        pub is_step : Step machine (machine.role e) e c s q k
        pub inside : StepInside t (machine.role e) e c s q k

      module _ (afters : (x : ℕ) → T (named t 10 x) → T (is_state_variable t x) → stored machine.type (us t ok situation) x ≡ k x) where
        known : Held t e readings.present (us t ok situation) c s q k
        known = held t ok situation q k (row_parameter initial) afters

        pub faultless_taking : press_fault t e (completed t e readings).present (us t ok situation) ≡ no_fault → Taking
        unfolding machine_of
        faultless_taking h =
            let none = no_faults t ok situation h in
            let allowed = fault_allowed t ok e event concrete readings.present (us t ok situation) c s q k known none.1 in
            record {
              axioms = predicates_judged t (stored_env machine.type readings.present []) (constants_alone t c) (agree_constants t ok e event concrete readings.present (us t ok situation) c s q k known)
                  machine.axioms (seen_axioms t ok e event concrete readings.present (us t ok situation) c s q k known) none.0;
              is_step = allowed.step;
              inside = allowed.inside;
            }

        pub taking_faultless : Taking → press_fault t e (completed t e readings).present (us t ok situation) ≡ no_fault
        unfolding machine_of
        taking_faultless w =
            faults_no t ok situation
            (judged_predicates t (stored_env machine.type readings.present []) (constants_alone t c) (agree_constants t ok e event concrete readings.present (us t ok situation) c s q k known)
            machine.axioms (seen_axioms t ok e event concrete readings.present (us t ok situation) c s q k known) w.axioms.0 w.axioms.1)
            (allowed_fault t ok e event concrete readings.present (us t ok situation) c s q k known
            (record { axioms = λ i. absurd (subst T initial i); step = w.is_step; inside = w.inside }))

      pub rows_chosen : choice t (map Some (choice_rows t e q k)) (at_hand t zs) ≡ chosen e readings
      rows_chosen = rows_choice t ok zs e q k writable ∙ ap (λ b. pick b (chosen e readings) none) (row_step t false e event concrete initial)

      pub step_made : (step : List ℕ) (room : ℕ) → lines step ≡ map Some (choice_rows t e q k) → room ≡ count t 10 → Taking → press_on t step zs types room ≡ made (left t k zs)
      step_made step room ls roomy w =
          let other = later_role t ok e event concrete initial in
          let parts = step_parts (machine.role e) other e c s q k w.is_step w.inside in
          let gives : (x : ℕ) → T (named t 10 x) → T (is_state_variable t x) → Gives t ok situation k x (machine.action e x) =
          λ x n v. step_gives t ok situation q k (row_parameter initial) x n v (row_such x n v) parts.0 parts.1 in
          let afters : (x : ℕ) → T (named t 10 x) → T (is_state_variable t x) → stored machine.type (us t ok situation) x ≡ k x = λ x n v. after_value t ok situation k x n v (gives x n v) in
          pressing_made t step zs types room (left t k zs) (record {
            right = right;
            roomy = roomy;
            event = e;
            values = readings;
            chooses = ap (λ ls. choice t ls (at_hand t zs)) ls ∙ rows_chosen;
            faultless = taking_faultless afters w;
            makes = sym (made_left t ok situation k gives);
          })

  pub pressed_made : Obeys t → (step : List ℕ) (zs : List ℤ) (types : List ℕ) (room : ℕ) (ys : List ℤ) → IsState t zs types → room ≡ count t 10 → PressedBy t step zs ys
      → press_on t step zs types room ≡ made ys
  pressed_made ok step zs types room ys right roomy p =
      let e = p.taken.event in
      let event = of_event_lem t e p.is_event in
      let role = role_later t ok e event p.is_other in
      step_made ok zs types right (state_of t zs) (state_of t zs) (same_state zs) e p.taken.parameters p.taken.result p.in_form event role.0 role.1 step room
      (ap lines p.written ∙ written_lines (choice_rows t e p.taken.parameters p.taken.result) p.in_form) roomy
      (record { axioms = (p.axioms, p.axioms_inside); is_step = p.is_step; inside = p.inside }) ∙ ap made (sym p.leaves)

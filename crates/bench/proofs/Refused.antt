-- 02, request 6: a press or a preview is refused exactly where the table has the refusal, or the lists or rows don't fit, or the axioms or the step have their first fault; and then with that
-- fault's number.
use Prim.Native.Nat.{ℕ}
use mathlib.Core.Path.{◌≡◌, refl, sym, ap, ap₂, ◌∙◌, subst}
use mathlib.Core.Bool.{Bool, true, false, true≢false, ◌&&◌}
use mathlib.Core.List.{List, [], ◌∷◌, ◌++◌, map}
use mathlib.Core.Logic.{◌⊎◌, inl, inr, ◌↔◌}
use lib.Dec.{T, eqb, eqb→eq}
use lib.IntN.{ℤ}
use lib.ListN.{length}
use borrow.Author.Tests.{eq-eqb, ne_eqb}
use Rattle.std.specs.Prelude.{Result, Ok, Err}
use Rattle.lists.specs.Choice.{pick}
use Rattle.lists.specs.All.{All, First, fault_here, fault_later}
use Rattle.lists.proofs.All.{all_in, all_at, first_left, first_right, first_either}
use Rattle.formula.specs.Evaluate.{Env}
use Rattle.formula.proofs.Truth.{and_split, and_join, test_true, true_test, eq→eqb}
use Rattle.answer.specs.Answer.{answer}
use Rattle.answer.specs.Stored.{stored_value, stored, stored_env}
use Rattle.table.specs.Rows.{Rows, count, machine_number}
use Rattle.machine.specs.Machine.{Role, abstract_initialisation, abstract_ordinary, concrete_initialisation, refining, convergent, anticipated}
use Rattle.machine.specs.Machine.{Action, unassigned, becomes_equal, becomes_such_that, Machine}
use Rattle.machine.specs.Described.{machine_of}
use Rattle.rules.specs.declared.Refusal.{Refusal}
use Rattle.rules.specs.Refusal.{refused as refusal}
use Rattle.rules.specs.Decoded.{decoded}
use Rattle.rules.specs.Verdict.{verdict as verdict_of}
use Rattle.rules.proofs.Obeys.{Obeys}
use Rattle.run.specs.Run.{State, blank, world, view, AllReadTrue, of_run}
use Rattle.recording.specs.Rows.{is_initial}
use Rattle.recording.specs.Lines.{lines}
use Rattle.recording.specs.Faults.{no_fault, log_fault, first_fault, untrue, step_fault}
use Rattle.recording.specs.Replay.{Values}
use Rattle.recording.specs.Recorded.{constants_alone, AllInside}
use Rattle.recording.specs.Refusal.{FirstUntrue, StepFault}
use Rattle.recording.proofs.FirstFault.{None, Marks, number_first, first_number, number_untrue, untrue_number, number_fault, fault_number}
use Rattle.recording.proofs.Judged.{predicates_judged, judged_predicates}
use Rattle.recording.proofs.Step.{Held, agree_constants, seen_axioms}
use Rattle.recording.proofs.Lines.{written_lines}
use Rattle.recording.proofs.Steps.{of_variable, variable_of_lem}
use Rattle.recording.proofs.Runs.{of_event_lem, role_later}
use Rattle.bench.specs.declared.Record.{Record}
use Rattle.bench.specs.State.{values_in, types_in, is_state, IsState, updated}
use Rattle.bench.specs.Choice.{Choice, chosen, none, choice}
use Rattle.bench.specs.Press.{Outcome, made, refused, answered, completed, press_fault, press_choice, at_hand, press_on, outcome_by, outcome, reply_of, records_outcome, press, preview}
use Rattle.bench.specs.Pressed.{state_of, choice_rows}
use Rattle.bench.specs.Refusal.{Chooses, Completes, Chosen, PressRefusal, wrong_list, no_choice, axiom_fault, press_at_fault}
use Rattle.bench.proofs.State.{state_right, right_state}
use Rattle.bench.proofs.Lengths.{made_never, refused_where}
use Rattle.bench.proofs.After.{complete_present}
use Rattle.bench.proofs.Chosen.{none_never}
use Rattle.bench.proofs.Performed.{Situation, us, held, completion, made_is}
use Rattle.bench.proofs.Pressed.{Situated, chosen_situated, readings, situation, row_parameter, row_such, rows_chosen, same_state}
use Rattle.bench.proofs.Exact.{accepted_obeys, performed_never}
use Rattle.bench.proofs.Benched.{variable_is_named}

refused_number : {m n i j : ℕ} → refused m i ≡ refused n j → m ≡ n
refused_number {m} e = ap (λ (o : Outcome). elim o [ made zs ↦ m | refused n row ↦ n ]) e

refused_row : {m n i j : ℕ} → refused m i ≡ refused n j → i ≡ j
refused_row {i = i} e = ap (λ (o : Outcome). elim o [ made zs ↦ i | refused n row ↦ row ]) e

module _ (t : Rows) where
  abbrev machine : Machine
  machine = machine_of t

  -- an event of the run reads the concrete state
  view_run : (ro : Role) → T (of_run machine ro) → (c s q k : State machine) → view machine ro c s q k ≡ world machine c (blank machine) s (blank machine) q (blank machine) k
  view_run abstract_initialisation o c s q k = absurd o
  view_run abstract_ordinary o c s q k = absurd o
  view_run (concrete_initialisation f) o c s q k = absurd o
  view_run (refining f) o c s q k = refl
  view_run convergent o c s q k = refl
  view_run anticipated o c s q k = refl

  module _ (ok : Obeys t) (step : List ℕ) (zs : List ℤ) (types : List ℕ) where
    abbrev c : State machine
    c = state_of t zs

    -- the after values of the code are the completed ones
    completes_made : {e : ℕ} {ws : Values} (at : Situation t zs types c c e ws) (q k : State machine) (x : ℕ) (a : Action)
        → view machine (machine.role e) c c q (blank machine) ≡ world machine c (blank machine) c (blank machine) q (blank machine) (blank machine)
        → k x ≡ completion t ok at q x a → Completes t step zs e q k x a
    completes_made at q k x unassigned w h = h
    completes_made {e} at q k x (becomes_equal r) w h = h ∙ ap (λ ρ. stored_value (machine.type x) (answered (answer ρ (machine.tree r)))) (sym w)
    completes_made at q k x (becomes_such_that r) w h = tt

    made_completes : {e : ℕ} {ws : Values} (at : Situation t zs types c c e ws) (q k : State machine) (x : ℕ) (a : Action)
        → view machine (machine.role e) c c q (blank machine) ≡ world machine c (blank machine) c (blank machine) q (blank machine) (blank machine)
        → ((r : ℕ) → a ≡ becomes_such_that r → k x ≡ stored machine.type ws.after x) → Completes t step zs e q k x a → k x ≡ completion t ok at q x a
    made_completes at q k x unassigned w such h = h
    made_completes at q k x (becomes_equal r) w such h = h ∙ ap (λ ρ. stored_value (machine.type x) (answered (answer ρ (machine.tree r)))) w
    made_completes at q k x (becomes_such_that r) w such h = such r refl

    -- ---- a fault of the axioms or of the step
    module _ {e : ℕ} {ws : Values} (at : Situation t zs types c c e ws) (q k : State machine) (known : Held t e ws.present (us t ok at) c c q k) (n : ℕ) where
      abbrev before : Env machine.type
      before = stored_env machine.type ws.present []

      abbrev axiom_faults : List ℕ
      axiom_faults = map (untrue before machine.tree) machine.axioms

      abbrev fault : ℕ
      fault = press_fault t e (completed t e ws).present (us t ok at)

      -- the two parts of a press's fault
      abbrev Parts : Type 0
      Parts = FirstUntrue t (constants_alone t c) machine.axioms n ⊎ (All None axiom_faults × StepFault t (machine.role e) e c c q k n)

      faults : fault ≡ first_fault (axiom_faults ++ (step_fault t e ws.present (us t ok at) ∷ []))
      unfolding press_fault
      faults = ap (λ ps. press_fault t e ps (us t ok at)) (complete_present t e machine.concrete_variables ws)

      number_parts : fault ≡ n → ¬ (n ≡ no_fault) → Parts
      unfolding machine_of
      number_parts h z = go (first_either axiom_faults (number_first _ n (sym faults ∙ h) z))
        where
          last : First None Marks (step_fault t e ws.present (us t ok at) ∷ []) n → step_fault t e ws.present (us t ok at) ≡ n
          last (fault_here m) = m.0
          last (fault_later y f) = absurd (elim f [ ])

          go : First None Marks axiom_faults n ⊎ (All None axiom_faults × First None Marks (step_fault t e ws.present (us t ok at) ∷ []) n) → Parts
          go (inl f) =
              inl (number_untrue t before (constants_alone t c) (agree_constants t ok e at.event at.concrete ws.present (us t ok at) c c q k known) machine.axioms
              (seen_axioms t ok e at.event at.concrete ws.present (us t ok at) c c q k known) f)
          go (inr (a, f)) = inr (a, number_fault t ok e at.event at.concrete ws.present (us t ok at) c c q k known n (last f) z)

      parts_number : Parts → (fault ≡ n) × ¬ (n ≡ no_fault)
      unfolding machine_of
      parts_number (inl f) =
          let p = first_number (first_left (step_fault t e ws.present (us t ok at) ∷ [])
          (untrue_number t before (constants_alone t c) (agree_constants t ok e at.event at.concrete ws.present (us t ok at) c c q k known) machine.axioms
          (seen_axioms t ok e at.event at.concrete ws.present (us t ok at) c c q k known) f)) in
          (faults ∙ p.0, p.1)
      parts_number (inr (a, f)) =
          let m = fault_number t ok e at.event at.concrete ws.present (us t ok at) c c q k known n f in
          let p = first_number (first_right a (fault_here {xs = []} m)) in
          (faults ∙ p.0, p.1)

      -- the axioms are met where they have no fault
      abbrev Met : Type 0
      Met = AllReadTrue machine (constants_alone t c) machine.axioms × AllInside t (constants_alone t c) machine.axioms

      axioms_met : All None axiom_faults → Met
      unfolding machine_of
      axioms_met a = predicates_judged t before (constants_alone t c) (agree_constants t ok e at.event at.concrete ws.present (us t ok at) c c q k known) machine.axioms
          (seen_axioms t ok e at.event at.concrete ws.present (us t ok at) c c q k known) a

      met_axioms : Met → All None axiom_faults
      unfolding machine_of
      met_axioms m = judged_predicates t before (constants_alone t c) (agree_constants t ok e at.event at.concrete ws.present (us t ok at) c c q k known) machine.axioms
          (seen_axioms t ok e at.event at.concrete ws.present (us t ok at) c c q k known) m.0 m.1

    -- ---- what was chosen, and its relation
    chosen_by : (room : ℕ) → IsState t zs types → room ≡ count t 10 → (e : ℕ) (ws : Values) → Situated t step zs types e ws
        → Chosen t step zs types room e (stored machine.type ws.present) (stored machine.type (completed t e ws).after)
    chosen_by room right roomy e ws w =
        let q : State machine = stored machine.type ws.present in
        let k : State machine = stored machine.type (completed t e ws).after in
        record {
          is_state = right;
          has_room = roomy;
          chooses = record { is_event = w.is_event; is_other = w.is_other; in_form = w.in_form; written = w.written };
          completes = all_in machine.concrete_variables (λ x i.
              completes_made w.at q k x (machine.action e x) (view_run (machine.role e) w.is_other c c q (blank machine))
              (made_is t ok w.at q (λ x n i o. refl) x (variable_is_named t x i) (variable_of_lem t x i)));
        }

    -- the test on lists and room
    test_both : (room : ℕ) → (is_state t zs types && eqb room (count t 10)) ≡ true → IsState t zs types × (room ≡ count t 10)
    test_both room h =
        let p = and_split (is_state t zs types) (eqb room (count t 10)) (true_test _ h) in
        (state_right t zs types (test_true _ p.0), eqb→eq room (count t 10) p.1)

    both_test : (room : ℕ) → IsState t zs types → room ≡ count t 10 → (is_state t zs types && eqb room (count t 10)) ≡ true
    both_test room right roomy =
        test_true _ (and_join (is_state t zs types) (eqb room (count t 10)) (true_test _ (right_state t zs types right)) (eq→eqb room (count t 10) roomy))

    -- the rows of a choice choose it
    module _ (right : IsState t zs types) (e : ℕ) (q k : State machine) (w : Chooses t step zs e q k) where
      chooses_row : (machine_number t e ≡ 2) × (is_initial t e ≡ false)
      chooses_row = role_later t ok e (of_event_lem t e w.is_event) w.is_other

      abbrev values : Values
      values = readings t ok zs types right c c (same_state t zs) e q k w.in_form

      chooses_at : Situation t zs types c c e values
      chooses_at = situation t ok zs types right c c (same_state t zs) e q k w.in_form (of_event_lem t e w.is_event) chooses_row.0 chooses_row.1

      chooses_choice : choice t (lines step) (at_hand t zs) ≡ chosen e values
      chooses_choice =
          ap (λ ls. choice t ls (at_hand t zs)) (ap lines w.written ∙ written_lines (choice_rows t e q k) w.in_form)
          ∙ rows_chosen t ok zs types right c c (same_state t zs) e q k w.in_form (of_event_lem t e w.is_event) chooses_row.0 chooses_row.1

      chosen_held : All (λ x. Completes t step zs e q k x (machine.action e x)) machine.concrete_variables → Held t e values.present (us t ok chooses_at) c c q k
      chosen_held completes =
          let parameters = row_parameter t ok zs types right c c (same_state t zs) e q k w.in_form chooses_row.1 in
          held t ok chooses_at q k parameters (λ x n v.
          made_is t ok chooses_at q parameters x n v
          ∙ sym (made_completes chooses_at q k x (machine.action e x) (view_run (machine.role e) w.is_other c c q (blank machine))
          (λ r a. row_such t ok zs types right c c (same_state t zs) e q k w.in_form x n v r a) (all_at completes (of_variable t x n v))))

    -- ---- from a refusal to its cause
    refused_cause : (room n row : ℕ) → press_on t step zs types room ≡ refused n row → (row ≡ 0) × PressRefusal t step zs types room n
    unfolding press_on
    refused_cause room n row h = by_test (is_state t zs types && eqb room (count t 10)) refl h
      where
        marked : {m : ℕ} → refused m 0 ≡ refused n row → PressRefusal t step zs types room m → (row ≡ 0) × PressRefusal t step zs types room n
        marked q p = (sym (refused_row q), subst (PressRefusal t step zs types room) (refused_number q) p)

        by_fault : IsState t zs types → room ≡ count t 10 → (e : ℕ) (ws : Values) → Situated t step zs types e ws → (b : Bool)
            → eqb (press_fault t e (completed t e ws).present (completed t e ws).after) no_fault ≡ b
            → pick b (made (updated t (completed t e ws).after zs)) (refused (press_fault t e (completed t e ws).present (completed t e ws).after) 0) ≡ refused n row
            → (row ≡ 0) × PressRefusal t step zs types room n
        by_fault right roomy e ws w true z h = absurd (made_never (sym h))
        by_fault right roomy e ws w false z h =
            let q : State machine = stored machine.type ws.present in
            let k : State machine = stored machine.type (completed t e ws).after in
            let m = press_fault t e (completed t e ws).present (completed t e ws).after in
            let known = held t ok w.at q k (λ x n i o. refl) (λ x n v. refl) in
            let some : ¬ (m ≡ no_fault) = λ y. true≢false (sym (eq-eqb m no_fault y) ∙ z) in
            let why = chosen_by room right roomy e ws w in
            marked h (go e ws w.at q k known m why (number_parts w.at q k known m refl some))
          where
            go : (e : ℕ) (ws : Values) (at : Situation t zs types c c e ws) (q k : State machine) (known : Held t e ws.present (us t ok at) c c q k) (m : ℕ) → Chosen t step zs types room e q k
                → Parts at q k known m → PressRefusal t step zs types room m
            go e ws at q k known m why (inl f) = axiom_fault e q k why f
            go e ws at q k known m why (inr (a, f)) = press_at_fault e q k why (axioms_met at q k known m a) f

        by_choice : IsState t zs types → room ≡ count t 10 → (d : Choice) → choice t (lines step) (at_hand t zs) ≡ d → press_choice t zs d ≡ refused n row → (row ≡ 0) × PressRefusal t step zs types room n
        by_choice right roomy none q h = marked h (no_choice right roomy (λ e p k w. none_never (sym q ∙ chooses_choice right e p k w)))
        by_choice right roomy (chosen e ws) q h = by_fault right roomy e ws (chosen_situated t ok step zs types right e ws q) (eqb (press_fault t e (completed t e ws).present (completed t e ws).after) no_fault) refl h

        by_test : (b : Bool) → (is_state t zs types && eqb room (count t 10)) ≡ b → pick b (press_choice t zs (choice t (lines step) (at_hand t zs))) (refused log_fault 0) ≡ refused n row
            → (row ≡ 0) × PressRefusal t step zs types room n
        by_test true g h = let p = test_both room g in by_choice p.0 p.1 (choice t (lines step) (at_hand t zs)) refl h
        by_test false g h = marked h (wrong_list (λ (right, roomy). true≢false (sym (both_test room right roomy) ∙ g)))

    -- ---- and back
    choice_refused : (room n : ℕ) → IsState t zs types → room ≡ count t 10 → (d : Choice) → choice t (lines step) (at_hand t zs) ≡ d → press_choice t zs d ≡ refused n 0
        → press_on t step zs types room ≡ refused n 0
    unfolding press_on
    choice_refused room n right roomy d q h =
        ap (λ b. pick b (press_choice t zs (choice t (lines step) (at_hand t zs))) (refused log_fault 0)) (both_test room right roomy) ∙ ap (press_choice t zs) q ∙ h

    parts_refused : (room n e : ℕ) (q k : State machine) (w : Chosen t step zs types room e q k)
        → Parts (chooses_at w.is_state e q k w.chooses) q k (chosen_held w.is_state e q k w.chooses w.completes) n → press_on t step zs types room ≡ refused n 0
    parts_refused room n e q k w parts =
        let ws : Values = values w.is_state e q k w.chooses in
        let p = parts_number (chooses_at w.is_state e q k w.chooses) q k (chosen_held w.is_state e q k w.chooses w.completes) n parts in
        let m = press_fault t e (completed t e ws).present (completed t e ws).after in
        choice_refused room n w.is_state w.has_room (chosen e ws) (chooses_choice w.is_state e q k w.chooses)
        (ap (λ b. pick b (made (updated t (completed t e ws).after zs)) (refused m 0)) (ne_eqb m no_fault (λ y. p.1 (sym p.0 ∙ y))) ∙ ap (λ m. refused m 0) p.0)

    cause_refused : (room n : ℕ) → PressRefusal t step zs types room n → press_on t step zs types room ≡ refused n 0
    cause_refused room n (wrong_list h) = refused_where t step zs types room (not_both (is_state t zs types && eqb room (count t 10)) refl)
      where
        not_both : (b : Bool) → (is_state t zs types && eqb room (count t 10)) ≡ b → (is_state t zs types && eqb room (count t 10)) ≡ false
        not_both true g = absurd (h (test_both room g))
        not_both false g = g
    cause_refused room n (no_choice right roomy h) = go (choice t (lines step) (at_hand t zs)) refl
      where
        go : (d : Choice) → choice t (lines step) (at_hand t zs) ≡ d → press_on t step zs types room ≡ refused log_fault 0
        go none q = choice_refused room log_fault right roomy none q refl
        go (chosen e ws) q =
            let w = chosen_situated t ok step zs types right e ws q in
            absurd (h e (stored machine.type ws.present) (stored machine.type (completed t e ws).after) (record { is_event = w.is_event; is_other = w.is_other; in_form = w.in_form; written = w.written }))
    cause_refused room n (axiom_fault e q k w f) = parts_refused room n e q k w (inl f)
    cause_refused room n (press_at_fault e q k w axioms f) =
        let at = chooses_at w.is_state e q k w.chooses in
        let known = chosen_held w.is_state e q k w.chooses w.completes in
        parts_refused room n e q k w (inr (met_axioms at q k known n axioms, f))

-- the table's own refusal, or that of a press whose new state goes to a list of so many records, with row 0
abbrev pub Refuses : List ℕ → List ℕ → List Record → ℕ → ℕ → ℕ → Type 0
Refuses table step state room n row =
    (verdict_of table ≡ Err (refusal n row))
    ⊎ ((count : ℕ) × (verdict_of table ≡ Ok count) × (row ≡ 0) × PressRefusal (decoded table) step (values_in state) (types_in state) room n)

pub outcome_refused : (o : Outcome) (n row : ℕ) → reply_of o ≡ Err (refusal n row) → o ≡ refused n row
outcome_refused (made zs) n row h = absurd (performed_never (sym h))
outcome_refused (refused m i) n row h =
    ap₂ refused (ap (λ (p : Result (Unit {0}) Refusal). elim p [ Ok done ↦ m | Err r ↦ r.number ]) h) (ap (λ (p : Result (Unit {0}) Refusal). elim p [ Ok done ↦ i | Err r ↦ r.row ]) h)

pub records_refused : (table step : List ℕ) (state : List Record) (room n row : ℕ) → (reply_of (records_outcome table step state room) ≡ Err (refusal n row)) ↔ Refuses table step state room n row
unfolding records_outcome outcome
records_refused table step state room n row = (λ h. by (verdict_of table) refl (outcome_refused (outcome_by (verdict_of table) on) n row h), back)
  where
    on : Outcome
    on = press_on (decoded table) step (values_in state) (types_in state) room

    by : (v : Result ℕ Refusal) → verdict_of table ≡ v → outcome_by v on ≡ refused n row → Refuses table step state room n row
    by (Ok count) a h =
        let p = refused_cause (decoded table) (accepted_obeys table count a) step (values_in state) (types_in state) room n row h in
        inr (count, a, p.0, p.1)
    by (Err r) a h = inl (a ∙ ap₂ (λ m i. Err (refusal m i)) (refused_number h) (refused_row h))

    back : Refuses table step state room n row → reply_of (outcome_by (verdict_of table) on) ≡ Err (refusal n row)
    back (inl a) = ap (λ v. reply_of (outcome_by v on)) a
    back (inr (count, a, z, p)) =
        ap (λ v. reply_of (outcome_by v on)) a ∙ ap reply_of (cause_refused (decoded table) (accepted_obeys table count a) step (values_in state) (types_in state) room n p) ∙ ap (λ r. Err (refusal n r)) (sym z)

pub press_refused_lem : (table step : List ℕ) (state : List Record) (n row : ℕ) → ((press table step state).reply ≡ Err (refusal n row)) ↔ Refuses table step state (length state) n row
unfolding press
press_refused_lem table step state n row = records_refused table step state (length state) n row

pub preview_refused_lem : (table step : List ℕ) (first second : List Record) (n row : ℕ) → ((preview table step first second).reply ≡ Err (refusal n row)) ↔ Refuses table step first (length second) n row
unfolding preview
preview_refused_lem table step first second n row = records_refused table step first (length second) n row

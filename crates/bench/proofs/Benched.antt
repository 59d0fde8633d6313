-- 02, request 6: press after press is replay. The steps of a log that replay accepts are pressed one after another, from the state that the initialisation leaves, and each
-- makes the state that the log has; and a log of steps that are so pressed is one that replay accepts. Both ways by induction on the steps.
use Prim.Native.Nat.{ℕ}
use mathlib.Core.Path.{◌≡◌, refl, sym, ap, ap₂, ◌∙◌, subst}
use mathlib.Core.Bool.{Bool, true, false}
use mathlib.Core.List.{List, [], ◌∷◌, ◌++◌, map, flat_map, append-nil}
use mathlib.Core.Logic.{◌↔◌}
use lib.Dec.{T}
use lib.IntN.{ℤ}
use lib.ListN.{length}
use Rattle.std.specs.Prelude.{Ok}
use Rattle.lists.specs.Choice.{pick}
use Rattle.lists.specs.All.{All, all_nil, all_cons, In}
use Rattle.lists.proofs.All.{all_head, all_tail, all_at, all_in, all_left, all_right, all_join, all_map, all_unmap}
use Rattle.lists.proofs.Flat.{flat_join}
use Rattle.row.specs.Row.{greatest, width, row_bytes, Writable}
use Rattle.row.specs.declared.Row.{Row}
use Rattle.std.specs.Prelude.{Some}
use Rattle.formula.proofs.Truth.{or_left, or_right, true_test}
use Rattle.answer.specs.Stored.{stored_value, stored}
use Rattle.table.specs.Rows.{Rows, count, named}
use Rattle.machine.specs.Machine.{Machine}
use Rattle.machine.specs.Described.{machine_of}
use Rattle.machine.proofs.Described.{variable_named}
use Rattle.rules.specs.Decoded.{decoded}
use Rattle.rules.specs.Verdict.{verdict as verdict_of}
use Rattle.rules.proofs.Obeys.{Obeys}
use Rattle.run.specs.Run.{State, blank, AllReadTrue, Step, Taken, of_run, Follows}
use Rattle.recording.specs.Rows.{is_initial, is_given, is_state_variable, is_step_row, logged}
use Rattle.recording.specs.Lines.{lines}
use Rattle.recording.specs.Faults.{no_fault}
use Rattle.recording.specs.Replay.{Values, replay}
use Rattle.recording.specs.Recorded.{value_row, logged_value, step_rows, steps_rows, run_rows, constants_alone, AllInside, StepInside, StepsInside, Recorded}
use Rattle.recording.proofs.Lines.{written_lines}
use Rattle.recording.proofs.Steps.{logged_in, logged_variable, logged_parameter, of_variable, variable_of_lem}
use Rattle.recording.proofs.Runs.{step_row_of, step_row, event_of, of_event_lem, later_role, role_later}
use Rattle.recording.proofs.Exact.{replay_exact}
use Rattle.bench.specs.declared.Record.{Record}
use Rattle.bench.specs.State.{values_in, types_in, value_of, IsState, updated, with_values_of}
use Rattle.bench.specs.Choice.{chosen, none, asked, choice}
use Rattle.bench.specs.Press.{made, at_hand, completed, press_fault, press_on}
use Rattle.bench.specs.Pressed.{state_of, left, choice_rows, records_of}
use Rattle.bench.specs.Benched.{PressedAll, pressed_none, pressed_next, Benched}
use Rattle.bench.proofs.Lengths.{Pressing, made_pressing}
use Rattle.bench.proofs.Chosen.{none_never, chosen_event, chosen_values, in_asked, rows_choice}
use Rattle.bench.proofs.Performed.{Shows}
use Rattle.bench.proofs.Pressed.{asked_by, made_pressed, readings, situation, faultless_taking, step_made}
use Rattle.bench.proofs.Records.{with_values, with_types, values_length, left_length, left_state, left_shows, left_same, updated_value, records_state, records_show}
use Rattle.bench.proofs.Exact.{accepted_obeys, press_made, made_press, records_made, made_records, made_size}

module _ (t : Rows) where
  abbrev machine : Machine
  machine = machine_of t

  -- a choice's rows are rows of the log
  choice_writable : (e : ℕ) (c q k : State machine) → is_initial t e ≡ false → All (Writable greatest width) (step_rows t e c q k) → All (Writable greatest width) (choice_rows t e q k)
  unfolding machine_of
  choice_writable e c q k initial w =
      all_cons (all_head w) (all_map (λ x. value_row t x (logged_value t (blank machine) q k x)) (all_in (asked t e) (λ x i.
      let a = in_asked t e x i in
      let values = all_unmap (λ x. value_row t x (logged_value t c q k x)) (logged t e) (all_tail w) in
      asked_by t e x initial a.1
      (λ g j. subst (λ v. Writable greatest width (value_row t x v)) (logged_parameter t c q k x j ∙ sym (logged_parameter t (blank machine) q k x j))
      (all_at values (logged_in t e x a.0 (or_left (is_given t e x) (is_state_variable t x) g))))
      (λ v r b. subst (λ v. Writable greatest width (value_row t x v)) (logged_variable t c q k x v ∙ sym (logged_variable t (blank machine) q k x v))
      (all_at values (logged_in t e x a.0 (or_right (is_given t e x) (is_state_variable t x) v)))))))

  pub variable_is_named : (x : ℕ) → In x machine.concrete_variables → T (named t 10 x)
  unfolding machine_of
  variable_is_named x i = (variable_named t 3 x i).0

  -- the axioms are met
  abbrev Met : State machine → Type 0
  Met c = AllReadTrue machine (constants_alone t c) machine.axioms × AllInside t (constants_alone t c) machine.axioms

  -- ---- a press that makes a state with the after values of a step is that step of the run
  module _ (ok : Obeys t) (zs : List ℤ) (types : List ℕ) (right : IsState t zs types) (c s : State machine) (shows : Shows t zs c s) (e : ℕ) (q k : State machine)
      (writable : All (Writable greatest width) (choice_rows t e q k)) (step : List ℕ) (ls : lines step ≡ map Some (choice_rows t e q k)) (room : ℕ) (ys : List ℤ)
      (h : press_on t step zs types room ≡ made ys) (afters : All (λ x. state_of t ys x ≡ k x) machine.concrete_variables) where
    pub record Steps-so : Type 0 where
      pub is_event : In e machine.events
      pub is_other : T (of_run machine (machine.role e))
      pub is_step : Step machine (machine.role e) e c s q k
      pub inside : StepInside t (machine.role e) e c s q k

    pressed : Pressing t step zs types room ys
    pressed = made_pressing t step zs types room ys h

    -- the choice, by whether its row 90 is a step's
    chose : (b : Bool) → is_step_row t false (step_row_of t e) ≡ b → pick b (chosen e (readings t ok zs types right c s shows e q k writable)) none ≡ chosen pressed.event pressed.values → Steps-so
    unfolding state_of stored
    chose false g z = absurd (none_never z)
    chose true g z =
        let row = step_row t false (step_row_of t e) (true_test _ g) in
        let ws : Values = readings t ok zs types right c s shows e q k writable in
        let at = situation t ok zs types right c s shows e q k writable row.is_event row.concrete row.initial in
        let same : completed t pressed.event pressed.values ≡ completed t e ws = sym (ap₂ (completed t) (chosen_event z) (chosen_values z)) in
        let faultless : press_fault t e (completed t e ws).present (completed t e ws).after ≡ no_fault =
        ap₂ (λ e (vs : Values). press_fault t e vs.present vs.after) (chosen_event z) (sym same) ∙ pressed.faultless in
        let makes : ys ≡ updated t (completed t e ws).after zs = pressed.makes ∙ ap (λ (vs : Values). updated t vs.after zs) same in
        let taking = faultless_taking t ok zs types right c s shows e q k writable row.is_event row.concrete row.initial
        (λ x n v. ap (stored_value (machine.type x)) (sym (updated_value t (completed t e ws).after zs types right x n v) ∙ sym (ap (λ ys. value_of ys x) makes)) ∙ all_at afters (of_variable t x n v))
        faultless in
        record { is_event = event_of t e row.is_event; is_other = later_role t ok e row.is_event row.concrete row.initial; is_step = taking.is_step; inside = taking.inside }

    pub pressed_step : Steps-so
    pressed_step =
        chose (is_step_row t false (step_row_of t e)) refl (sym (ap (λ ls. choice t ls (at_hand t zs)) ls ∙ rows_choice t ok zs e q k writable) ∙ pressed.chooses)

    -- and the state that it makes is what the step leaves
    pub pressed_left : ys ≡ left t k zs
    pressed_left =
        let p = made_pressed t ok step zs types room ys h in
        let j : State machine = p.taken.result in
        p.leaves ∙ left_same t j k zs types right (λ x n v.
        sym ((left_shows t j zs types right c s shows).variables x n v) ∙ ap (λ ys. state_of t ys x) (sym p.leaves) ∙ all_at afters (of_variable t x n v))

module _ (table : List ℕ) (n : ℕ) (accepted : verdict_of table ≡ Ok n) where
  abbrev t : Rows
  t = decoded table

  abbrev m : Machine
  m = machine_of t

  obeys : Obeys t
  obeys = accepted_obeys table n accepted

  -- a step's choice, as bytes
  abbrev choice_bytes : Taken m → List ℕ
  choice_bytes a = flat_map (row_bytes width) (choice_rows t a.event a.parameters a.result)

  -- ---- the steps of a run are pressed
  pub follows_pressed : (ss : List (Taken m)) (rs : List Record) (c s : State m) → IsState t (values_in rs) (types_in rs) → Shows t (values_in rs) c s → Met t c
      → Follows m c s ss → StepsInside t c s ss → All (Writable greatest width) (steps_rows t c ss) → PressedAll table rs ss
  unfolding flat_map
  follows_pressed [] rs c s right shows axioms f g w = pressed_none
  follows_pressed (a ∷ ss) rs c s right shows axioms f g w =
      let e = a.event in
      let q = a.parameters in
      let k = a.result in
      let zs = values_in rs in
      let event = of_event_lem t e f.0 in
      let role = role_later t obeys e event f.1 in
      let writable = choice_writable t e c q k role.1 (all_left (step_rows t e c q k) (steps_rows t c ss) w) in
      let room : length rs ≡ count t 10 = sym (values_length rs) ∙ right.size in
      let on = step_made t obeys zs (types_in rs) right c s shows e q k writable event role.0 role.1 (choice_bytes a) (length rs) (written_lines (choice_rows t e q k) writable) room
      (record { axioms = axioms; is_step = f.2; inside = g.0 }) in
      let size : length (left t k zs) ≡ length rs = left_length t k zs (types_in rs) right ∙ values_length rs in
      let rs' : List Record = with_values_of (left t k zs) rs in
      let values : left t k zs ≡ values_in rs' = sym (with_values (left t k zs) rs size) in
      let types : types_in rs ≡ types_in rs' = sym (with_types (left t k zs) rs size) in
      let shows' : Shows t (values_in rs') c k = subst (λ zs. Shows t zs c k) values (left_shows t k zs (types_in rs) right c s shows) in
      pressed_next writable (made_press table (choice_bytes a) rs (left t k zs) (records_made table (choice_bytes a) rs n (left t k zs) accepted on))
      (all_in m.concrete_variables (λ x i. shows'.variables x (variable_is_named t x i) (variable_of_lem t x i)))
      (follows_pressed ss rs' c k (subst (λ zs. IsState t zs (types_in rs')) values (subst (IsState t (left t k zs)) types (left_state t k zs (types_in rs) right))) shows' axioms f.3 g.1
      (all_right (step_rows t e c q k) w))

  -- ---- steps that are pressed are a run
  pub record Run (c s : State m) (ss : List (Taken m)) : Type 0 where
    pub follows : Follows m c s ss
    pub inside : StepsInside t c s ss

  pub pressed_follows : (ss : List (Taken m)) (rs : List Record) (c s : State m) → IsState t (values_in rs) (types_in rs) → Shows t (values_in rs) c s → PressedAll table rs ss → Run c s ss
  pressed_follows [] rs c s right shows p = record { follows = tt; inside = tt }
  pressed_follows (a ∷ ss) rs c s right shows (pressed_next {state' = rs'} writable performed afters rest) =
      let e = a.event in
      let q = a.parameters in
      let k = a.result in
      let zs = values_in rs in
      let (ys, made-ys, are) = press_made table (choice_bytes a) rs rs' performed in
      let (count, accepts, on) = made_records table (choice_bytes a) rs (length rs) ys made-ys in
      let size : length ys ≡ length rs = made_size table (choice_bytes a) rs (length rs) ys made-ys in
      let values : values_in rs' ≡ ys = ap values_in are ∙ with_values ys rs size in
      let types : types_in rs' ≡ types_in rs = ap types_in are ∙ with_types ys rs size in
      let has = subst (λ zs. All (λ x. state_of t zs x ≡ k x) m.concrete_variables) values afters in
      let ls = written_lines (choice_rows t e q k) writable in
      let step = pressed_step t obeys zs (types_in rs) right c s shows e q k writable (choice_bytes a) ls (length rs) ys on has in
      let left_is : ys ≡ left t k zs = pressed_left t obeys zs (types_in rs) right c s shows e q k writable (choice_bytes a) ls (length rs) ys on has in
      let next = pressed_follows ss rs' c k (subst (IsState t (values_in rs')) (sym types) (subst (λ zs. IsState t zs (types_in rs)) (sym (values ∙ left_is)) (left_state t k zs (types_in rs) right)))
      (subst (λ zs. Shows t zs c k) (sym (values ∙ left_is)) (left_shows t k zs (types_in rs) right c s shows)) rest in
      record { follows = (step.is_event, step.is_other, step.is_step, next.follows); inside = (step.inside, next.inside) }

  -- ---- the whole log
  abbrev run_bytes : ℕ → State m → State m → List (Taken m) → List ℕ
  run_bytes e c k ss = flat_map (row_bytes width) (run_rows t e c k ss)

  pub replay_benched : (run : List ℕ) (total : ℕ) → replay table run ≡ Ok total → Benched table run total
  unfolding flat_map
  replay_benched run total h =
      let (count, accepts, (r, inside, number)) = (replay_exact table run total).0 h in
      let e = r.event in
      let c = r.constants in
      let k = r.outcome in
      let first : List Row = step_rows t e c (blank m) k in
      let alone : All (Writable greatest width) (run_rows t e c k []) = all_join (all_left first (steps_rows t c r.steps) r.in_form) all_nil in
      let start : Recorded t (run_bytes e c k []) = record {
        event = e;
        matched = r.matched;
        constants = c;
        outcome = k;
        steps = [];
        is_event = r.is_event;
        is_initialisation = r.is_initialisation;
        axioms = r.axioms;
        start = r.start;
        follows = tt;
        in_form = alone;
        written = refl;
      } in
      record {
        first = run_bytes e c k [];
        start = start;
        inside = record { axioms = inside.axioms; start = inside.start; steps = tt };
        alone = refl;
        steps = r.steps;
        in_form = all_right first r.in_form;
        written = r.written ∙ flat_join (row_bytes width) first (steps_rows t c r.steps) ∙ ap (λ bytes. bytes ++ flat_map (row_bytes width) (steps_rows t c r.steps)) (ap (flat_map (row_bytes width)) (sym (append-nil first)));
        pressed = follows_pressed r.steps (records_of t c k) c k (records_state t c k) (records_show t c k) (r.axioms, inside.axioms) r.follows inside.steps (all_right first r.in_form);
        count = number;
      }

  pub benched_replay : (run : List ℕ) (total : ℕ) → Benched table run total → replay table run ≡ Ok total
  unfolding flat_map
  benched_replay run total b =
      let r = b.start in
      let e = r.event in
      let c = r.constants in
      let k = r.outcome in
      let first : List Row = step_rows t e c (blank m) k in
      let rest = pressed_follows b.steps (records_of t c k) c k (records_state t c k) (records_show t c k) b.pressed in
      let rows : All (Writable greatest width) (run_rows t e c k r.steps) = r.in_form in
      let whole : Recorded t run = record {
        event = e;
        matched = r.matched;
        constants = c;
        outcome = k;
        steps = b.steps;
        is_event = r.is_event;
        is_initialisation = r.is_initialisation;
        axioms = r.axioms;
        start = r.start;
        follows = rest.follows;
        in_form = all_join (all_left first (steps_rows t c r.steps) rows) b.in_form;
        written = b.written
            ∙ ap (λ bytes. bytes ++ flat_map (row_bytes width) (steps_rows t c b.steps)) (r.written ∙ ap (λ ss. flat_map (row_bytes width) (first ++ steps_rows t c ss)) b.alone ∙ ap (flat_map (row_bytes width)) (append-nil first))
            ∙ sym (flat_join (row_bytes width) first (steps_rows t c b.steps));
      } in
      (replay_exact table run total).1 (n, accepted, (whole, record { axioms = b.inside.axioms; start = b.inside.start; steps = rest.inside }, b.count))

-- press after press is replay, both ways
pub press_replay : (table run : List ℕ) (n : ℕ) → verdict_of table ≡ Ok n → (total : ℕ) → (replay table run ≡ Ok total) ↔ Benched table run total
press_replay table run n accepted total = (replay_benched table n accepted run total, benched_replay table n accepted run total)

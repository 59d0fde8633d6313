-- 02, request 5: the reply is the number of steps if and only if the log is a run by the scope paper's definition and no term met leaves signed 64 bits. Both ways by
-- induction on the steps, one step at a time.
use Prim.Native.Nat.{ℕ, zero, suc, ◌+◌, ◌-◌, ◌≤◌, ◌<◌}
use mathlib.Core.Path.{◌≡◌, refl, sym, ap, ap₂, ◌∙◌, subst}
use mathlib.Core.Bool.{Bool, true, false, true≢false, not, ◌&&◌, beq}
use mathlib.Core.List.{List, [], ◌∷◌, ◌++◌, map, flat_map, map-map, map-append}
use native.Mathlib.Omega.{arith}
use lib.Dec.{T, eqb, eqb→eq}
use lib.IntN.{pos}
use lib.ListN.{length, length-append, length-map, length-replicate}
use borrow.Author.Tests.{eq-eqb, ne_eqb}
use Rattle.std.specs.Prelude.{Result, Ok, Err}
use Rattle.lists.specs.Choice.{pick}
use Rattle.lists.specs.All.{All, In}
use Rattle.lists.proofs.All.{all_tail, all_left, all_right, all_unmap, map_same}
use Rattle.row.specs.Row.{greatest, width, Writable}
use Rattle.row.specs.declared.Row.{Row}
use Rattle.row.specs.Reading.{Line}
use Rattle.std.specs.Prelude.{Some, None}
use Rattle.formula.proofs.Truth.{and_split, and_join, true_test, test_true, eq→eqb}
use Rattle.answer.specs.Stored.{stored}
use Rattle.table.specs.Rows.{Rows, named, machine_number, class_of, refined_by}
use Rattle.machine.specs.Machine.{Role, abstract_initialisation, abstract_ordinary, concrete_initialisation, refining, convergent, anticipated, Machine}
use Rattle.machine.specs.Described.{role_numbered, machine_of}
use Rattle.machine.proofs.Described.{event_named, named_event}
use Rattle.machine.proofs.Roles.{RoleSays}
use Rattle.rules.proofs.Obeys.{Obeys}
use Rattle.rules.proofs.Events.{event_says}
use Rattle.run.specs.Run.{State, blank, Step, Taken, of_run, Follows}
use Rattle.rules.specs.declared.Refusal.{Refusal}
use Rattle.rules.specs.Refusal.{refused}
use Rattle.recording.specs.Rows.{is_initial, logged, is_step_row}
use Rattle.recording.specs.Lines.{lines}
use Rattle.recording.specs.Faults.{no_fault, log_fault, step_fault}
use Rattle.recording.specs.Replay.{Values, Found, found, bad, read_values, moved, judged, replay_from, no_values, replay_log}
use Rattle.recording.specs.Recorded.{value_row, logged_value, step_rows, steps_rows, run_rows, StepInside, StepsInside, Recorded, Inside}
use Rattle.recording.proofs.Step.{Held, Allowed, fault_allowed, allowed_fault}
use Rattle.recording.proofs.Values.{row_parts, LineFormed, Sized, value_at, read_size, read_rows, Reads, rows_read_lem}
use Rattle.recording.proofs.Lines.{lines_formed, lines_written, written_lines}
use Rattle.recording.proofs.Steps.{Ready, LoggedAre, stored_logged, held_first, held_later, ready_next, logged_distinct, logged_small}

pub steps_never : {number row n : ℕ} → Err (refused number row) ≡ Ok n → ⊥
steps_never e = true≢false (ap (λ (r : Result ℕ Refusal). elim r [ Ok n ↦ false | Err x ↦ true ]) e)

steps_are : {m n : ℕ} → ◌≡◌ {A = Result ℕ Refusal} (Ok m) (Ok n) → m ≡ n
steps_are {m} e = ap (λ (r : Result ℕ Refusal). elim r [ Ok n ↦ n | Err x ↦ m ]) e

beq_is : (a b : Bool) → T (beq a b) → a ≡ b
beq_is true true h = refl
beq_is true false h = absurd h
beq_is false true h = absurd h
beq_is false false h = refl

is_beq : (a b : Bool) → a ≡ b → T (beq a b)
is_beq true true h = tt
is_beq true false h = absurd (true≢false h)
is_beq false true h = absurd (true≢false (sym h))
is_beq false false h = tt

-- the events of the machines
pub event_of : (t : Rows) (e : ℕ) → T (named t 40 e) → In e (machine_of t).events
unfolding machine_of
event_of t e n = named_event t e n

pub of_event_lem : (t : Rows) (e : ℕ) → In e (machine_of t).events → T (named t 40 e)
unfolding machine_of
of_event_lem t e i = event_named t e i

module _ (t : Rows) where
  abbrev machine : Machine
  machine = machine_of t

  abbrev pub step_row_of : ℕ → Row
  step_row_of e = record { tag = 90; a = e; b = 0; c = 0 }

  -- ---- a step's row 90
  pub record StepRow (first : Bool) (r : Row) : Type 0 where
    pub is_row : r ≡ step_row_of r.a
    pub is_event : T (named t 40 r.a)
    pub concrete : machine_number t r.a ≡ 2
    pub initial : is_initial t r.a ≡ first

  pub step_row : (first : Bool) (r : Row) → T (is_step_row t first r) → StepRow first r
  step_row first r h =
      let e = r.a in
      let event : Bool = named t 40 e && (eqb (machine_number t e) 2 && beq (is_initial t e) first) in
      let p = and_split (eqb r.tag 90) (event && (eqb r.b 0 && eqb r.c 0)) h in
      let q = and_split event (eqb r.b 0 && eqb r.c 0) p.1 in
      let n = and_split (named t 40 e) (eqb (machine_number t e) 2 && beq (is_initial t e) first) q.0 in
      let k = and_split (eqb (machine_number t e) 2) (beq (is_initial t e) first) n.1 in
      let z = and_split (eqb r.b 0) (eqb r.c 0) q.1 in
      record {
        is_row = row_parts r (eqb→eq r.tag 90 p.0) refl (eqb→eq r.b 0 z.0) (eqb→eq r.c 0 z.1);
        is_event = n.0;
        concrete = eqb→eq (machine_number t e) 2 k.0;
        initial = beq_is (is_initial t e) first k.1;
      }

  pub row_step : (first : Bool) (e : ℕ) → T (named t 40 e) → machine_number t e ≡ 2 → is_initial t e ≡ first → is_step_row t first (step_row_of e) ≡ true
  row_step first e n m i =
      test_true _ (and_join (named t 40 e && (eqb (machine_number t e) 2 && beq (is_initial t e) first)) true
      (and_join (named t 40 e) (eqb (machine_number t e) 2 && beq (is_initial t e) first) n
      (and_join (eqb (machine_number t e) 2) (beq (is_initial t e) first) (eq→eqb (machine_number t e) 2 m) (is_beq (is_initial t e) first i))) tt)

  module _ (ok : Obeys t) where
    abbrev Says : ℕ → Role → Type 0
    Says e ro = RoleSays (machine_number t e) (class_of t e) (refined_by t e) ro

    -- the role of a step's event
    pub later_role : (e : ℕ) → T (named t 40 e) → machine_number t e ≡ 2 → is_initial t e ≡ false → T (of_run machine (machine.role e))
    unfolding machine_of
    later_role e n m i = go (machine.role e) (event_says t ok e (machine.role e) n refl)
      where
        go : (ro : Role) → Says e ro → T (of_run machine ro)
        go abstract_initialisation s = absurd (let z : machine_number t e ≡ 1 = s.0 in omega (arith, m))
        go abstract_ordinary s = absurd (let z : machine_number t e ≡ 1 = s.0 in omega (arith, m))
        go (concrete_initialisation f) s = absurd (true≢false (sym (eq-eqb (class_of t e) 0 s.1) ∙ i))
        go (refining f) s = tt
        go convergent s = tt
        go anticipated s = tt

    first_role : (e : ℕ) → machine_number t e ≡ 2 → is_initial t e ≡ true → machine.role e ≡ concrete_initialisation 1
    unfolding machine_of role_numbered
    first_role e m i = ap₂ (λ m c. role_numbered m c (refined_by t e)) m (eqb→eq (class_of t e) 0 (true_test _ i))

    pub role_later : (e : ℕ) → T (named t 40 e) → T (of_run machine (machine.role e)) → (machine_number t e ≡ 2) × (is_initial t e ≡ false)
    unfolding machine_of
    role_later e n h = go (machine.role e) (event_says t ok e (machine.role e) n refl) h
      where
        go : (ro : Role) → Says e ro → T (of_run machine ro) → (machine_number t e ≡ 2) × (is_initial t e ≡ false)
        go abstract_initialisation s h = absurd h
        go abstract_ordinary s h = absurd h
        go (concrete_initialisation f) s h = absurd h
        go (refining f) s h = (s.0, ne_eqb (class_of t e) 0 (λ z. omega (arith, s.1)))
        go convergent s h = (s.0, ne_eqb (class_of t e) 0 (λ z. omega (arith, s.1)))
        go anticipated s h = (s.0, ne_eqb (class_of t e) 0 (λ z. omega (arith, s.1)))

    role_first : (e f : ℕ) → T (named t 40 e) → machine.role e ≡ concrete_initialisation f → (machine_number t e ≡ 2) × (is_initial t e ≡ true)
    unfolding machine_of
    role_first e f n h = let s = event_says t ok e (concrete_initialisation f) n h in (s.0, eq-eqb (class_of t e) 0 s.1)

  -- ---- one step of a replay that ends with a number of steps
  record Passed (most n i : ℕ) (r : Row) (ls : List Line) (vs : Values) (total : ℕ) : Type 0 where
    values : Values
    rest : List Line
    good : T (is_step_row t (eqb n 0) r)
    reads : read_values t r.a (logged t r.a) (i + 1) ls vs ≡ found values rest
    fault : step_fault t r.a values.present values.after ≡ no_fault
    next : replay_from t most (n + 1) (i + 1 + length (logged t r.a)) rest (moved t values) ≡ Ok total

  replay_passes : (most n i : ℕ) (r : Row) (ls : List Line) (vs : Values) (total : ℕ) → replay_from t (suc most) n i (Some r ∷ ls) vs ≡ Ok total → Passed most n i r ls vs total
  unfolding replay_from
  replay_passes most n i r ls vs total h = by_row (is_step_row t (eqb n 0) r) refl h
    where
      e : ℕ
      e = r.a

      next : List Line → Values → Result ℕ Refusal
      next rest ws = replay_from t most (n + 1) (i + 1 + length (logged t e)) rest ws

      by_fault : (ws : Values) (rest : List Line) → T (is_step_row t (eqb n 0) r) → read_values t e (logged t e) (i + 1) ls vs ≡ found ws rest → (b : Bool)
          → eqb (step_fault t e ws.present ws.after) no_fault ≡ b → pick b (next rest (moved t ws)) (Err (refused (step_fault t e ws.present ws.after) i)) ≡ Ok total
          → Passed most n i r ls vs total
      by_fault ws rest g d true q h =
          record { values = ws; rest = rest; good = g; reads = d; fault = eqb→eq (step_fault t e ws.present ws.after) no_fault (true_test _ q); next = h }
      by_fault ws rest g d false q h = absurd (steps_never h)

      by_values : (f : Found) → T (is_step_row t (eqb n 0) r) → read_values t e (logged t e) (i + 1) ls vs ≡ f → judged t i e f next ≡ Ok total → Passed most n i r ls vs total
      by_values (bad j) g d h = absurd (steps_never h)
      by_values (found ws rest) g d h = by_fault ws rest g d (eqb (step_fault t e ws.present ws.after) no_fault) refl h

      by_row : (b : Bool) → is_step_row t (eqb n 0) r ≡ b → pick b (judged t i e (read_values t e (logged t e) (i + 1) ls vs) next) (Err (refused log_fault i)) ≡ Ok total
          → Passed most n i r ls vs total
      by_row true g h = by_values (read_values t e (logged t e) (i + 1) ls vs) (true_test _ g) refl h
      by_row false g h = absurd (steps_never h)

  -- the other way round
  passes_replay : (most n i : ℕ) (r : Row) (ls : List Line) (vs : Values) (total : ℕ) → Passed most n i r ls vs total → replay_from t (suc most) n i (Some r ∷ ls) vs ≡ Ok total
  unfolding replay_from
  passes_replay most n i r ls vs total p =
      let e : ℕ = r.a in
      let ws : Values = p.values in
      let next : List Line → Values → Result ℕ Refusal = λ rest ws. replay_from t most (n + 1) (i + 1 + length (logged t e)) rest ws in
      let then : judged t i e (read_values t e (logged t e) (i + 1) ls vs) next ≡ judged t i e (found ws p.rest) next = ap (λ (f : Found). judged t i e f next) p.reads in
      ap (λ b. pick b (judged t i e (read_values t e (logged t e) (i + 1) ls vs) next) (Err (refused log_fault i))) (test_true (is_step_row t (eqb n 0) r) p.good)
      ∙ then
      ∙ ap (λ b. pick b (next p.rest (moved t ws)) (Err (refused (step_fault t e ws.present ws.after) i))) (eq-eqb (step_fault t e ws.present ws.after) no_fault p.fault)
      ∙ p.next

  -- ---- the rows of a step
  value_lines_lem : (e : ℕ) (ws : Values) (c q k : State machine) → LoggedAre t e ws c q k
      → map (λ x. Some (value_row t x (value_at t e ws x))) (logged t e) ≡ map Some (map (λ x. value_row t x (logged_value t c q k x)) (logged t e))
  value_lines_lem e ws c q k are =
      map_same _ _ (logged t e) (λ x i. ap (λ v. Some (value_row t x v)) (are x i)) ∙ sym (map-map Some (λ x. value_row t x (logged_value t c q k x)) (logged t e))

  module _ (ok : Obeys t) (first : Bool) (most n i : ℕ) (r : Row) (ls : List Line) (vs : Values) (total : ℕ) (is-first : eqb n 0 ≡ first) (size : Sized vs)
      (formed : All LineFormed ls) (p : Passed most n i r ls vs total) where
    abbrev event : ℕ
    event = r.a

    passed_row : StepRow first r
    passed_row = step_row first r (subst (λ b. T (is_step_row t b r)) is-first p.good)

    passed_size : Sized p.values
    passed_size = read_size t event (logged t event) (i + 1) ls vs p.values p.rest size p.reads

    passed_lines : ls ≡ map (λ x. Some (value_row t x (value_at t event p.values x))) (logged t event) ++ p.rest
    passed_lines = read_rows t event (logged t event) (i + 1) ls vs p.values p.rest size (logged_distinct t event) (logged_small t ok event) formed p.reads

    passed_formed : All LineFormed p.rest
    passed_formed = all_right (map (λ x. Some (value_row t x (value_at t event p.values x))) (logged t event)) (subst (All LineFormed) passed_lines formed)

    -- the step's rows, with what follows them
    passed_rows : (c q k : State machine) → LoggedAre t event p.values c q k → (rs : List Row) → p.rest ≡ map Some rs → Some r ∷ ls ≡ map Some (step_rows t event c q k ++ rs)
    passed_rows c q k are rs h =
        ap₂ (λ r ls. Some r ∷ ls) passed_row.is_row
        (passed_lines ∙ ap₂ ◌++◌ (value_lines_lem event p.values c q k are) h ∙ sym (map-append Some (map (λ x. value_row t x (logged_value t c q k x)) (logged t event)) rs))

  -- ---- the steps after the initialisation
  record Rest (c s : State machine) (ls : List Line) (n total : ℕ) : Type 0 where
    steps : List (Taken machine)
    rows : ls ≡ map Some (steps_rows t c steps)
    follows : Follows machine c s steps
    inside : StepsInside t c s steps
    count : total ≡ n - 1 + length steps

  replay_rest_lem : Obeys t → (most n i : ℕ) (ls : List Line) (vs : Values) (c s : State machine) (total : ℕ) → 0 < n → All LineFormed ls → Ready t vs c s
      → replay_from t most n i ls vs ≡ Ok total → Rest c s ls n total
  unfolding replay_from flat_map
  replay_rest_lem ok zero n i ls vs c s total more formed ready h = absurd (steps_never h)
  replay_rest_lem ok (suc most) n i [] vs c s total more formed ready h =
      let z = ne_eqb n 0 (λ e. omega (arith, more)) in
      record { steps = []; rows = refl; follows = tt; inside = tt; count = sym (steps_are (sym (ap (λ b. pick b (Err (refused log_fault 0)) (Ok (n - 1))) z) ∙ h)) ∙ omega arith }
  replay_rest_lem ok (suc most) n i (None ∷ ls) vs c s total more formed ready h = absurd (steps_never h)
  replay_rest_lem ok (suc most) n i (Some r ∷ ls) vs c s total more formed ready h =
      let e : ℕ = r.a in
      let p = replay_passes most n i r ls vs total h in
      let later = ne_eqb n 0 (λ e. omega (arith, more)) in
      let size = ready.size in
      let row = passed_row ok false most n i r ls vs total later size (all_tail formed) p in
      let ws : Values = p.values in
      let q : State machine = stored machine.type ws.present in
      let k : State machine = stored machine.type ws.after in
      let are = stored_logged t e ws c q (λ i. absurd (subst T row.initial i)) (λ i. refl) in
      let held = held_later t ok e ws c q k are row.initial s (i + 1) ls p.rest vs ready p.reads in
      let allowed = fault_allowed t ok e row.is_event row.concrete ws.present ws.after c s q k held p.fault in
      let rest = replay_rest_lem ok most (n + 1) (i + 1 + length (logged t e)) p.rest (moved t ws) c k total (omega arith)
      (passed_formed ok false most n i r ls vs total later size (all_tail formed) p)
      (ready_next t ok e ws c s q k (passed_size ok false most n i r ls vs total later size (all_tail formed) p) held) p.next in
      record {
        steps = record { event = e; parameters = q; result = k } ∷ rest.steps;
        rows = passed_rows ok false most n i r ls vs total later size (all_tail formed) p c q k are (steps_rows t c rest.steps) rest.rows;
        follows = (event_of t e row.is_event, later_role ok e row.is_event row.concrete row.initial, allowed.step, rest.follows);
        inside = (allowed.inside, rest.inside);
        count = rest.count ∙ omega (arith, more);
      }

  -- ---- the other way round: the rows of a step are read, and it has no fault
  step_lines : (e : ℕ) (c q k : State machine) (rs : List Row)
      → map Some (step_rows t e c q k ++ rs) ≡ Some (step_row_of e) ∷ (map (λ x. Some (value_row t x (logged_value t c q k x))) (logged t e) ++ map Some rs)
  step_lines e c q k rs =
      ap (λ ls. Some (step_row_of e) ∷ ls)
      (map-append Some (map (λ x. value_row t x (logged_value t c q k x)) (logged t e)) rs
      ∙ ap (λ ls. ls ++ map Some rs) (map-map Some (λ x. value_row t x (logged_value t c q k x)) (logged t e)))

  module _ (ok : Obeys t) (i e : ℕ) (vs : Values) (c q k : State machine) (rs : List Row) (size : Sized vs) (writable : All (Writable greatest width) (step_rows t e c q k ++ rs)) where
    abbrev others : List Line
    others = map (λ x. Some (value_row t x (logged_value t c q k x))) (logged t e) ++ map Some rs

    rows_found : Reads t e (logged t e) (i + 1) others vs (map Some rs) (logged_value t c q k)
    rows_found =
        rows_read_lem t e (logged t e) (i + 1) vs (map Some rs) (logged_value t c q k) size (logged_distinct t e) (logged_small t ok e)
        (all_unmap (λ x. value_row t x (logged_value t c q k x)) (logged t e) (all_tail (all_left (step_rows t e c q k) rs writable)))

    rows_size : Sized rows_found.values
    rows_size = read_size t e (logged t e) (i + 1) others vs rows_found.values (map Some rs) size rows_found.reads

    module _ (most n : ℕ) (s : State machine) (total : ℕ) (event : T (named t 40 e)) (concrete : machine_number t e ≡ 2) (initial : is_initial t e ≡ eqb n 0) where
      rows_pass : Held t e rows_found.values.present rows_found.values.after c s q k → Allowed t (machine.role e) e c s q k
          → replay_from t most (n + 1) (i + 1 + length (logged t e)) (map Some rs) (moved t rows_found.values) ≡ Ok total
          → replay_from t (suc most) n i (map Some (step_rows t e c q k ++ rs)) vs ≡ Ok total
      rows_pass held allowed next =
          ap (λ ls. replay_from t (suc most) n i ls vs) (step_lines e c q k rs)
          ∙ passes_replay most n i (step_row_of e) others vs total (record {
            values = rows_found.values;
            rest = map Some rs;
            good = true_test (is_step_row t (eqb n 0) (step_row_of e)) (row_step (eqb n 0) e event concrete initial);
            reads = rows_found.reads;
            fault = allowed_fault t ok e event concrete rows_found.values.present rows_found.values.after c s q k held allowed;
            next = next;
          })

  rest_replays : Obeys t → (ss : List (Taken machine)) (most n i : ℕ) (vs : Values) (c s : State machine) → 0 < n → length ss < most → Ready t vs c s
      → Follows machine c s ss → StepsInside t c s ss → All (Writable greatest width) (steps_rows t c ss)
      → replay_from t most n i (map Some (steps_rows t c ss)) vs ≡ Ok (n - 1 + length ss)
  unfolding replay_from flat_map
  rest_replays ok ss zero n i vs c s more few ready f g w = absurd (omega (arith, few))
  rest_replays ok [] (suc most) n i vs c s more few ready f g w =
      ap (λ b. pick b (Err (refused log_fault 0)) (Ok (n - 1))) (ne_eqb n 0 (λ e. omega (arith, more))) ∙ ap Ok (omega arith)
  rest_replays ok (a ∷ ss) (suc most) n i vs c s more few ready f g w =
      let e : ℕ = a.event in
      let q : State machine = a.parameters in
      let k : State machine = a.result in
      let rs : List Row = steps_rows t c ss in
      let event = of_event_lem t e f.0 in
      let role = role_later ok e event f.1 in
      let initial : is_initial t e ≡ eqb n 0 = role.1 ∙ sym (ne_eqb n 0 (λ e. omega (arith, more))) in
      let found = rows_found ok i e vs c q k rs ready.size w in
      let size = rows_size ok i e vs c q k rs ready.size w in
      let held = held_later t ok e found.values c q k found.are role.1 s (i + 1) (others ok i e vs c q k rs ready.size w) (map Some rs) vs ready found.reads in
      let next = rest_replays ok ss most (n + 1) (i + 1 + length (logged t e)) (moved t found.values) c k (omega arith) (omega (arith, few)) (ready_next t ok e found.values c s q k size held)
      f.3 g.1 (all_right (step_rows t e c q k) w) in
      rows_pass ok i e vs c q k rs ready.size w most n s (n - 1 + suc (length ss)) event role.0 initial held
      (record { axioms = λ i. absurd (subst T role.1 i); step = f.2; inside = g.0 }) (next ∙ ap Ok (omega (arith, more)))

  -- ---- the whole log
  pub no_values_lem : Sized no_values
  no_values_lem = record { present = length-replicate 65 (pos 0); after = length-replicate 65 (pos 0) }

  -- a log that is a run, no term of which leaves 64 bits, of so many steps
  abbrev pub RunOf : List ℕ → ℕ → Type 0
  RunOf run n = (r : Recorded t run) × Inside t r × (length r.steps ≡ n)

  -- the initialisation, and what follows it
  first_recorded : Obeys t → (run : List ℕ) (n : ℕ) (r : Row) (ls : List Line) → lines run ≡ Some r ∷ ls → Passed (suc (length ls)) 0 1 r ls no_values n → RunOf run n
  first_recorded ok run n r ls e p =
      let formed = subst (All LineFormed) e (lines_formed run) in
      let event : ℕ = r.a in
      let most : ℕ = suc (length ls) in
      let row = passed_row ok true most 0 1 r ls no_values n refl no_values_lem (all_tail formed) p in
      let size = passed_size ok true most 0 1 r ls no_values n refl no_values_lem (all_tail formed) p in
      let ws : Values = p.values in
      let c : State machine = stored machine.type ws.present in
      let k : State machine = stored machine.type ws.after in
      let b : State machine = blank machine in
      let are = stored_logged t event ws c b (λ i. refl) (λ i. absurd (subst (λ b. T (not b)) row.initial i)) in
      let held = held_first t ok event ws c b k are row.initial b in
      let allowed = fault_allowed t ok event row.is_event row.concrete ws.present ws.after c b b k held p.fault in
      let role = first_role ok event row.concrete row.initial in
      let rest = replay_rest_lem ok most 1 (2 + length (logged t event)) p.rest (moved t ws) c k n (omega arith)
      (passed_formed ok true most 0 1 r ls no_values n refl no_values_lem (all_tail formed) p) (ready_next t ok event ws c b b k size held) p.next in
      let written = lines_written (run_rows t event c k rest.steps) run
      (e ∙ passed_rows ok true most 0 1 r ls no_values n refl no_values_lem (all_tail formed) p c b k are (steps_rows t c rest.steps) rest.rows) in
      let axioms = allowed.axioms (true_test _ row.initial) in (
        record {
          event = event;
          matched = 1;
          constants = c;
          outcome = k;
          steps = rest.steps;
          is_event = event_of t event row.is_event;
          is_initialisation = role;
          axioms = axioms.0;
          start = subst (λ ro. Step machine ro event c b b k) role allowed.step;
          follows = rest.follows;
          in_form = written.1;
          written = written.0;
        },
        record { axioms = axioms.1; start = subst (λ ro. StepInside t ro event c b b k) role allowed.inside; steps = rest.inside },
        sym (rest.count ∙ omega arith),
      )

  pub replay_recorded : Obeys t → (run : List ℕ) (n : ℕ) → replay_log t run ≡ Ok n → RunOf run n
  unfolding replay_log replay_from
  replay_recorded ok run n h = go (lines run) refl h
    where
      go : (ls : List Line) → lines run ≡ ls → replay_from t (suc (length ls)) 0 1 ls no_values ≡ Ok n → RunOf run n
      go [] e h = absurd (steps_never h)
      go (None ∷ ls) e h = absurd (steps_never h)
      go (Some r ∷ ls) e h = first_recorded ok run n r ls e (replay_passes (suc (length ls)) 0 1 r ls no_values n h)

  -- each step has a row
  steps_few : (c : State machine) (ss : List (Taken machine)) → length ss ≤ length (steps_rows t c ss)
  unfolding flat_map
  steps_few c [] = omega arith
  steps_few c (a ∷ ss) =
      let values : List Row = map (λ x. value_row t x (logged_value t c a.parameters a.result x)) (logged t a.event) in
      let e = length-append values (steps_rows t c ss) in
      let h = steps_few c ss in
      omega (arith, e, h)

  rows_length : (e : ℕ) (c q k : State machine) (rs : List Row) → suc (length rs) ≤ length (map Some (step_rows t e c q k ++ rs))
  rows_length e c q k rs =
      let values : List Row = map (λ x. value_row t x (logged_value t c q k x)) (logged t e) in
      let m = length-map (step_rows t e c q k ++ rs) Some in
      let a = length-append values rs in
      omega (arith, m, a)

  pub recorded_replay : Obeys t → (run : List ℕ) (n : ℕ) → RunOf run n → replay_log t run ≡ Ok n
  unfolding replay_log
  recorded_replay ok run n (r, inside, count) =
      let e : ℕ = r.event in
      let c : State machine = r.constants in
      let k : State machine = r.outcome in
      let b : State machine = blank machine in
      let rs : List Row = steps_rows t c r.steps in
      let ls : lines run ≡ map Some (run_rows t e c k r.steps) = ap lines r.written ∙ written_lines (run_rows t e c k r.steps) r.in_form in
      let event = of_event_lem t e r.is_event in
      let role = role_first ok e r.matched event r.is_initialisation in
      let most : ℕ = length (map Some (run_rows t e c k r.steps)) in
      let found = rows_found ok 1 e no_values c b k rs no_values_lem r.in_form in
      let size = rows_size ok 1 e no_values c b k rs no_values_lem r.in_form in
      let held = held_first t ok e found.values c b k found.are role.1 b in
      let few : length r.steps < most = (let h = steps_few c r.steps in let l = rows_length e c b k rs in omega (arith, h, l)) in
      let next = rest_replays ok r.steps most 1 (2 + length (logged t e)) (moved t found.values) c k (omega arith) few (ready_next t ok e found.values c b b k size held) r.follows inside.steps
      (all_right (step_rows t e c b k) r.in_form) in
      let allowed : Allowed t (machine.role e) e c b b k = record {
        axioms = λ i. (r.axioms, inside.axioms);
        step = subst (λ ro. Step machine ro e c b b k) (sym r.is_initialisation) r.start;
        inside = subst (λ ro. StepInside t ro e c b b k) (sym r.is_initialisation) inside.start;
      } in
      ap (λ ls. replay_from t (suc (length ls)) 0 1 ls no_values) ls
      ∙ rows_pass ok 1 e no_values c b k rs no_values_lem r.in_form most 0 b n event role.0 role.1 held allowed (next ∙ ap Ok (omega (arith, count)))

-- 02, request 5: a log is refused with a number and a row exactly where its refusal marks them. Both ways one step at a time: a step's rows are read and it has no fault, or
-- its rows stop, or it has a fault; by induction on how many steps there are at most.
use Prim.Native.Nat.{ℕ, zero, suc, ◌+◌, ◌-◌, ◌<◌}
use mathlib.Core.Path.{◌≡◌, refl, sym, ap, ◌∙◌, subst}
use mathlib.Core.Bool.{Bool, true, false, not}
use mathlib.Core.List.{List, [], ◌∷◌, ◌++◌, map, map-map, append-nil}
use mathlib.Core.Logic.{inl, inr, ◌↔◌}
use native.Mathlib.Omega.{arith}
use lib.Dec.{T, eqb}
use lib.ListN.{length, length-append, length-map}
use borrow.Author.Tests.{eqb-true, eqb-false, eq-eqb, ne_eqb}
use Rattle.std.specs.Prelude.{Result, Ok, Err}
use Rattle.lists.specs.Choice.{pick}
use Rattle.lists.specs.All.{All, In}
use Rattle.lists.proofs.All.{all_tail, all_left, all_unmap, map_same}
use Rattle.lists.proofs.Distinct.{Distinct, pairwise_left}
use Rattle.row.specs.declared.Row.{Row}
use Rattle.row.specs.Reading.{Line}
use Rattle.std.specs.Prelude.{Some, None}
use Rattle.formula.proofs.Truth.{test_true, true_test}
use Rattle.answer.specs.Stored.{stored}
use Rattle.table.specs.Rows.{Rows}
use Rattle.machine.specs.Machine.{Machine}
use Rattle.machine.specs.Described.{machine_of}
use Rattle.rules.proofs.Obeys.{Obeys}
use Rattle.run.specs.Run.{State, blank}
use Rattle.rules.specs.declared.Refusal as rules
use Rattle.rules.specs.Refusal.{refused}
use Rattle.recording.specs.Rows.{is_initial, logged, is_step_row, is_value_row}
use Rattle.recording.specs.Lines.{lines}
use Rattle.recording.specs.Faults.{no_fault, log_fault, step_fault}
use Rattle.recording.specs.Replay.{Values, Found, found, bad, read_values, moved, judged, replay_from, no_values, replay_log}
use Rattle.recording.specs.Recorded.{value_row, logged_value}
use Rattle.recording.specs.Refusal.{StepFault, beginning, Begun, SameConstants, state_before}
use Rattle.recording.specs.Refusal.{Refusal, empty, bad_step, bad_value, ends_inside, step_at_fault, after_step}
use Rattle.recording.proofs.Step.{Held, Allowed, fault_allowed, allowed_fault}
use Rattle.recording.proofs.FirstFault.{number_fault, fault_number}
use Rattle.recording.proofs.Values.{LineFormed, Sized, value_at, read_size, read_rows, Reads, rows_read_lem}
use Rattle.recording.proofs.Lines.{lines_none, lines_nothing, lines_formed, lines_open, open_lines}
use Rattle.recording.proofs.Steps.{Ready, LoggedAre, stored_logged, held_first, held_later, ready_next, logged_distinct, logged_small}
use Rattle.recording.proofs.BadRows.{Bad, BadBytes, bad_malformed, bad_whole, whole_bad, bad_bytes, bytes_bad, Stops, Stopped, read_stops, stops_read}
use Rattle.recording.proofs.Runs.{steps_never, StepRow, step_row, no_values_lem}

pub refused_number : {m n i j : ℕ} → ◌≡◌ {A = Result ℕ rules.Refusal} (Err (refused m i)) (Err (refused n j)) → m ≡ n
refused_number {m} e = ap (λ (r : Result ℕ rules.Refusal). elim r [ Ok n ↦ m | Err x ↦ x.number ]) e

pub refused_row : {m n i j : ℕ} → ◌≡◌ {A = Result ℕ rules.Refusal} (Err (refused m i)) (Err (refused n j)) → i ≡ j
refused_row {i = i} e = ap (λ (r : Result ℕ rules.Refusal). elim r [ Ok n ↦ i | Err x ↦ x.row ]) e

module _ (t : Rows) where
  abbrev machine : Machine
  machine = machine_of t

  abbrev step_row_of : ℕ → Row
  step_row_of e = record { tag = 90; a = e; b = 0; c = 0 }

  -- ---- one step of a replay: a row 90 that is bad, rows 91 that stop, a fault, or the next step
  module _ (most n i : ℕ) (vs : Values) where
    bad_row_refused : (ls : List Line) → Bad (is_step_row t (eqb n 0)) ls → replay_from t (suc most) n i ls vs ≡ Err (refused log_fault i)
    unfolding replay_from
    bad_row_refused [] b = absurd (b.0 refl)
    bad_row_refused (None ∷ ls) b = refl
    bad_row_refused (Some r ∷ ls) b =
        let next : List Line → Values → Result ℕ rules.Refusal = λ rest ws. replay_from t most (n + 1) (i + 1 + length (logged t r.a)) rest ws in
        ap (λ g. pick g (judged t i r.a (read_values t r.a (logged t r.a) (i + 1) ls vs) next) (Err (refused log_fault i))) (whole_bad (is_step_row t (eqb n 0)) r ls b)

    module _ (r : Row) (ls : List Line) (good : T (is_step_row t (eqb n 0) r)) where
      abbrev next : List Line → Values → Result ℕ rules.Refusal
      next rest ws = replay_from t most (n + 1) (i + 1 + length (logged t r.a)) rest ws

      step_judged : (f : Found) → read_values t r.a (logged t r.a) (i + 1) ls vs ≡ f → replay_from t (suc most) n i (Some r ∷ ls) vs ≡ judged t i r.a f next
      unfolding replay_from
      step_judged f h =
          ap (λ b. pick b (judged t i r.a (read_values t r.a (logged t r.a) (i + 1) ls vs) next) (Err (refused log_fault i))) (test_true (is_step_row t (eqb n 0) r) good)
          ∙ ap (λ (f : Found). judged t i r.a f next) h

      module _ (ws : Values) (rest : List Line) (reads : read_values t r.a (logged t r.a) (i + 1) ls vs ≡ found ws rest) where
        fault_refused : (m : ℕ) → step_fault t r.a ws.present ws.after ≡ m → ¬ (m ≡ no_fault) → replay_from t (suc most) n i (Some r ∷ ls) vs ≡ Err (refused m i)
        fault_refused m h z =
            step_judged (found ws rest) reads
            ∙ ap (λ b. pick b (next rest (moved t ws)) (Err (refused (step_fault t r.a ws.present ws.after) i))) (ne_eqb _ no_fault (λ e. z (sym h ∙ e)))
            ∙ ap (λ m. Err (refused m i)) h

        step_goes_on : step_fault t r.a ws.present ws.after ≡ no_fault → replay_from t (suc most) n i (Some r ∷ ls) vs ≡ next rest (moved t ws)
        step_goes_on h =
            step_judged (found ws rest) reads
            ∙ ap (λ b. pick b (next rest (moved t ws)) (Err (refused (step_fault t r.a ws.present ws.after) i))) (eq-eqb _ no_fault h)

  -- ---- the bytes of a step, or of its beginning
  begun_lines : {first : Bool} {e : ℕ} {xs : List ℕ} {v : State machine} {more bytes : List ℕ} → Begun t first e xs v more bytes
      → lines bytes ≡ Some (step_row_of e) ∷ (map (λ x. Some (value_row t x (v x))) xs ++ lines more)
  begun_lines {e = e} {xs = xs} {v = v} {more = more} b =
      ap lines b.bytes_are ∙ open_lines (beginning t e xs v) more b.in_form
      ∙ ap (λ ls. Some (step_row_of e) ∷ (ls ++ lines more)) (map-map Some (λ x. value_row t x (v x)) xs)

  -- how many rows these are
  pub begun_length : {first : Bool} {e : ℕ} {xs : List ℕ} {v : State machine} {more bytes : List ℕ} → Begun t first e xs v more bytes
      → length (lines bytes) ≡ suc (length xs + length (lines more))
  begun_length {xs = xs} {v = v} {more = more} b =
      ap length (begun_lines b) ∙ ap suc (length-append (map (λ x. Some (value_row t x (v x))) xs) (lines more) ∙ ap (λ n. n + length (lines more)) (length-map xs _))

  -- ---- the values at hand where a step begins: those of the constants and of the state before it, at the initialisation any
  abbrev At : Bool → Values → State machine → State machine → Type 0
  At true vs c s = Sized vs
  At false vs c s = Ready t vs c s

  at_size : (first : Bool) (vs : Values) (c s : State machine) → At first vs c s → Sized vs
  at_size true vs c s h = h
  at_size false vs c s h = h.size

  -- the constants and the parameters of a step whose values are stored
  abbrev constants_of : Bool → Values → State machine → State machine
  constants_of true ws c = stored machine.type ws.present
  constants_of false ws c = c

  abbrev parameters_of : Bool → Values → State machine
  parameters_of true ws = blank machine
  parameters_of false ws = stored machine.type ws.present

  constants_same : (first : Bool) (ws : Values) (c : State machine) → SameConstants t first c (constants_of first ws c)
  constants_same true ws c = tt
  constants_same false ws c = refl

  values_logged : (first : Bool) (e : ℕ) (ws : Values) (c : State machine) → is_initial t e ≡ first
      → LoggedAre t e ws (constants_of first ws c) (parameters_of first ws) (stored machine.type ws.after)
  values_logged true e ws c i = stored_logged t e ws (constants_of true ws c) (parameters_of true ws) (λ j. refl) (λ j. absurd (subst (λ b. T (not b)) i j))
  values_logged false e ws c i = stored_logged t e ws (constants_of false ws c) (parameters_of false ws) (λ j. absurd (subst T i j)) (λ j. refl)

  module _ (ok : Obeys t) where
    -- the stored values of a step that was read are those that its rows log
    held_at : (first : Bool) (e i : ℕ) (ls rest : List Line) (vs ws : Values) (c s d q k : State machine) → At first vs c s → SameConstants t first c d → is_initial t e ≡ first
        → LoggedAre t e ws d q k → read_values t e (logged t e) i ls vs ≡ found ws rest → Held t e ws.present ws.after d (state_before t first s) q k
    held_at true e i ls rest vs ws c s d q k at same initial are reads = held_first t ok e ws d q k are initial (blank machine)
    held_at false e i ls rest vs ws c s d q k at same initial are reads =
        held_later t ok e ws d q k are initial s i ls rest vs (subst (λ c. Ready t vs c s) (sym same) at) reads

    -- the first of an event's identifiers
    first_distinct : (e : ℕ) (xs ys : List ℕ) → logged t e ≡ xs ++ ys → Distinct xs
    first_distinct e xs ys h = pairwise_left xs ys (subst Distinct h (logged_distinct t e))

    first_small : (e : ℕ) (xs ys : List ℕ) → logged t e ≡ xs ++ ys → All (λ x. x < 65) xs
    first_small e xs ys h = all_left xs ys (subst (All (λ x. x < 65)) h (logged_small t ok e))

    -- ---- rows that are read are the bytes of a step's beginning
    record Opened (first : Bool) (e : ℕ) (xs : List ℕ) (v : State machine) (rest : List Line) (bytes : List ℕ) : Type 0 where
      more : List ℕ
      begun : Begun t first e xs v more bytes
      lines_are_of : lines more ≡ rest

    read_opened : (first : Bool) (e : ℕ) (xs ys : List ℕ) (i : ℕ) (ls rest : List Line) (vs ws : Values) (v : State machine) (bytes : List ℕ) → T (is_step_row t first (step_row_of e))
        → lines bytes ≡ Some (step_row_of e) ∷ ls → Sized vs → logged t e ≡ xs ++ ys → read_values t e xs i ls vs ≡ found ws rest → ((x : ℕ) → In x xs → value_at t e ws x ≡ v x)
        → Opened first e xs v rest bytes
    read_opened first e xs ys i ls rest vs ws v bytes good h size are reads same =
        let formed = all_tail (subst (All LineFormed) h (lines_formed bytes)) in
        let read = read_rows t e xs i ls vs ws rest size (first_distinct e xs ys are) (first_small e xs ys are) formed reads in
        let rows = map_same (λ x. Some (value_row t x (value_at t e ws x))) (λ x. Some (value_row t x (v x))) xs (λ x j. ap (λ v. Some (value_row t x v)) (same x j)) in
        let o = lines_open (beginning t e xs v) rest bytes
        (h ∙ ap (λ ls. Some (step_row_of e) ∷ ls) (read ∙ ap (λ ls. ls ++ rest) (rows ∙ sym (map-map Some (λ x. value_row t x (v x)) xs)))) in
        record { more = o.more; begun = record { good = good; in_form = o.in_form; bytes_are = o.bytes_are }; lines_are_of = o.lines_are_of }

    -- the bytes of a step's beginning are read
    begun_reads : {first : Bool} {e : ℕ} {xs : List ℕ} {v : State machine} {more bytes : List ℕ} (ys : List ℕ) (i : ℕ) (vs : Values) → logged t e ≡ xs ++ ys → Sized vs
        → Begun t first e xs v more bytes → Reads t e xs i (map (λ x. Some (value_row t x (v x))) xs ++ lines more) vs (lines more) v
    begun_reads {e = e} {xs = xs} {v = v} {more = more} ys i vs are size b =
        rows_read_lem t e xs i vs (lines more) v size (first_distinct e xs ys are) (first_small e xs ys are) (all_unmap (λ x. value_row t x (v x)) xs (all_tail b.in_form))

    -- ---- a log that is refused
    abbrev Refuses : ℕ → Type 0
    Refuses most = (first : Bool) (n i : ℕ) (bytes : List ℕ) (vs : Values) (c s : State machine) (number row : ℕ) → eqb n 0 ≡ first → length (lines bytes) < most → At first vs c s
        → replay_from t most n i (lines bytes) vs ≡ Err (refused number row) → Refusal t first c s i bytes number row

    -- the number and the row of a reply
    marked : {first : Bool} {c s : State machine} {i : ℕ} {bytes : List ℕ} {m j number row : ℕ} → ◌≡◌ {A = Result ℕ rules.Refusal} (Err (refused m j)) (Err (refused number row)) → Refusal t first c s i bytes m j
        → Refusal t first c s i bytes number row
    marked {first} {c} {s} {i} {bytes} {m = m} {row = row} e r =
        subst (λ n. Refusal t first c s i bytes n row) (refused_number e) (subst (λ j. Refusal t first c s i bytes m j) (refused_row e) r)

    module _ (most : ℕ) (onward : Refuses most) (first : Bool) (n i : ℕ) (bytes : List ℕ) (vs : Values) (c s : State machine) (number row : ℕ) (is-first : eqb n 0 ≡ first)
        (enough : length (lines bytes) < suc most) (at : At first vs c s) where
      bad_row_marked : Bad (is_step_row t (eqb n 0)) (lines bytes) → Refusal t first c s i bytes log_fault i
      bad_row_marked b =
          let o = bytes_bad t (is_step_row t first) bytes (subst (λ f. Bad (is_step_row t f) (lines bytes)) is-first b) in
          bad_step o.0 o.1

      module _ (e : ℕ) (ls : List Line) (lines_are : lines bytes ≡ Some (step_row_of e) ∷ ls) (good : T (is_step_row t (eqb n 0) (step_row_of e))) where
        good_row : T (is_step_row t first (step_row_of e))
        good_row = subst (λ f. T (is_step_row t f (step_row_of e))) is-first good

        is_step_lem : StepRow t first (step_row_of e)
        is_step_lem = step_row t first (step_row_of e) good_row

        stop_marked : (j : ℕ) → read_values t e (logged t e) (i + 1) ls vs ≡ bad j → Refusal t first c s i bytes log_fault j
        stop_marked j h =
            let p = read_stops t e (logged t e) (i + 1) ls vs j h in
            let v : State machine = value_at t e p.values in
            let o = read_opened first e p.before (p.identifier ∷ p.later) (i + 1) ls p.rest vs p.values v bytes good_row lines_are (at_size first vs c s at) p.are p.reads
            (λ x j. refl) in
            go p.before p.identifier p.later v o.more p.are o.begun (subst (λ rest. Stops t e p.identifier rest (i + 1 + length p.before) j) (sym o.lines_are_of) p.stops)
          where
            go : (xs : List ℕ) (y : ℕ) (ys : List ℕ) (v : State machine) (more : List ℕ) → logged t e ≡ xs ++ (y ∷ ys) → Begun t first e xs v more bytes
                → Stops t e y (lines more) (i + 1 + length xs) j → Refusal t first c s i bytes log_fault j
            go xs y ys v more are b (inl (none, z)) =
                subst (λ j. Refusal t first c s i bytes log_fault j) (sym z) (ends_inside e xs ys y v (subst (λ more. Begun t first e xs v more bytes) (lines_nothing more none) b) are)
            go xs y ys v more are b (inr (worse, z)) =
                let o = bytes_bad t (is_value_row t y) more worse in
                subst (λ j. Refusal t first c s i bytes log_fault j) (sym z) (bad_value e xs ys y v more b are o.0 o.1)

        module _ (ws : Values) (rest : List Line) (reads : read_values t e (logged t e) (i + 1) ls vs ≡ found ws rest) where
          abbrev d : State machine
          d = constants_of first ws c

          abbrev q : State machine
          q = parameters_of first ws

          abbrev k : State machine
          k = stored machine.type ws.after

          step_opened : Opened first e (logged t e) (logged_value t d q k) rest bytes
          step_opened =
              read_opened first e (logged t e) [] (i + 1) ls rest vs ws (logged_value t d q k) bytes good_row lines_are (at_size first vs c s at) (sym (append-nil (logged t e))) reads
              (values_logged first e ws c is_step_lem.initial)

          step_held : Held t e ws.present ws.after d (state_before t first s) q k
          step_held = held_at first e (i + 1) ls rest vs ws c s d q k at (constants_same first ws c) is_step_lem.initial (values_logged first e ws c is_step_lem.initial) reads

          fault_marked : (m : ℕ) → step_fault t e ws.present ws.after ≡ m → ¬ (m ≡ no_fault) → Refusal t first c s i bytes m i
          fault_marked m h z =
              step_at_fault e d q k step_opened.more (constants_same first ws c) step_opened.begun
              (number_fault t ok e is_step_lem.is_event is_step_lem.concrete ws.present ws.after d (state_before t first s) q k step_held m h z)

          later_marked : step_fault t e ws.present ws.after ≡ no_fault → replay_from t most (n + 1) (i + 1 + length (logged t e)) rest (moved t ws) ≡ Err (refused number row)
              → Refusal t first c s i bytes number row
          later_marked h r =
              let allowed = fault_allowed t ok e is_step_lem.is_event is_step_lem.concrete ws.present ws.after d (state_before t first s) q k step_held h in
              let size = read_size t e (logged t e) (i + 1) ls vs ws rest (at_size first vs c s at) reads in
              let more : List ℕ = step_opened.more in
              let few : length (lines more) < most = (let l = begun_length step_opened.begun in omega (arith, l, enough)) in
              after_step e d q k more (constants_same first ws c) step_opened.begun allowed.axioms allowed.step allowed.inside
              (onward false (n + 1) (i + 1 + length (logged t e)) more (moved t ws) d k number row (ne_eqb (n + 1) 0 (λ z. omega (arith, z))) few
              (ready_next t ok e ws d (state_before t first s) q k size step_held)
              (ap (λ ls. replay_from t most (n + 1) (i + 1 + length (logged t e)) ls (moved t ws)) step_opened.lines_are_of ∙ r))

      -- a row 90 that is good
      step_marked : (e : ℕ) (ls : List Line) → lines bytes ≡ Some (step_row_of e) ∷ ls → T (is_step_row t (eqb n 0) (step_row_of e))
          → replay_from t (suc most) n i (Some (step_row_of e) ∷ ls) vs ≡ Err (refused number row) → Refusal t first c s i bytes number row
      step_marked e ls h good r = by_values (read_values t e (logged t e) (i + 1) ls vs) refl
        where
          by_fault : (ws : Values) (rest : List Line) → read_values t e (logged t e) (i + 1) ls vs ≡ found ws rest → (b : Bool) → eqb (step_fault t e ws.present ws.after) no_fault ≡ b
              → Refusal t first c s i bytes number row
          by_fault ws rest reads true z =
              let none = eqb-true (step_fault t e ws.present ws.after) no_fault z in
              later_marked e ls h good ws rest reads none (sym (step_goes_on most n i vs (step_row_of e) ls good ws rest reads none) ∙ r)
          by_fault ws rest reads false z =
              let some = eqb-false (step_fault t e ws.present ws.after) no_fault z in
              marked (sym (fault_refused most n i vs (step_row_of e) ls good ws rest reads _ refl some) ∙ r) (fault_marked e ls h good ws rest reads _ refl some)

          by_values : (f : Found) → read_values t e (logged t e) (i + 1) ls vs ≡ f → Refusal t first c s i bytes number row
          by_values (bad j) reads = marked (sym (step_judged most n i vs (step_row_of e) ls good (bad j) reads) ∙ r) (stop_marked e ls h good j reads)
          by_values (found ws rest) reads = by_fault ws rest reads (eqb (step_fault t e ws.present ws.after) no_fault) refl

      -- the next row
      lines_marked : (ls : List Line) → lines bytes ≡ ls → replay_from t (suc most) n i ls vs ≡ Err (refused number row) → Refusal t first c s i bytes number row
      unfolding replay_from
      lines_marked [] h r = nothing first refl
        where
          none : bytes ≡ []
          none = lines_nothing bytes h

          nothing : (b : Bool) → first ≡ b → Refusal t first c s i bytes number row
          nothing true f =
              marked (sym (ap (λ b. pick b (Err (refused log_fault 0)) (Ok (n - 1))) (is-first ∙ f)) ∙ r)
              (subst (λ b. Refusal t b c s i bytes log_fault 0) (sym f) (subst (λ bytes. Refusal t true c s i bytes log_fault 0) (sym none) empty))
          nothing false f = absurd (steps_never (sym r ∙ ap (λ b. pick b (Err (refused log_fault 0)) (Ok (n - 1))) (is-first ∙ f)))
      lines_marked (None ∷ ls) h r = marked r (bad_row_marked (subst (Bad (is_step_row t (eqb n 0))) (sym h) (bad_malformed (is_step_row t (eqb n 0)) ls)))
      lines_marked (Some w ∷ ls) h r = by_row (is_step_row t (eqb n 0) w) refl
        where
          by_row : (b : Bool) → is_step_row t (eqb n 0) w ≡ b → Refusal t first c s i bytes number row
          by_row true g =
              let is = (step_row t (eqb n 0) w (true_test _ g)).is_row in
              step_marked w.a ls (h ∙ ap (λ w. Some w ∷ ls) is) (subst (λ w. T (is_step_row t (eqb n 0) w)) is (true_test _ g))
              (ap (λ w. replay_from t (suc most) n i (Some w ∷ ls) vs) (sym is) ∙ r)
          by_row false g =
              let b = bad_whole (is_step_row t (eqb n 0)) w ls g in
              marked (sym (bad_row_refused most n i vs (Some w ∷ ls) b) ∙ r) (bad_row_marked (subst (Bad (is_step_row t (eqb n 0))) (sym h) b))

    refused_marked : (most : ℕ) → Refuses most
    refused_marked zero first n i bytes vs c s number row is-first enough at r = absurd (omega (arith, enough))
    refused_marked (suc most) first n i bytes vs c s number row is-first enough at r =
        lines_marked most (refused_marked most) first n i bytes vs c s number row is-first enough at (lines bytes) refl r

    -- ---- the other way round: what a refusal marks is the reply
    module _ (most : ℕ) (first : Bool) (c s : State machine) (n i : ℕ) (bytes : List ℕ) (vs : Values) (is-first : eqb n 0 ≡ first) (at : At first vs c s) where
      bad_step_refused : BadBytes t (is_step_row t first) bytes → replay_from t (suc most) n i (lines bytes) vs ≡ Err (refused log_fault i)
      bad_step_refused b =
          bad_row_refused most n i vs (lines bytes) (subst (λ f. Bad (is_step_row t f) (lines bytes)) (sym is-first) (bad_bytes t (is_step_row t first) bytes b))

      module _ (e : ℕ) {xs : List ℕ} {v : State machine} {more : List ℕ} (begun : Begun t first e xs v more bytes) where
        abbrev value_lines : List Line
        value_lines = map (λ x. Some (value_row t x (v x))) xs ++ lines more

        row_passes : T (is_step_row t (eqb n 0) (step_row_of e))
        row_passes = subst (λ f. T (is_step_row t f (step_row_of e))) (sym is-first) begun.good

        stop_refused : (y : ℕ) (ys : List ℕ) (j : ℕ) → logged t e ≡ xs ++ (y ∷ ys) → Stops t e y (lines more) (i + 1 + length xs) j
            → replay_from t (suc most) n i (lines bytes) vs ≡ Err (refused log_fault j)
        stop_refused y ys j are stops =
            let reads = begun_reads (y ∷ ys) (i + 1) vs are (at_size first vs c s at) begun in
            let stopped : Stopped t e (logged t e) (i + 1) value_lines vs j =
            record { before = xs; identifier = y; later = ys; values = reads.values; rest = lines more; are = are; reads = reads.reads; stops = stops } in
            ap (λ ls. replay_from t (suc most) n i ls vs) (begun_lines begun)
            ∙ step_judged most n i vs (step_row_of e) value_lines row_passes (bad j) (stops_read t e (logged t e) (i + 1) value_lines vs j stopped)

      module _ (e : ℕ) (d q k : State machine) {more : List ℕ} (same : SameConstants t first c d) (begun : Begun t first e (logged t e) (logged_value t d q k) more bytes) where
        abbrev step_lines_of : List Line
        step_lines_of = value_lines e begun

        begun_row : StepRow t first (step_row_of e)
        begun_row = step_row t first (step_row_of e) begun.good

        step_read : Reads t e (logged t e) (i + 1) step_lines_of vs (lines more) (logged_value t d q k)
        step_read = begun_reads [] (i + 1) vs (sym (append-nil (logged t e))) (at_size first vs c s at) begun

        begun_held : Held t e step_read.values.present step_read.values.after d (state_before t first s) q k
        begun_held = held_at first e (i + 1) step_lines_of (lines more) vs step_read.values c s d q k at same begun_row.initial step_read.are step_read.reads

        step_fault_refused : (m : ℕ) → StepFault t (machine.role e) e d (state_before t first s) q k m → replay_from t (suc most) n i (lines bytes) vs ≡ Err (refused m i)
        step_fault_refused m f =
            let ws : Values = step_read.values in
            let p = fault_number t ok e begun_row.is_event begun_row.concrete ws.present ws.after d (state_before t first s) q k begun_held m f in
            ap (λ ls. replay_from t (suc most) n i ls vs) (begun_lines begun)
            ∙ fault_refused most n i vs (step_row_of e) step_lines_of (row_passes e begun) ws (lines more) step_read.reads m p.0 p.1

        after_step_replays : Allowed t (machine.role e) e d (state_before t first s) q k
            → replay_from t (suc most) n i (lines bytes) vs ≡ replay_from t most (n + 1) (i + 1 + length (logged t e)) (lines more) (moved t step_read.values)
        after_step_replays allowed =
            let ws : Values = step_read.values in
            ap (λ ls. replay_from t (suc most) n i ls vs) (begun_lines begun)
            ∙ step_goes_on most n i vs (step_row_of e) step_lines_of (row_passes e begun) ws (lines more) step_read.reads
            (allowed_fault t ok e begun_row.is_event begun_row.concrete ws.present ws.after d (state_before t first s) q k begun_held allowed)

        after_step_ready : Ready t (moved t step_read.values) d k
        after_step_ready =
            let ws : Values = step_read.values in
            let size = read_size t e (logged t e) (i + 1) step_lines_of vs ws (lines more) (at_size first vs c s at) step_read.reads in
            ready_next t ok e ws d (state_before t first s) q k size begun_held

    marked_refused : (most n : ℕ) (vs : Values) {first : Bool} {c s : State machine} {i : ℕ} {bytes : List ℕ} {number row : ℕ} → Refusal t first c s i bytes number row
        → eqb n 0 ≡ first → length (lines bytes) < most → At first vs c s → replay_from t most n i (lines bytes) vs ≡ Err (refused number row)
    unfolding replay_from
    marked_refused zero n vs r is-first enough at = absurd (omega (arith, enough))
    marked_refused (suc most) n vs (empty {i = i}) is-first enough at =
        ap (λ ls. replay_from t (suc most) n i ls vs) (lines_none [] refl) ∙ ap (λ b. pick b (Err (refused log_fault 0)) (Ok (n - 1))) is-first
    marked_refused (suc most) n vs (bad_step {first = first} {c = c} {s = s} {i = i} {bytes = bytes} some b) is-first enough at = bad_step_refused most first c s n i bytes vs is-first at (some, b)
    marked_refused (suc most) n vs (bad_value {first = first} {c = c} {s = s} {i = i} {bytes = bytes} e xs ys y v more begun are some b) is-first enough at =
        stop_refused most first c s n i bytes vs is-first at e begun y ys (i + 1 + length xs) are (inr (bad_bytes t (is_value_row t y) more (some, b), refl))
    marked_refused (suc most) n vs (ends_inside {first = first} {c = c} {s = s} {i = i} {bytes = bytes} e xs ys y v begun are) is-first enough at =
        stop_refused most first c s n i bytes vs is-first at e begun y ys 0 are (inl (lines_none [] refl, refl))
    marked_refused (suc most) n vs (step_at_fault {first = first} {c = c} {s = s} {i = i} {bytes = bytes} {n = m} e d q k more same begun f) is-first enough at =
        step_fault_refused most first c s n i bytes vs is-first at e d q k same begun m f
    marked_refused (suc most) n vs (after_step {first = first} {c = c} {s = s} {i = i} {bytes = bytes} e d q k more same begun axioms step inside r) is-first enough at =
        let few : length (lines more) < most = (let l = begun_length begun in omega (arith, l, enough)) in
        after_step_replays most first c s n i bytes vs is-first at e d q k same begun (record { axioms = axioms; step = step; inside = inside })
        ∙ marked_refused most (n + 1) (moved t (step_read most first c s n i bytes vs is-first at e d q k same begun).values) r (ne_eqb (n + 1) 0 (λ z. omega (arith, z))) few
        (after_step_ready most first c s n i bytes vs is-first at e d q k same begun)

  -- ---- the whole log
  -- what a log is refused for
  abbrev pub RefusalOf : List ℕ → ℕ → ℕ → Type 0
  RefusalOf run number row = Refusal t true (blank machine) (blank machine) 1 run number row

  pub refusal_exact : Obeys t → (run : List ℕ) (number row : ℕ) → (replay_log t run ≡ Err (refused number row)) ↔ RefusalOf run number row
  unfolding replay_log
  refusal_exact ok run number row = (
    refused_marked ok (suc (length (lines run))) true 0 1 run no_values (blank machine) (blank machine) number row refl (omega arith) (no_values_lem t),
    λ r. marked_refused ok (suc (length (lines run))) 0 no_values r refl (omega arith) (no_values_lem t),
  )

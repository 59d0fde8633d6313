-- What replaying, pressing and previewing answer by an evaluation, beside what they answer by `answer`. Where each formula's answer is the same, or possibly outside for undefined, each
-- reply is the same, or possibly 16 for 17 with the same row: so of a formula's fault, of the first fault of a list, of a step, of a log by induction on how many steps there are at
-- most, and of a press. Where that is not possible the replies are the same, so with `answer` itself they are the definitions of crates/log/specs and crates/bench/specs.
use Prim.Native.Nat.{ℕ, zero, suc, ◌+◌}
use mathlib.Core.Path.{◌≡◌, refl, sym, ap, ◌∙◌, subst}
use mathlib.Core.Bool.{Bool, true, false, ◌&&◌}
use mathlib.Core.List.{List, [], ◌∷◌, ◌++◌, map}
use mathlib.Core.Logic.{◌⊎◌, inl, inr}
use lib.Dec.{eqb}
use lib.IntN.{ℤ}
use lib.ListN.{length, set}
use Rattle.std.specs.Prelude.{Result, Ok, Err}
use Rattle.lists.specs.Choice.{pick}
use Rattle.row.specs.Reading.{Line}
use Rattle.std.specs.Prelude.{Some, None}
use Rattle.formula.specs.Values.{ValueType, AnyValue, truth, wrap}
use Rattle.formula.specs.Tree.{Tree}
use Rattle.formula.specs.Evaluate.{Env}
use Rattle.answer.specs.Answer.{Answer, answer}
use Rattle.answer.specs.Stored.{stored_env}
use Rattle.table.specs.Names.{identifier_tag}
use Rattle.table.specs.Rows.{Rows, count}
use Rattle.machine.specs.Machine.{Action, unassigned, becomes_equal, becomes_such_that, Machine}
use Rattle.machine.specs.Described.{machine_of}
use Rattle.rules.specs.declared.Refusal.{Refusal}
use Rattle.rules.specs.Refusal.{refused as refusal_of}
use Rattle.rules.specs.Decoded.{decoded}
use Rattle.rules.specs.Verdict.{verdict as verdict_of}
use Rattle.recording.specs.Rows.{is_initial, logged, is_step_row}
use Rattle.recording.specs.Lines.{lines}
use Rattle.recording.specs.Faults.{no_fault, outside_fault, undefined_fault, log_fault, fault_of, first_fault, untrue, not_allowed, step_fault}
use Rattle.recording.specs.Replay.{Values, Found, found, bad, no_values, read_values, moved, judged, replay_from, replay_log, replay_by, replay}
use Rattle.bench.specs.State.{values_in, types_in, is_state, updated}
use Rattle.bench.specs.Choice.{Choice, chosen, none, choice}
use Rattle.bench.specs.Press.{Outcome, made, refused, answered, after_by, complete, completed, press_fault, press_choice, at_hand, press_on, outcome_by, outcome}
use Rattle.bench.specs.Press.{records_outcome, press, preview}
use Rattle.bench.specs.declared.Record.{Record}
use Rattle.former.specs.Evaluated.{Evaluation, pressed_of, previewed_of, untrue_by, not_allowed_by, step_fault_by, judged_by, replay_from_by, replay_log_by, replay_with, after_of, complete_by, press_fault_by}
use Rattle.former.specs.Evaluated.{press_choice_by, press_on_by, outcome_with, press_with, preview_with}
use Rattle.former.specs.Changed.{log_refused}
use Rattle.former.proofs.Answers.{Instead}

module _ (possible : Type 0) where
  -- one reply in the place of another
  abbrev pub Reply : {A : Type 0} → (ℕ → ℕ → A) → A → A → Type 0
  Reply refusal x y = (x ≡ y) ⊎ (possible × (row : ℕ) × (x ≡ refusal undefined_fault row) × (y ≡ refusal outside_fault row))

  -- the number of a fault, or of none
  abbrev Number : ℕ → ℕ → Type 0
  Number m n = Reply (λ number row. number) m n

  -- a refusal with a number, or what follows where it is none
  refused_or : {A : Type 0} (refusal : ℕ → ℕ → A) (m n : ℕ) → Number m n → (x y : A) → Reply refusal x y → (row : ℕ)
      → Reply refusal (pick (eqb m no_fault) x (refusal m row)) (pick (eqb n no_fault) y (refusal n row))
  refused_or refusal m n (inl e) x y r row =
      subst (λ n. Reply refusal (pick (eqb m no_fault) x (refusal m row)) (pick (eqb n no_fault) y (refusal n row))) e (go (eqb m no_fault))
    where
      go : (b : Bool) → Reply refusal (pick b x (refusal m row)) (pick b y (refusal m row))
      go true = r
      go false = inl refl
  refused_or refusal m n (inr (p, i, e, h)) x y r row =
      inr (p, row, ap (λ m. pick (eqb m no_fault) x (refusal m row)) e, ap (λ n. pick (eqb n no_fault) y (refusal n row)) h)

  -- ---- the first fault of a list
  data Numbers : List ℕ → List ℕ → Type 0 where
    numbers_none : Numbers [] []
    numbers_cons : {m n : ℕ} {ms ns : List ℕ} → Number m n → Numbers ms ns → Numbers (m ∷ ms) (n ∷ ns)

  numbers_map : {A : Type 0} (f g : A → ℕ) → ((x : A) → Number (f x) (g x)) → (xs : List A) → Numbers (map f xs) (map g xs)
  numbers_map f g h [] = numbers_none
  numbers_map f g h (x ∷ xs) = numbers_cons (h x) (numbers_map f g h xs)

  numbers_join : {ms ns ks ls : List ℕ} → Numbers ms ns → Numbers ks ls → Numbers (ms ++ ks) (ns ++ ls)
  numbers_join numbers_none r = r
  numbers_join (numbers_cons h l) r = numbers_cons h (numbers_join l r)

  first_number : {ms ns : List ℕ} → Numbers ms ns → Number (first_fault ms) (first_fault ns)
  unfolding first_fault
  first_number numbers_none = inl refl
  first_number (numbers_cons {m = m} {n = n} {ms = ms} {ns = ns} h r) = refused_or (λ number row. number) m n h (first_fault ms) (first_fault ns) (first_number r) 0

  fault_number : (v : AnyValue) (a b : Answer) → Instead possible a b → Number (fault_of v a) (fault_of v b)
  fault_number v a b (inl e) = inl (ap (fault_of v) e)
  fault_number v a b (inr (p, e, h)) = inr (p, 0, ap (fault_of v) e, ap (fault_of v) h)

  module _ (evaluation : Evaluation) (instead : (type : ℕ → ValueType) (ρ : Env type) (u : Tree) → Instead possible (evaluation type ρ u) (answer ρ u)) where
    module _ (t : Rows) where
      abbrev machine : Machine
      machine = machine_of t

      -- ---- a step
      untrue_number : (ρ : Env machine.type) (r : ℕ) → Number (untrue_by evaluation t ρ r) (untrue ρ machine.tree r)
      unfolding untrue
      untrue_number ρ r = fault_number (truth true) _ _ (instead machine.type ρ (machine.tree r))

      allowed_number : (ρ : Env machine.type) (x : ℕ) (a : Action) → Number (not_allowed_by evaluation t ρ x a) (not_allowed ρ machine.tree x a)
      unfolding not_allowed
      allowed_number ρ x unassigned = inl refl
      allowed_number ρ x (becomes_equal r) = fault_number (wrap (machine.type x) (ρ.after x)) _ _ (instead machine.type ρ (machine.tree r))
      allowed_number ρ x (becomes_such_that r) = untrue_number ρ r

      step_number : (e : ℕ) (present after : List ℤ) → Number (step_fault_by evaluation t e present after) (step_fault t e present after)
      unfolding step_fault_by step_fault
      step_number e present after =
          let before : Env machine.type = stored_env machine.type present [] in
          let both : Env machine.type = stored_env machine.type present after in
          first_number (numbers_join (initially before (is_initial t e)) (numbers_join
          (numbers_map (untrue_by evaluation t before) (untrue before machine.tree) (untrue_number before) (machine.guards e))
          (numbers_map (λ x. not_allowed_by evaluation t both x (machine.action e x)) (λ x. not_allowed both machine.tree x (machine.action e x))
          (λ x. allowed_number both x (machine.action e x)) machine.concrete_variables)))
        where
          initially : (ρ : Env machine.type) (b : Bool)
              → Numbers (pick b (map (untrue_by evaluation t ρ) machine.axioms) []) (pick b (map (untrue ρ machine.tree) machine.axioms) [])
          initially ρ true = numbers_map (untrue_by evaluation t ρ) (untrue ρ machine.tree) (untrue_number ρ) machine.axioms
          initially ρ false = numbers_none

      -- ---- a log
      from_reply : (most n i : ℕ) (ls : List Line) (vs : Values) → Reply log_refused (replay_from_by evaluation t most n i ls vs) (replay_from t most n i ls vs)
      unfolding replay_from_by replay_from
      from_reply zero n i ls vs = inl refl
      from_reply (suc most) n i [] vs = inl refl
      from_reply (suc most) n i (None ∷ ls) vs = inl refl
      from_reply (suc most) n i (Some r ∷ ls) vs =
          by_row (is_step_row t (eqb n 0) r) (by_rows (read_values t r.a (logged t r.a) (i + 1) ls vs) (λ rest ws. from_reply most (n + 1) at rest ws))
        where
          at : ℕ
          at = i + 1 + length (logged t r.a)

          by_rows : (f : Found) → ((rest : List Line) (ws : Values) → Reply log_refused (replay_from_by evaluation t most (n + 1) at rest ws) (replay_from t most (n + 1) at rest ws))
              → Reply log_refused (judged_by evaluation t i r.a f (λ rest ws. replay_from_by evaluation t most (n + 1) at rest ws)) (judged t i r.a f (λ rest ws. replay_from t most (n + 1) at rest ws))
          by_rows (bad j) k = inl refl
          by_rows (found ws rest) k = refused_or log_refused _ _ (step_number r.a ws.present ws.after) _ _ (k rest (moved t ws)) i

          by_row : (b : Bool) {x y : Result ℕ Refusal} → Reply log_refused x y → Reply log_refused (pick b x (Err (refusal_of log_fault i))) (pick b y (Err (refusal_of log_fault i)))
          by_row true k = k
          by_row false k = inl refl

      -- ---- a press
      after_same : (vs : Values) (x : ℕ) (a : Action) → after_of evaluation t vs x a ≡ after_by t vs x a
      unfolding after_by
      after_same vs x unassigned = refl
      after_same vs x (becomes_equal r) = go (instead machine.type (stored_env machine.type vs.present []) (machine.tree r))
        where
          go : {a b : Answer} → Instead possible a b → answered a ≡ answered b
          go (inl e) = ap answered e
          go (inr (p, e, h)) = ap answered e ∙ sym (ap answered h)
      after_same vs x (becomes_such_that r) = refl

      complete_same : (e : ℕ) (xs : List ℕ) (vs : Values) → complete_by evaluation t e xs vs ≡ complete t e xs vs
      unfolding complete_by complete
      complete_same e [] vs = refl
      complete_same e (x ∷ xs) vs =
          complete_same e xs (record { present = vs.present; after = set vs.after x (after_of evaluation t vs x (machine.action e x)) })
          ∙ ap (λ z. complete t e xs (record { present = vs.present; after = set vs.after x z })) (after_same vs x (machine.action e x))

      press_number_lem : (e : ℕ) (present after : List ℤ) → Number (press_fault_by evaluation t e present after) (press_fault t e present after)
      unfolding press_fault_by press_fault
      press_number_lem e present after =
          let before : Env machine.type = stored_env machine.type present [] in
          first_number (numbers_join (numbers_map (untrue_by evaluation t before) (untrue before machine.tree) (untrue_number before) machine.axioms)
          (numbers_cons (step_number e present after) numbers_none))

      choice_reply : (zs : List ℤ) (d : Choice) → Reply refused (press_choice_by evaluation t zs d) (press_choice t zs d)
      choice_reply zs none = inl refl
      choice_reply zs (chosen e vs) =
          subst (λ (ws : Values). Reply refused (by ws) (press_choice t zs (chosen e vs))) (sym (complete_same e machine.concrete_variables vs))
          (let ws : Values = completed t e vs in refused_or refused _ _ (press_number_lem e ws.present ws.after) _ _ (inl refl) 0)
        where
          by : Values → Outcome
          by ws =
              let fault = press_fault_by evaluation t e ws.present ws.after in
              pick (eqb fault no_fault) (made (updated t ws.after zs)) (refused fault 0)

      on_reply : (step : List ℕ) (zs : List ℤ) (types : List ℕ) (room : ℕ) → Reply refused (press_on_by evaluation t step zs types room) (press_on t step zs types room)
      unfolding press_on_by press_on
      on_reply step zs types room = go (is_state t zs types && eqb room (count t identifier_tag))
        where
          go : (b : Bool) → Reply refused (pick b (press_choice_by evaluation t zs (choice t (lines step) (at_hand t zs))) (refused log_fault 0)) (pick b (press_choice t zs (choice t (lines step) (at_hand t zs))) (refused log_fault 0))
          go true = choice_reply zs (choice t (lines step) (at_hand t zs))
          go false = inl refl

    -- ---- over bytes and records
    pub replay_reply : (table run : List ℕ) → Reply log_refused (replay_with evaluation table run) (replay table run)
    unfolding replay_with replay replay_log_by replay_log
    replay_reply table run = go (verdict_of table)
      where
        go : (v : Result ℕ Refusal) → Reply log_refused (replay_by v (replay_log_by evaluation (decoded table) run)) (replay_by v (replay_log (decoded table) run))
        go (Ok n) = from_reply (decoded table) (suc (length (lines run))) 0 1 (lines run) no_values
        go (Err r) = inl refl

    pub outcome_reply : (table step : List ℕ) (rs : List Record) (room : ℕ) → Reply refused (outcome_with evaluation table step rs room) (records_outcome table step rs room)
    unfolding outcome_with records_outcome outcome
    outcome_reply table step rs room = go (verdict_of table)
      where
        go : (v : Result ℕ Refusal) → Reply refused (outcome_by v (press_on_by evaluation (decoded table) step (values_in rs) (types_in rs) room)) (outcome_by v (press_on (decoded table) step (values_in rs) (types_in rs) room))
        go (Ok n) = on_reply (decoded table) step (values_in rs) (types_in rs) room
        go (Err r) = inl refl

-- ---- with `answer`
abbrev pub as_now : Evaluation
as_now type ρ t = answer ρ t

never : {A : Type 0} (refusal : ℕ → ℕ → A) {x y : A} → Reply ⊥ refusal x y → x ≡ y
never refusal (inl e) = e
never refusal (inr (p, row, e, h)) = absurd p

pub replay_same : (table run : List ℕ) → replay_with as_now table run ≡ replay table run
replay_same table run = never log_refused (replay_reply ⊥ as_now (λ type ρ u. inl refl) table run)

outcome_same : (table step : List ℕ) (rs : List Record) (room : ℕ) → outcome_with as_now table step rs room ≡ records_outcome table step rs room
outcome_same table step rs room = never refused (outcome_reply ⊥ as_now (λ type ρ u. inl refl) table step rs room)

pub press_same : (table step : List ℕ) (state : List Record) → press_with as_now table step state ≡ press table step state
unfolding press_with press
press_same table step state = ap (pressed_of state) (outcome_same table step state (length state))

pub preview_same : (table step : List ℕ) (first second : List Record) → preview_with as_now table step first second ≡ preview table step first second
unfolding preview_with preview
preview_same table step first second = ap (previewed_of first second) (outcome_same table step first (length second))

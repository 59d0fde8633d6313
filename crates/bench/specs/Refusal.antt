-- 02, request 6: what each refusal of a press marks: 18 lists, rows or an event that don't fit, "before any term is read"; then 16, 17 and 18 "by replay's rules, axioms read
-- first each time".
use Rattle.std.specs.Prelude.{◌≡◌, ℕ, T, ℤ}
use mathlib.Core.List.{List, flat_map}
use Rattle.lists.specs.All.{All, In}
use Rattle.row.specs.Row.{greatest, width, row_bytes, Writable}
use Rattle.answer.specs.Answer.{answer}
use Rattle.answer.specs.Stored.{stored_value}
use Rattle.table.specs.Names.{identifier_tag}
use Rattle.table.specs.Rows.{Rows, count}
use Rattle.machine.specs.Machine.{Action, unassigned, becomes_equal, becomes_such_that, Machine}
use Rattle.machine.specs.Described.{machine_of}
use Rattle.run.specs.Run.{State, blank, view, AllReadTrue, of_run}
use Rattle.recording.specs.Faults.{log_fault}
use Rattle.recording.specs.Recorded.{constants_alone, AllInside}
use Rattle.recording.specs.Refusal.{FirstUntrue, StepFault}
use Rattle.bench.specs.State.{IsState}
use Rattle.bench.specs.Press.{answered}
use Rattle.bench.specs.Pressed.{state_of, choice_rows}

module _ (t : Rows) (step : List ℕ) (zs : List ℤ) where
  abbrev machine : Machine
  machine = machine_of t

  -- the step's bytes are the rows of the event e, with parameters q, and of the state k the after values of its 52 actions
  pub record Chooses (e : ℕ) (q k : State machine) : Type 0 where
    pub is_event : In e machine.events
    pub is_other : T (of_run machine (machine.role e))
    pub in_form : All (Writable greatest width) (choice_rows t e q k)
    pub written : step ≡ flat_map (row_bytes width) (choice_rows t e q k)

  -- the other after values of k: a 51's is its root's value in the state before, an unassigned variable keeps its own. Where a root has no value the step is refused.
  abbrev pub Completes : ℕ → State machine → State machine → ℕ → Action → Type 0
  Completes e q k x unassigned = k x ≡ state_of t zs x
  Completes e q k x (becomes_equal r) =
      k x ≡ stored_value (machine.type x) (answered (answer (view machine (machine.role e) (state_of t zs) (state_of t zs) q (blank machine)) (machine.tree r)))
  Completes e q k x (becomes_such_that r) = Unit {0}

  pub record Chosen (types : List ℕ) (room e : ℕ) (q k : State machine) : Type 0 where
    pub is_state : IsState t zs types
    pub has_room : room ≡ count t identifier_tag
    pub chooses : Chooses e q k
    pub completes : All (λ x. Completes e q k x (machine.action e x)) machine.concrete_variables

  pub data PressRefusal (types : List ℕ) (room : ℕ) : ℕ → Type 0 where
    -- "a list of another length", "a wrong type or boolean in the first"
    wrong_list : ¬ (IsState t zs types × (room ≡ count t identifier_tag)) → PressRefusal types room log_fault
    -- "a row after the step's last", "an abstract or class 0 event", and every other row that isn't the choice's
    no_choice : IsState t zs types → room ≡ count t identifier_tag → ((e : ℕ) (q k : State machine) → ¬ Chooses e q k) → PressRefusal types room log_fault
    -- "axioms read first each time"
    axiom_fault : {n : ℕ} (e : ℕ) (q k : State machine) → Chosen types room e q k → FirstUntrue t (constants_alone t (state_of t zs)) machine.axioms n → PressRefusal types room n
    -- "by replay's rules"
    press_at_fault : {n : ℕ} (e : ℕ) (q k : State machine) → Chosen types room e q k
        → AllReadTrue machine (constants_alone t (state_of t zs)) machine.axioms × AllInside t (constants_alone t (state_of t zs)) machine.axioms
        → StepFault t (machine.role e) e (state_of t zs) (state_of t zs) q k n → PressRefusal types room n

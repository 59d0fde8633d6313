-- 02, request 6: the step that pressing performs, by 01's definition: from the state's values, with the chosen parameters and after values.
use Rattle.std.specs.Prelude.{◌≡◌, ℕ, T, ℤ, length, Ok}
use mathlib.Core.List.{List, ◌∷◌, map, flat_map}
use Rattle.lists.specs.Choice.{pick}
use Rattle.lists.specs.All.{All, In}
use Rattle.lists.specs.Below.{numbers}
use Rattle.row.specs.Row.{greatest, width, row_bytes, Writable}
use Rattle.row.specs.declared.Row.{Row}
use Rattle.formula.specs.Values.{wrap}
use Rattle.answer.specs.Stored.{stored_value}
use Rattle.table.specs.Names.{identifier_tag}
use Rattle.table.specs.Rows.{Rows, count, type_of}
use Rattle.machine.specs.Machine.{Machine}
use Rattle.machine.specs.Described.{machine_of}
use Rattle.rules.specs.Decoded.{decoded}
use Rattle.rules.specs.Verdict.{verdict as verdict_of}
use Rattle.run.specs.Run.{State, blank, AllReadTrue, Step, Taken, of_run}
use Rattle.recording.specs.Rows.{step_tag, is_state_variable}
use Rattle.recording.specs.Recorded.{value_row, logged_value, constants_alone, AllInside, StepInside}
use Rattle.bench.specs.declared.Record.{Record}
use Rattle.bench.specs.State.{values_in, types_in, value_of, IsState, with_values_of}
use Rattle.bench.specs.Choice.{asked}
use Rattle.bench.specs.Press.{number_in}

module _ (t : Rows) where
  abbrev machine : Machine
  machine = machine_of t

  -- the value of each identifier in a state
  unfoldable pub state_of : List ℤ → State machine
  state_of zs x = stored_value (machine.type x) (value_of zs x)

  -- the values of a list after a step that leaves the state k: those of kinds 3 and 6 are k's
  unfoldable pub left : State machine → List ℤ → List ℤ
  left k zs = map (λ x. pick (is_state_variable t x) (number_in (wrap (machine.type x) (k x))) (value_of zs x)) (numbers (length zs) 1)

  -- the rows of a choice: the event, its parameters q, and the after values of its 52 actions in the state k
  abbrev pub choice_rows : ℕ → State machine → State machine → List Row
  choice_rows e q k = record { tag = step_tag; a = e; b = 0; c = 0 } ∷ map (λ x. value_row t x (logged_value t (blank machine) q k x)) (asked t e)

  -- the event has this step by 01's definition, from the state's values with the parameters and after values of the rows, no term met leaves 64 bits, and the new values
  -- are what the step leaves
  pub record PressedBy (step : List ℕ) (zs zs' : List ℤ) : Type 0 where
    pub taken : Taken machine
    pub is_event : In taken.event machine.events
    pub is_other : T (of_run machine (machine.role taken.event))
    pub axioms : AllReadTrue machine (constants_alone t (state_of zs)) machine.axioms
    pub axioms_inside : AllInside t (constants_alone t (state_of zs)) machine.axioms
    pub is_step : Step machine (machine.role taken.event) taken.event (state_of zs) (state_of zs) taken.parameters taken.result
    pub inside : StepInside t (machine.role taken.event) taken.event (state_of zs) (state_of zs) taken.parameters taken.result
    pub in_form : All (Writable greatest width) (choice_rows taken.event taken.parameters taken.result)
    pub written : step ≡ flat_map (row_bytes width) (choice_rows taken.event taken.parameters taken.result)
    pub leaves : zs' ≡ left taken.result zs

  -- the records that show constants c and the state k; those of other identifiers have blank values
  unfoldable pub records_of : State machine → State machine → List Record
  records_of c k = map (λ x. record { value = number_in (wrap (machine.type x) (logged_value t c (blank machine) k x)); sort = type_of t x }) (numbers (count t identifier_tag) 1)

-- the table is accepted, the records are a state of it, and the new ones are what a step leaves of them
pub record Presses (table step : List ℕ) (state state' : List Record) : Type 0 where
  pub count : ℕ
  pub accepted : verdict_of table ≡ Ok count
  pub is_state : IsState (decoded table) (values_in state) (types_in state)
  pub values : List ℤ
  pub pressed : PressedBy (decoded table) step (values_in state) values
  pub records : state' ≡ with_values_of values state

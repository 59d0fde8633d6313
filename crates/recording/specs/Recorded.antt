-- 02, request 5: "the log is a run by document 01's definition and no term met leaves signed 64 bits", for the bytes of a log and a table's rows.
use Rattle.std.specs.Prelude.{◌≡◌, ℕ, suc, ◌-◌, ◌^◌, ltb, ℤ, pos, negsuc}
use mathlib.Core.List.{List, [], ◌∷◌, ◌++◌, map, flat_map}
use Rattle.lists.specs.Choice.{pick}
use Rattle.lists.specs.All.{All, In}
use Rattle.lists.specs.Below.{one_if}
use Rattle.row.specs.Row.{greatest, width, row_bytes, Writable}
use Rattle.row.specs.declared.Row.{Row}
use Rattle.formula.specs.Values.{ValueType, integer, boolean, Value}
use Rattle.formula.specs.Evaluate.{Env}
use Rattle.answer.specs.Met.{NoneLeaves}
use Rattle.table.specs.Rows.{Rows}
use Rattle.machine.specs.Machine.{Action, unassigned, becomes_equal, becomes_such_that, Role, concrete_initialisation, Machine}
use Rattle.machine.specs.Described.{machine_of}
use Rattle.sequent.specs.Required.{own_variables}
use Rattle.run.specs.Run.{by_kind, State, blank, world, view, AllReadTrue, Step, Taken, Follows}
use Rattle.recording.specs.Rows.{step_tag, value_tag, logged}

-- the word of a number, a negative one in two's complement; a number outside 64 bits has none, for which 2 ^ 64 stands
abbrev pub word_of : ℤ → ℕ
word_of (pos n) = pick (ltb n (2 ^ 63)) n (2 ^ 64)
word_of (negsuc n) = pick (ltb n (2 ^ 63)) (2 ^ 64 - suc n) (2 ^ 64)

-- "booleans 0 or 1"
abbrev pub logged_word : (type : ValueType) → Value type → ℕ
logged_word integer z = word_of z
logged_word boolean b = one_if b

module _ (t : Rows) where
  abbrev machine : Machine
  machine = machine_of t

  -- "rows 91 (identifier, value; booleans 0 or 1)"
  abbrev pub value_row : (x : ℕ) → Value (machine.type x) → Row
  value_row x v = record { tag = value_tag; a = x; b = logged_word (machine.type x) v; c = 0 }

  -- of constants, parameters and the state that a step leaves, the value that is logged for an identifier
  abbrev pub logged_value : State machine → State machine → State machine → State machine
  logged_value c p k x = by_kind (machine.kind x) (c x) (blank machine x) (k x) (blank machine x) (p x) (k x)

  -- "row 90 (event), then rows 91"
  abbrev pub step_rows : ℕ → State machine → State machine → State machine → List Row
  step_rows e c p k = record { tag = step_tag; a = e; b = 0; c = 0 } ∷ map (λ x. value_row x (logged_value c p k x)) (logged t e)

  -- the initialisation's rows, then those of each step
  abbrev pub steps_rows : State machine → List (Taken machine) → List Row
  steps_rows c ss = flat_map (λ s. step_rows s.event c s.parameters s.result) ss

  abbrev pub run_rows : ℕ → State machine → State machine → List (Taken machine) → List Row
  run_rows e c k ss = step_rows e c (blank machine) k ++ steps_rows c ss

  -- what axioms are read at
  abbrev pub constants_alone : State machine → Env machine.type
  constants_alone c = world machine c (blank machine) (blank machine) (blank machine) (blank machine) (blank machine) (blank machine)

  -- 01: "A run is constants that meet the axioms (each read as true), a step of the concrete initialisation .., then any list of steps of other concrete events, each
  -- from the values the last one left", with exactly the logged values, whose rows are in the row form
  pub record Recorded (run : List ℕ) : Type 0 where
    pub event : ℕ
    pub matched : ℕ
    pub constants : State machine
    pub outcome : State machine
    pub steps : List (Taken machine)
    pub is_event : In event machine.events
    pub is_initialisation : machine.role event ≡ concrete_initialisation matched
    pub axioms : AllReadTrue machine (constants_alone constants) machine.axioms
    pub start : Step machine (concrete_initialisation matched) event constants (blank machine) (blank machine) outcome
    pub follows : Follows machine constants outcome steps
    pub in_form : All (Writable greatest width) (run_rows event constants outcome steps)
    pub written : run ≡ flat_map (row_bytes width) (run_rows event constants outcome steps)

  -- no term that is met leaves 64 bits: in an action
  abbrev pub ActionInside : Env machine.type → Action → Type 0
  ActionInside ρ unassigned = Unit {0}
  ActionInside ρ (becomes_equal r) = NoneLeaves ρ (machine.tree r)
  ActionInside ρ (becomes_such_that r) = NoneLeaves ρ (machine.tree r)

  abbrev pub AllInside : Env machine.type → List ℕ → Type 0
  AllInside ρ rs = All (λ r. NoneLeaves ρ (machine.tree r)) rs

  -- in a step
  pub record StepInside (ro : Role) (e : ℕ) (c s p k : State machine) : Type 0 where
    pub guards : AllInside (view machine ro c s p (blank machine)) (machine.guards e)
    pub actions : All (λ x. ActionInside (view machine ro c s p k) (machine.action e x)) (own_variables machine ro)

  -- in each of a list of steps
  abbrev pub StepsInside : State machine → State machine → List (Taken machine) → Type 0
  StepsInside c k [] = Unit {0}
  StepsInside c k (s ∷ ss) = StepInside (machine.role s.event) s.event c k s.parameters s.result × StepsInside c s.result ss

  -- "no term met leaves signed 64 bits", in the whole run
  pub record Inside {run : List ℕ} (r : Recorded run) : Type 0 where
    pub axioms : AllInside (constants_alone r.constants) machine.axioms
    pub start : StepInside (concrete_initialisation r.matched) r.event r.constants (blank machine) (blank machine) r.outcome
    pub steps : StepsInside r.constants r.outcome r.steps

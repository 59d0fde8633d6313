-- 02, request 6, press after press: a log whose initialisation is a run of no steps, and whose other steps are pressed one after another.
use Rattle.std.specs.Prelude.{◌≡◌, ℕ, length, Ok}
use mathlib.Core.List.{List, [], ◌∷◌, ◌++◌, flat_map}
use Rattle.lists.specs.All.{All}
use Rattle.row.specs.Row.{greatest, width, row_bytes, Writable}
use Rattle.table.specs.Rows.{Rows}
use Rattle.machine.specs.Machine.{Machine}
use Rattle.machine.specs.Described.{machine_of}
use Rattle.rules.specs.Decoded.{decoded}
use Rattle.run.specs.Run.{Taken}
use Rattle.recording.specs.Recorded.{steps_rows, Recorded, Inside}
use Rattle.bench.specs.declared.Record.{Record}
use Rattle.bench.specs.State.{values_in}
use Rattle.bench.specs.Press.{press}
use Rattle.bench.specs.Pressed.{state_of, choice_rows, records_of}

module _ (table : List ℕ) where
  abbrev rows : Rows
  rows = decoded table

  abbrev machine : Machine
  machine = machine_of rows

  -- each step's choice is pressed on the state that the last one left, and the state that is made has the after values of the step
  pub data PressedAll : List Record → List (Taken machine) → Type 0 where
    pressed_none : {state : List Record} → PressedAll state []
    pressed_next : {state state' : List Record} {s : Taken machine} {ss : List (Taken machine)} → All (Writable greatest width) (choice_rows rows s.event s.parameters s.result)
        → press table (flat_map (row_bytes width) (choice_rows rows s.event s.parameters s.result)) state ≡ record { reply = Ok tt; state = state' }
        → All (λ x. state_of rows (values_in state') x ≡ s.result x) machine.concrete_variables → PressedAll state' ss → PressedAll state (s ∷ ss)

  pub record Benched (run : List ℕ) (n : ℕ) : Type 0 where
    pub first : List ℕ
    pub start : Recorded rows first
    pub inside : Inside rows start
    pub alone : start.steps ≡ []
    pub steps : List (Taken machine)
    pub in_form : All (Writable greatest width) (steps_rows rows start.constants steps)
    pub written : run ≡ first ++ flat_map (row_bytes width) (steps_rows rows start.constants steps)
    pub pressed : PressedAll (records_of rows start.constants start.outcome) steps
    pub count : length steps ≡ n

-- 02, request 5: what a replayed log of a table whose sequents are valid has: demand 3, of the very run that was logged.
use Rattle.std.specs.Prelude.{List, ℕ}
use Rattle.table.specs.Rows.{Rows}
use Rattle.machine.specs.Machine.{abstract_initialisation, Machine}
use Rattle.machine.specs.Described.{machine_of}
use Rattle.run.specs.Run.{State, blank, Step, Match}
use Rattle.run.specs.SafeRun.{Along, RunsSafe}
use Rattle.recording.specs.Recorded.{Recorded}

module _ (t : Rows) where
  abbrev machine : Machine
  machine = machine_of t

  -- the logged run is matched by one abstract sequence, along which every part of demand 3 holds; and every run with its constants is safe
  pub record SafeLog {run : List ℕ} (r : Recorded t run) : Type 0 where
    pub abstract_outcome : State machine
    pub matches : List (Match machine)
    pub abstract_start : Step machine abstract_initialisation r.matched r.constants (blank machine) (blank machine) abstract_outcome
    pub along : Along machine r.constants abstract_outcome r.outcome r.steps matches
    pub runs_safe : RunsSafe machine r.constants r.event r.matched

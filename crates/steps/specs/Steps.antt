-- How the code replays a run: step by step, from a place in it.
use Rattle.std.specs.Prelude.{◌≡◌, List, ◌++◌, ℕ, suc, ◌+◌, ◌-◌, ◌≤◌, eqb, length, Result, Ok, Err}
use Rattle.lists.specs.Choice.{pick}
use Rattle.row.specs.declared.Place.{Place}
use Rattle.table.specs.Names.{identifier_tag}
use Rattle.table.specs.Rows.{Rows, count}
use Rattle.rules.specs.declared.Refusal.{Refusal}
use Rattle.rules.specs.Refusal.{refused}
use Rattle.recording.specs.Rows.{logged}
use Rattle.recording.specs.Faults.{no_fault, log_fault, step_fault}
use Rattle.recording.specs.Replay.{Values, read_values, moved, judged, replay_from}
use Rattle.values.specs.Values.{lines_at, row_at, AtHand}
use Rattle.steps.specs.declared.Progress.{Progress}
use Rattle.steps.specs.declared.Progress.TheVariants.{Going, Ended}

-- the end of the run after n steps, the initialisation among them
abbrev pub ended_after : ℕ → Result Progress Refusal
ended_after n = pick (eqb n 0) (Err (refused log_fault 0)) (Ok (Ended (n - 1)))

module _ (t : Rows) where
  -- a step of the event e whose row 90 is row i, and the place after its rows: what it comes to, and the values then
  abbrev pub step_progress : ℕ → ℕ → Place → Values → Result Progress Refusal
  step_progress e i next vs = let fault = step_fault t e vs.present vs.after in pick (eqb fault no_fault) (Ok (Going next)) (Err (refused fault i))

  abbrev pub step_values : ℕ → Values → Values
  step_values e vs = pick (eqb (step_fault t e vs.present vs.after) no_fault) (moved t vs) vs

  -- what replaying on after a step gives, with so many steps more; n steps were before it
  unfoldable pub replay_on : Result Progress Refusal → ℕ → ℕ → List ℕ → Values → Result ℕ Refusal
  replay_on (Ok (Going place)) most n run vs = replay_from t most (n + 1) (row_at place.at) (lines_at run place.at) vs
  replay_on (Ok (Ended steps)) most n run vs = Ok steps
  replay_on (Err r) most n run vs = Err r

  -- the step of the event e whose row 90 is row i and whose rows 91 begin at a place, and replaying on; more bytes may follow
  abbrev pub TakesStep : ℕ → ℕ → List ℕ → ℕ → Values → Result Progress Refusal → Values → Type 0
  TakesStep e i run at vs r ws = (more : List ℕ) → AtHand run at (length (logged t e)) more → (most n : ℕ) → replay_on r most n (run ++ more) ws
      ≡ judged t i e (read_values t e (logged t e) (row_at at) (lines_at (run ++ more) at) vs) (λ rest us. replay_from t most (n + 1) (row_at at + length (logged t e)) rest us)

  -- the step at a place, before which n steps were, and replaying on, for any number of steps more; a step has a row, and at most one more for each identifier
  abbrev pub ReplaysStep : ℕ → List ℕ → ℕ → Values → Result Progress Refusal → Values → Type 0
  ReplaysStep n run at vs r ws = (more : List ℕ) → AtHand run at (1 + count t identifier_tag) more
      → (most : ℕ) → replay_on r most n (run ++ more) ws ≡ replay_from t (suc most) n (row_at at) (lines_at (run ++ more) at) vs

-- where the next step begins: from one byte to another
abbrev pub BeginsWithin : Result Progress Refusal → ℕ → ℕ → Type 0
BeginsWithin (Ok (Going place)) low high = (low ≤ place.at) × (place.at ≤ high)
BeginsWithin (Ok (Ended steps)) low high = Unit {0}
BeginsWithin (Err r) low high = Unit {0}

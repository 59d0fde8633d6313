-- How the code replays a run part by part, as a program reads it: the whole steps of a part, before which some steps and rows were.
use Rattle.std.specs.Prelude.{◌≡◌, Bool, true, false, List, [], ◌++◌, ℕ, suc, ◌+◌, ◌/◌, ◌≤◌, eqb, length, drop, Result, Ok, Err}
use Rattle.lists.specs.Choice.{pick}
use Rattle.row.specs.Row.{width, row_length}
use Rattle.row.specs.Reading.{Line}
use Rattle.row.specs.declared.Place.{Place}
use Rattle.table.specs.Rows.{Rows}
use Rattle.rules.specs.declared.Refusal.{Refusal}
use Rattle.recording.specs.Lines.{lines}
use Rattle.recording.specs.Replay.{Values, replay_from}
use Rattle.values.specs.Values.{lines_at, row_at}
use Rattle.steps.specs.declared.Part.{Part}
use Rattle.steps.specs.declared.Part.TheVariants.{More, Ended}

-- a row's number in a run, by its number behind so many rows of it; 0 stands for its end
abbrev pub later_row : ℕ → ℕ → ℕ
later_row before row = pick (eqb row 0) 0 (before + row)

-- whether more of the run is needed
abbrev pub is_more : Result Part Refusal → Bool
is_more (Ok (More n place)) = true
is_more (Ok (Ended steps)) = false
is_more (Err r) = false

module _ (t : Rows) where
  -- replaying on after n steps, the next row being row i, with no bound on the steps: there are no more than rows
  unfoldable pub replay_rest : ℕ → ℕ → List Line → Values → Result ℕ Refusal
  replay_rest n i ls vs = replay_from t (suc (length ls)) n i ls vs

  -- what replaying on after a part gives, before which so many rows were
  unfoldable pub part_on : ℕ → Result Part Refusal → List ℕ → Values → Result ℕ Refusal
  part_on before (Ok (More n place)) run vs = replay_rest n (before + row_at place.at) (lines_at run place.at) vs
  part_on before (Ok (Ended steps)) run vs = Ok steps
  part_on before (Err r) run vs = Err r

  -- a part of a run, its last one or one that more bytes follow, after n steps and so many rows, and replaying on
  abbrev pub ReplaysPart : ℕ → ℕ → List ℕ → Bool → Values → Result Part Refusal → Values → Type 0
  ReplaysPart n before part last vs r ws = (more : List ℕ) → (last ≡ true → more ≡ []) → part_on before r (part ++ more) ws ≡ replay_rest n (before + 1) (lines (part ++ more)) vs

  -- How a program goes on, window by window: after n steps and so many rows, with a window of the run at hand and other bytes unread. It replays the window, which is the last one only
  -- where nothing is unread; where more is needed, the next window begins with what is left of this one.
  pub data Windows : ℕ → ℕ → List ℕ → Values → List ℕ → Result ℕ Refusal → Type 0 where
    stops : {n before : ℕ} {window unread : List ℕ} {vs : Values} (last : Bool) (r : Result Part Refusal) (ws : Values) → (last ≡ true → unread ≡ []) → is_more r ≡ false
        → ReplaysPart n before window last vs r ws → Windows n before window vs unread (part_on before r window ws)
    goes_on : {n before : ℕ} {window unread : List ℕ} {vs : Values} {reply : Result ℕ Refusal} (next : List ℕ) (last : Bool) (m : ℕ) (place : Place) (ws : Values) → (last ≡ true → next ++ unread ≡ [])
        → place.at ≤ length window → ReplaysPart n before window last vs (Ok (More m place)) ws
        → Windows m (before + place.at / row_length width) (drop place.at window ++ next) ws unread reply → Windows n before window vs (next ++ unread) reply

-- where more is needed after n steps: the part isn't the last one, and has at most a step a byte
abbrev pub Stops : Result Part Refusal → ℕ → List ℕ → Bool → Type 0
Stops (Ok (More m place)) n part last = (last ≡ false) × (place.at ≤ length part) × (m ≤ n + place.at)
Stops (Ok (Ended steps)) n part last = Unit {0}
Stops (Err r) n part last = Unit {0}

-- 02, request 6: "Pressing performs one concrete step and updates the variables' records. A preview writes into a second lent list what pressing would make of the first,
-- which keeps its records."
use Rattle.std.specs.Prelude.{◌&&◌, List, [], ◌∷◌, ◌++◌, map, ℕ, eqb, ℤ, pos, length, get_or, set, replicate, Result, Ok, Err}
use Rattle.lists.specs.Choice.{pick}
use Rattle.lists.specs.Below.{one_if}
use Rattle.formula.specs.Values.{AnyValue, number, truth}
use Rattle.answer.specs.Answer.{Answer, value, outside, undefined, answer}
use Rattle.answer.specs.Stored.{stored_env}
use Rattle.table.specs.Names.{identifier_tag}
use Rattle.table.specs.Rows.{Rows, count}
use Rattle.machine.specs.Machine.{Action, unassigned, becomes_equal, becomes_such_that, Machine}
use Rattle.machine.specs.Described.{machine_of}
use Rattle.rules.specs.declared.Refusal.{Refusal}
use Rattle.rules.specs.Refusal.{refused as refusal}
use Rattle.rules.specs.Decoded.{decoded}
use Rattle.rules.specs.Verdict.{verdict as verdict_of}
use Rattle.recording.specs.Lines.{lines}
use Rattle.recording.specs.Faults.{no_fault, log_fault, first_fault, untrue, step_fault}
use Rattle.recording.specs.Replay.{Values}
use Rattle.bench.specs.declared.Record.{Record}
use Rattle.bench.specs.State.{values_in, types_in, placed, is_state, updated, with_values_of}
use Rattle.bench.specs.Choice.{Choice, chosen, none, choice}

-- the values that pressing makes of a state's, or a refusal
pub data Outcome : Type 0 where
  made : List ℤ → Outcome
  refused : ℕ → ℕ → Outcome

-- the number that stands for a value, "booleans 0 or 1"
abbrev pub number_in : AnyValue → ℤ
number_in (number z) = z
number_in (truth b) = pos (one_if b)

-- a formula's value where it has one; where it has none, the step has a fault
abbrev pub answered : Answer → ℤ
answered (value v) = number_in v
answered outside = pos 0
answered undefined = pos 0

module _ (t : Rows) where
  abbrev machine : Machine
  machine = machine_of t

  -- the after value of a variable by its action: a 51 reads the state before; that of a 52 is given; an unassigned variable keeps its value
  unfoldable pub after_by : Values → ℕ → Action → ℤ
  after_by vs x unassigned = get_or vs.present x (pos 0)
  after_by vs x (becomes_equal r) = answered (answer (stored_env machine.type vs.present []) (machine.tree r))
  after_by vs x (becomes_such_that r) = get_or vs.after x (pos 0)

  -- the after values of variables, one after another
  unfoldable pub complete : ℕ → List ℕ → Values → Values
  complete e [] vs = vs
  complete e (x ∷ xs) vs = complete e xs (record { present = vs.present; after = set vs.after x (after_by vs x (machine.action e x)) })

  abbrev pub completed : ℕ → Values → Values
  completed e vs = complete e machine.concrete_variables vs

  -- "by replay's rules, axioms read first each time"
  unfoldable pub press_fault : ℕ → List ℤ → List ℤ → ℕ
  press_fault e present after =
      first_fault (map (untrue (stored_env machine.type present []) machine.tree) machine.axioms ++ (step_fault t e present after ∷ []))

  -- "all with row 0"
  abbrev pub press_choice : List ℤ → Choice → Outcome
  press_choice zs none = refused log_fault 0
  press_choice zs (chosen e vs) =
      let ws : Values = completed e vs in
      let fault = press_fault e ws.present ws.after in
      pick (eqb fault no_fault) (made (updated t ws.after zs)) (refused fault 0)

  -- the values at hand before the step's rows are read
  abbrev pub at_hand : List ℤ → Values
  at_hand zs = record { present = placed zs; after = replicate 65 (pos 0) }

  -- a step's bytes, on the values and the types of a state, whose new values go to a list of so many records: all that is "18 before any term is read" comes first
  unfoldable pub press_on : List ℕ → List ℤ → List ℕ → ℕ → Outcome
  press_on step zs types room =
      pick (is_state t zs types && eqb room (count t identifier_tag)) (press_choice zs (choice t (lines step) (at_hand zs))) (refused log_fault 0)

-- a refused table has its own number and row
abbrev pub outcome_by : Result ℕ Refusal → Outcome → Outcome
outcome_by (Ok n) o = o
outcome_by (Err r) o = refused r.number r.row

unfoldable pub outcome : List ℕ → List ℕ → List ℤ → List ℕ → ℕ → Outcome
outcome table step zs types room = outcome_by (verdict_of table) (press_on (decoded table) step zs types room)

-- the answer, and what a list holds then: "no record changes on a refusal"
abbrev pub reply_of : Outcome → Result (Unit {0}) Refusal
reply_of (made zs) = Ok tt
reply_of (refused n row) = Err (refusal n row)

module _ {A : Type 0} where
  abbrev pub kept_or : (List ℤ → List A) → List A → Outcome → List A
  kept_or f xs (made zs) = f zs
  kept_or f xs (refused n row) = xs

unfoldable pub records_outcome : List ℕ → List ℕ → List Record → ℕ → Outcome
records_outcome table step rs room = outcome table step (values_in rs) (types_in rs) room

-- the reply, and the records of the state after it
pub record Pressed : Type 0 where
  pub reply : Result (Unit {0}) Refusal
  pub state : List Record

unfoldable pub press : List ℕ → List ℕ → List Record → Pressed
press table step state =
    let o = records_outcome table step state (length state) in
    record { reply = reply_of o; state = kept_or (λ zs. with_values_of zs state) state o }

-- the same of both lists; a preview writes the whole second list, types too
pub record Previewed : Type 0 where
  pub reply : Result (Unit {0}) Refusal
  pub first : List Record
  pub second : List Record

unfoldable pub preview : List ℕ → List ℕ → List Record → List Record → Previewed
preview table step first second =
    let o = records_outcome table step first (length second) in
    record { reply = reply_of o; first = first; second = kept_or (λ zs. with_values_of zs first) second o }

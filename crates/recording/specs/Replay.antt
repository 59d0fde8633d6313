-- 02, request 5: what replaying a log of a table's concrete machine answers.
use Rattle.std.specs.Prelude.{Bool, true, false, List, [], ◌∷◌, ℕ, zero, suc, ◌+◌, ◌-◌, eqb, ℤ, pos, length, get_or, set, replicate, Result, Ok, Err, Some, None}
use Rattle.lists.specs.Choice.{pick}
use Rattle.row.specs.Reading.{Line}
use Rattle.formula.specs.Values.{whole_number}
use Rattle.table.specs.Rows.{Rows}
use Rattle.machine.specs.Described.{machine_of}
use Rattle.rules.specs.declared.Refusal.{Refusal}
use Rattle.rules.specs.Refusal.{refused}
use Rattle.rules.specs.Decoded.{decoded}
use Rattle.rules.specs.Verdict.{verdict as verdict_of}
use Rattle.recording.specs.Rows.{is_given, logged, is_step_row, is_value_row}
use Rattle.recording.specs.Lines.{lines}
use Rattle.recording.specs.Faults.{no_fault, log_fault, step_fault}

-- The values at hand, by identifier: those that formulas read at present, constants, variables and parameters, and the after values of variables.
pub record Values : Type 0 where
  pub present : List ℤ
  pub after : List ℤ

-- what reading the rows 91 of a step finds: the values with the step's, and the rows that follow; or the row that is bad, 0 where the log ends
pub data Found : Type 0 where
  found : Values → List Line → Found
  bad : ℕ → Found

-- no value is known before the first row; places 0 to 64
abbrev pub no_values : Values
no_values = record { present = replicate 65 (pos 0); after = replicate 65 (pos 0) }

-- a value that is given, and an after value
abbrev pub store_by : Bool → ℕ → ℤ → Values → Values
store_by true x z vs = record { present = set vs.present x z; after = vs.after }
store_by false x z vs = record { present = vs.present; after = set vs.after x z }

-- "each from the values the last one left": the variables' after values are their present ones then
unfoldable pub move : List ℕ → Values → Values
move [] vs = vs
move (x ∷ xs) vs = move xs (record { present = set vs.present x (get_or vs.after x (pos 0)); after = vs.after })

module _ (t : Rows) where
  -- a logged value: of a constant or a parameter it is read at present, of a variable it is its after value
  abbrev pub store : ℕ → ℕ → ℤ → Values → Values
  store e x z vs = store_by (is_given t e x) x z vs

  -- "A step's rows come first": the rows 91 of the event e for the identifiers xs, the next of which is row i
  unfoldable pub read_values : ℕ → List ℕ → ℕ → List Line → Values → Found
  read_values e [] i ls vs = found vs ls
  read_values e (x ∷ xs) i [] vs = bad 0
  read_values e (x ∷ xs) i (None ∷ ls) vs = bad i
  read_values e (x ∷ xs) i (Some r ∷ ls) vs = pick (is_value_row t x r) (read_values e xs (i + 1) ls (store e x (whole_number r.b) vs)) (bad i)

  abbrev pub moved : Values → Values
  moved vs = move (machine_of t).concrete_variables vs

  -- the step of the event e whose row 90 is row i, by what its rows hold, and what follows where it is allowed
  abbrev pub judged : ℕ → ℕ → Found → (List Line → Values → Result ℕ Refusal) → Result ℕ Refusal
  judged i e (bad j) next = Err (refused log_fault j)
  judged i e (found vs ls) next =
      let fault = step_fault t e vs.present vs.after in
      pick (eqb fault no_fault) (next ls (moved vs)) (Err (refused fault i))

  -- After n steps, the initialisation among them, the next row being row i: at most so many steps more. "A step's rows come first", then its judgement, then the next
  -- step's rows.
  unfoldable pub replay_from : ℕ → ℕ → ℕ → List Line → Values → Result ℕ Refusal
  replay_from zero n i ls vs = Err (refused log_fault 0)
  replay_from (suc most) n i [] vs = pick (eqb n 0) (Err (refused log_fault 0)) (Ok (n - 1))
  replay_from (suc most) n i (None ∷ ls) vs = Err (refused log_fault i)
  replay_from (suc most) n i (Some r ∷ ls) vs =
      let e = r.a in
      pick (is_step_row t (eqb n 0) r)
      (judged i e (read_values e (logged t e) (i + 1) ls vs) (λ rest ws. replay_from most (n + 1) (i + 1 + length (logged t e)) rest ws))
      (Err (refused log_fault i))

  unfoldable pub replay_log : List ℕ → Result ℕ Refusal
  replay_log run = replay_from (suc (length (lines run))) 0 1 (lines run) no_values

-- "After the table's checks"
abbrev pub replay_by : Result ℕ Refusal → Result ℕ Refusal → Result ℕ Refusal
replay_by (Ok count) r = r
replay_by (Err refusal) r = Err refusal

unfoldable pub replay : List ℕ → List ℕ → Result ℕ Refusal
replay table run = replay_by (verdict_of table) (replay_log (decoded table) run)

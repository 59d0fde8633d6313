-- How the code goes through what a step is judged by: the rows of axioms and guards, then the identifiers; what isn't to be judged has no fault.
use Rattle.std.specs.Prelude.{Result, Ok, Err, Bool, ◌&&◌, ◌||◌, List, [], map, ℕ, eqb, ℤ}
use Rattle.lists.specs.Choice.{pick}
use Rattle.lists.specs.Below.{numbers}
use Rattle.answer.specs.Stored.{stored_env}
use Rattle.signed.specs.declared.Fault.{Fault}
use Rattle.signed.specs.declared.Fault.TheVariants as evaluation
use Rattle.judge.specs.declared.StepFault.{StepFault}
use Rattle.judge.specs.declared.StepFault.TheVariants.{Outside, Undefined, NotAllowed}
use Rattle.table.specs.Names.{axiom_tag, identifier_tag}
use Rattle.table.specs.Rows.{Rows, tagged, count}
use Rattle.machine.specs.Described.{action_of, machine_of}
use Rattle.recording.specs.Rows.{is_state_variable}
use Rattle.recording.specs.Faults.{no_fault, outside_fault, undefined_fault, log_fault, first_fault, untrue, not_allowed}

-- the number of a fault in a refusal, and of what the code hands up
abbrev pub number_of : StepFault → ℕ
number_of Outside = outside_fault
number_of Undefined = undefined_fault
number_of NotAllowed = log_fault

abbrev pub fault_number : Result Unit StepFault → ℕ
fault_number (Ok u) = no_fault
fault_number (Err e) = number_of e

-- the fault of a formula that has no value
abbrev pub step_fault_of : Fault → StepFault
step_fault_of evaluation.Outside = Outside
step_fault_of evaluation.Undefined = Undefined

-- a fault, or the next one
abbrev pub fault_or : ℕ → ℕ → ℕ
fault_or f g = pick (eqb f no_fault) g f

module _ (t : Rows) where
  -- an axiom, or a guard of the event e
  abbrev pub is_judged : ℕ → ℕ → ℕ → Bool
  is_judged tag e i = tagged t tag i && (eqb tag axiom_tag || eqb (t.a i) e)

  abbrev pub judged_root : ℕ → ℕ → ℕ
  judged_root tag i = pick (eqb tag axiom_tag) (t.a i) (t.b i)

module _ (t : Rows) (present : List ℤ) where
  abbrev pub root_fault : ℕ → ℕ
  root_fault root = untrue (stored_env (machine_of t).type present []) (machine_of t).tree root

  abbrev pub row_fault : ℕ → ℕ → ℕ → ℕ
  row_fault tag e i = pick (is_judged t tag e i) (root_fault (judged_root t tag i)) no_fault

  unfoldable pub first_untrue : ℕ → ℕ → ℕ
  first_untrue tag e = first_fault (map (row_fault tag e) (numbers t.size 0))

module _ (t : Rows) (present after : List ℤ) (e : ℕ) where
  unfoldable pub action_fault : ℕ → ℕ
  action_fault x = not_allowed (stored_env (machine_of t).type present after) (machine_of t).tree x (action_of t e x)

  abbrev pub variable_fault : ℕ → ℕ
  variable_fault x = pick (is_state_variable t x) (action_fault x) no_fault

  unfoldable pub first_not_allowed : ℕ
  first_not_allowed = first_fault (map variable_fault (numbers (count t identifier_tag) 1))

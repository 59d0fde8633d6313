-- 02, request 5: what is wrong with a step whose values are known: "axioms at the initialisation, then guards, then each variable (assigned or not) in order,
-- stopping at the first fault".
use Rattle.std.specs.Prelude.{true, List, [], ◌∷◌, ◌++◌, map, ℕ, eqb, ℤ}
use Rattle.lists.specs.Choice.{pick}
use Rattle.formula.specs.Values.{ValueType, AnyValue, truth, wrap, equal_value}
use Rattle.formula.specs.Tree.{Tree}
use Rattle.formula.specs.Evaluate.{Env}
use Rattle.answer.specs.Answer.{Answer, value, outside, undefined, answer}
use Rattle.answer.specs.Stored.{stored_env}
use Rattle.table.specs.Rows.{Rows}
use Rattle.machine.specs.Machine.{Action, unassigned, becomes_equal, becomes_such_that, Machine}
use Rattle.machine.specs.Described.{machine_of}
use Rattle.recording.specs.Rows.{is_initial}

-- the number of a fault: "16 marks an evaluated term outside 64 bits and 17 an undefined one"; 18 "a step that isn't allowed"
abbrev pub no_fault : ℕ
no_fault = 0

abbrev pub outside_fault : ℕ
outside_fault = 16

abbrev pub undefined_fault : ℕ
undefined_fault = 17

abbrev pub log_fault : ℕ
log_fault = 18

-- values that have to be equal
abbrev pub differs : AnyValue → AnyValue → ℕ
differs v w = pick (equal_value v w) no_fault log_fault

-- a formula that has to have the value v
abbrev pub fault_of : AnyValue → Answer → ℕ
fault_of v (value w) = differs v w
fault_of v outside = outside_fault
fault_of v undefined = undefined_fault

-- the first number that is a fault
unfoldable pub first_fault : List ℕ → ℕ
first_fault [] = no_fault
first_fault (f ∷ fs) = pick (eqb f no_fault) (first_fault fs) f

module _ {type : ℕ → ValueType} (ρ : Env type) (tree : ℕ → Tree) where
  -- a predicate that has to be true
  unfoldable pub untrue : ℕ → ℕ
  untrue r = fault_of (truth true) (answer ρ (tree r))

  -- an after value that its variable's action has to allow
  unfoldable pub not_allowed : ℕ → Action → ℕ
  not_allowed x unassigned = differs (wrap (type x) (ρ.after x)) (wrap (type x) (ρ.present x))
  not_allowed x (becomes_equal r) = fault_of (wrap (type x) (ρ.after x)) (answer ρ (tree r))
  not_allowed x (becomes_such_that r) = untrue r

module _ (t : Rows) (e : ℕ) (present after : List ℤ) where
  abbrev machine : Machine
  machine = machine_of t

  -- axioms and guards, in which no after value counts, then actions
  unfoldable pub step_fault : ℕ
  step_fault =
      let before : Env machine.type = stored_env machine.type present [] in
      let both : Env machine.type = stored_env machine.type present after in
      first_fault (
      pick (is_initial t e) (map (untrue before machine.tree) machine.axioms) []
      ++ (map (untrue before machine.tree) (machine.guards e)
      ++ map (λ x. not_allowed both machine.tree x (machine.action e x)) machine.concrete_variables))

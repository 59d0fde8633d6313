-- 02, request 5: what each refusal of a log marks: "16 marks an evaluated term outside 64 bits and 17 an undefined one, each with the step's row 90; 18 marks a bad, torn or
-- unexpected row with that row, a step that isn't allowed with its row 90, and a log that is empty or ends inside a step with row 0".
use Rattle.std.specs.Prelude.{◌≡◌, Bool, true, false, ℕ, ◌+◌, T, length}
use mathlib.Core.List.{List, [], ◌∷◌, ◌++◌, map, flat_map}
use Rattle.std.proofs.Math.Option.{some}
use Rattle.lists.specs.All.{All, First}
use Rattle.row.specs.Row.{greatest, width, row_bytes, Writable}
use Rattle.row.specs.declared.Row.{Row}
use Rattle.formula.specs.Values.{AnyValue, truth, wrap}
use Rattle.formula.specs.Evaluate.{Env, read_tree}
use Rattle.answer.specs.Answer.{outside, undefined}
use Rattle.answer.specs.Met.{NoneLeaves, FirstFault}
use Rattle.table.specs.Rows.{Rows}
use Rattle.machine.specs.Machine.{Action, unassigned, becomes_equal, becomes_such_that, Role, Machine}
use Rattle.machine.specs.Described.{machine_of}
use Rattle.sequent.specs.Required.{own_variables}
use Rattle.run.specs.Run.{State, blank, view, ReadsTrue, AllReadTrue, Allows, Step}
use Rattle.recording.specs.Rows.{step_tag, is_initial, logged, is_step_row, is_value_row}
use Rattle.recording.specs.Faults.{outside_fault, undefined_fault, log_fault}
use Rattle.recording.specs.Recorded.{value_row, logged_value, constants_alone, ActionInside, AllInside, StepInside}

module _ (t : Rows) where
  abbrev machine : Machine
  machine = machine_of t

  -- ---- a step whose values are known

  -- a formula that has to have the value v: the first fault of its terms, or another value
  pub data FormulaFault (ρ : Env machine.type) (r : ℕ) (v : AnyValue) : ℕ → Type 0 where
    outside_term : FirstFault ρ (machine.tree r) outside → FormulaFault ρ r v outside_fault
    undefined_term : FirstFault ρ (machine.tree r) undefined → FormulaFault ρ r v undefined_fault
    other_value : (w : AnyValue) → read_tree ρ (machine.tree r) ≡ some w → NoneLeaves ρ (machine.tree r) → ¬ (w ≡ v) → FormulaFault ρ r v log_fault

  -- an action of the variable x
  abbrev pub ActionFault : Env machine.type → ℕ → Action → ℕ → Type 0
  ActionFault ρ x unassigned n = ¬ (ρ.after x ≡ ρ.present x) × (n ≡ log_fault)
  ActionFault ρ x (becomes_equal r) n = FormulaFault ρ r (wrap (machine.type x) (ρ.after x)) n
  ActionFault ρ x (becomes_such_that r) n = FormulaFault ρ r (truth true) n

  abbrev pub FirstUntrue : Env machine.type → List ℕ → ℕ → Type 0
  FirstUntrue ρ rs n = First (λ r. ReadsTrue machine ρ r × NoneLeaves ρ (machine.tree r)) (λ r n. FormulaFault ρ r (truth true) n) rs n

  -- the axioms are met, where they are read
  abbrev pub AxiomsMet : ℕ → State machine → Type 0
  AxiomsMet e c = T (is_initial t e) → AllReadTrue machine (constants_alone t c) machine.axioms × AllInside t (constants_alone t c) machine.axioms

  -- "axioms at the initialisation, then guards, then each variable (assigned or not) in order"
  pub data StepFault (ro : Role) (e : ℕ) (c s q k : State machine) (n : ℕ) : Type 0 where
    axiom_fault : T (is_initial t e) → FirstUntrue (constants_alone t c) machine.axioms n → StepFault ro e c s q k n
    guard_fault : AxiomsMet e c → FirstUntrue (view machine ro c s q (blank machine)) (machine.guards e) n → StepFault ro e c s q k n
    action_at_fault : AxiomsMet e c
        → AllReadTrue machine (view machine ro c s q (blank machine)) (machine.guards e) × AllInside t (view machine ro c s q (blank machine)) (machine.guards e)
        → First (λ x. Allows machine (view machine ro c s q k) x (machine.action e x) × ActionInside t (view machine ro c s q k) (machine.action e x))
        (λ x n. ActionFault (view machine ro c s q k) x (machine.action e x) n) (own_variables machine ro) n
        → StepFault ro e c s q k n

  -- ---- the log

  -- the bytes begin with a row in the row form that passes a test, and others follow
  pub record Begins (good : Row → Bool) (bytes : List ℕ) : Type 0 where
    pub row : Row
    pub others : List ℕ
    pub passes : T (good row)
    pub in_form : Writable greatest width row
    pub bytes_are : bytes ≡ row_bytes width row ++ others

  -- the row 90 of a step of the event e, and the first of its rows 91, for the identifiers xs
  abbrev pub beginning : ℕ → List ℕ → State machine → List Row
  beginning e xs v = record { tag = step_tag; a = e; b = 0; c = 0 } ∷ map (λ x. value_row t x (v x)) xs

  pub record Begun (first : Bool) (e : ℕ) (xs : List ℕ) (v : State machine) (more bytes : List ℕ) : Type 0 where
    pub good : T (is_step_row t first (record { tag = step_tag; a = e; b = 0; c = 0 }))
    pub in_form : All (Writable greatest width) (beginning e xs v)
    pub bytes_are : bytes ≡ flat_map (row_bytes width) (beginning e xs v) ++ more

  -- the constants of a step: those of the initialisation, which chooses them
  abbrev pub SameConstants : Bool → State machine → State machine → Type 0
  SameConstants true c d = Unit {0}
  SameConstants false c d = d ≡ c

  -- the state that a step begins with: none at the initialisation
  abbrev pub state_before : Bool → State machine → State machine
  state_before true s = blank machine
  state_before false s = s

  -- The bytes from row i on, of a log whose steps before that were allowed and left the state s, with constants c; at the first step none were.
  pub data Refusal : Bool → State machine → State machine → ℕ → List ℕ → ℕ → ℕ → Type 0 where
    -- "a log that is empty"
    empty : {c s : State machine} {i : ℕ} → Refusal true c s i [] log_fault 0
    -- "a bad, torn or unexpected row with that row": in the place of a row 90
    bad_step : {first : Bool} {c s : State machine} {i : ℕ} {bytes : List ℕ} → ¬ (bytes ≡ []) → ¬ Begins (is_step_row t first) bytes → Refusal first c s i bytes log_fault i
    -- in the place of a row 91
    bad_value : {first : Bool} {c s : State machine} {i : ℕ} {bytes : List ℕ} (e : ℕ) (xs ys : List ℕ) (y : ℕ) (v : State machine) (more : List ℕ)
        → Begun first e xs v more bytes → logged t e ≡ xs ++ (y ∷ ys) → ¬ (more ≡ []) → ¬ Begins (is_value_row t y) more → Refusal first c s i bytes log_fault (i + 1 + length xs)
    -- "ends inside a step"
    ends_inside : {first : Bool} {c s : State machine} {i : ℕ} {bytes : List ℕ} (e : ℕ) (xs ys : List ℕ) (y : ℕ) (v : State machine)
        → Begun first e xs v [] bytes → logged t e ≡ xs ++ (y ∷ ys) → Refusal first c s i bytes log_fault 0
    -- "16 .. 17 .. each with the step's row 90; 18 .. a step that isn't allowed with its row 90"
    step_at_fault : {first : Bool} {c s : State machine} {i : ℕ} {bytes : List ℕ} {n : ℕ} (e : ℕ) (d q k : State machine) (more : List ℕ) → SameConstants first c d
        → Begun first e (logged t e) (logged_value t d q k) more bytes → StepFault (machine.role e) e d (state_before first s) q k n → Refusal first c s i bytes n i
    -- a step that is allowed, and a refusal after it
    after_step : {first : Bool} {c s : State machine} {i : ℕ} {bytes : List ℕ} {n j : ℕ} (e : ℕ) (d q k : State machine) (more : List ℕ) → SameConstants first c d
        → Begun first e (logged t e) (logged_value t d q k) more bytes
        → AxiomsMet e d → Step machine (machine.role e) e d (state_before first s) q k → StepInside t (machine.role e) e d (state_before first s) q k
        → Refusal false d k (i + 1 + length (logged t e)) more n j → Refusal first c s i bytes n j

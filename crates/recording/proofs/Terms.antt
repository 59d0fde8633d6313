-- 02, request 5, what 16 and 17 say of the step that a log's refusal marks with them: one of the formulas that judging the step reads (an axiom, a guard, an action's) meets a
-- term outside 64 bits, or its reading reaches an undefined term. It is the first formula with a fault, and its first fault says it.
use Prim.Native.Nat.{ℕ}
use mathlib.Core.Path.{◌≡◌, refl}
use mathlib.Core.Option.{none}
use native.Mathlib.Omega.{arith}
use lib.Dec.{T}
use Rattle.lists.specs.All.{In}
use Rattle.lists.proofs.All.{first_in}
use Rattle.formula.specs.Values.{AnyValue}
use Rattle.formula.specs.Evaluate.{Env, read_tree}
use Rattle.answer.proofs.Answer.{SomeLeaves, first_outside, first_undefined}
use Rattle.table.specs.Rows.{Rows}
use Rattle.machine.specs.Machine.{Action, unassigned, becomes_equal, becomes_such_that, Role, Machine}
use Rattle.machine.specs.Described.{machine_of}
use Rattle.sequent.specs.Required.{own_variables}
use Rattle.run.specs.Run.{State, blank, view}
use Rattle.recording.specs.Rows.{is_initial}
use Rattle.recording.specs.Faults.{outside_fault, undefined_fault, log_fault}
use Rattle.recording.specs.Recorded.{constants_alone}
use Rattle.recording.specs.Refusal.{FormulaFault, outside_term, undefined_term, other_value, ActionFault}
use Rattle.recording.specs.Refusal.{StepFault, axiom_fault, guard_fault, action_at_fault}

module _ (t : Rows) where
  abbrev machine : Machine
  machine = machine_of t

  -- ---- a formula
  abbrev pub Leaves : Env machine.type → ℕ → Type 0
  Leaves ρ r = SomeLeaves ρ (machine.tree r)

  abbrev pub Undefined : Env machine.type → ℕ → Type 0
  Undefined ρ r = read_tree ρ (machine.tree r) ≡ none

  pub formula_outside : {ρ : Env machine.type} {r : ℕ} {v : AnyValue} {n : ℕ} → n ≡ outside_fault → FormulaFault t ρ r v n → Leaves ρ r
  formula_outside {ρ} {r} z (outside_term f) = first_outside ρ (machine.tree r) f
  formula_outside z (undefined_term e) = absurd (let q : ◌≡◌ {A = ℕ} 17 16 = z in omega arith)
  formula_outside z (other_value w e l d) = absurd (let q : ◌≡◌ {A = ℕ} 18 16 = z in omega arith)

  pub formula_undefined : {ρ : Env machine.type} {r : ℕ} {v : AnyValue} {n : ℕ} → n ≡ undefined_fault → FormulaFault t ρ r v n → Undefined ρ r
  formula_undefined z (outside_term e) = absurd (let q : ◌≡◌ {A = ℕ} 16 17 = z in omega arith)
  formula_undefined {ρ} {r} z (undefined_term f) = first_undefined ρ (machine.tree r) f
  formula_undefined z (other_value w e l d) = absurd (let q : ◌≡◌ {A = ℕ} 18 17 = z in omega arith)

  -- ---- a step

  -- the formulas that judging a step reads, and where: the axioms at the initialisation, the guards, and the actions' formulas
  pub data Read (ro : Role) (e : ℕ) (c s q k : State machine) : Env machine.type → ℕ → Type 0 where
    read_axiom : {r : ℕ} → T (is_initial t e) → In r machine.axioms → Read ro e c s q k (constants_alone t c) r
    read_guard : {r : ℕ} → In r (machine.guards e) → Read ro e c s q k (view machine ro c s q (blank machine)) r
    read_equal : {x r : ℕ} → In x (own_variables machine ro) → machine.action e x ≡ becomes_equal r → Read ro e c s q k (view machine ro c s q k) r
    read_such_that : {x r : ℕ} → In x (own_variables machine ro) → machine.action e x ≡ becomes_such_that r → Read ro e c s q k (view machine ro c s q k) r

  -- a formula that is read has a property
  abbrev pub Some : (Env machine.type → ℕ → Type 0) → Role → ℕ → State machine → State machine → State machine → State machine → Type 0
  Some P ro e c s q k = (ρ : Env machine.type) × (r : ℕ) × Read ro e c s q k ρ r × P ρ r

  module _ (P : Env machine.type → ℕ → Type 0) (n : ℕ) (other : ¬ (n ≡ log_fault)) (has : (ρ : Env machine.type) (r : ℕ) (v : AnyValue) → FormulaFault t ρ r v n → P ρ r) where
    action_read : (ro : Role) (e : ℕ) (c s q k : State machine) (x : ℕ) → In x (own_variables machine ro) → (a : Action) → machine.action e x ≡ a
        → ActionFault t (view machine ro c s q k) x a n → Some P ro e c s q k
    action_read ro e c s q k x i unassigned h f = absurd (other f.1)
    action_read ro e c s q k x i (becomes_equal r) h f = (view machine ro c s q k, r, read_equal i h, has _ r _ f)
    action_read ro e c s q k x i (becomes_such_that r) h f = (view machine ro c s q k, r, read_such_that i h, has _ r _ f)

    step_read : (ro : Role) (e : ℕ) (c s q k : State machine) → StepFault t ro e c s q k n → Some P ro e c s q k
    step_read ro e c s q k (axiom_fault i f) = let (r, j, g) = first_in f in (constants_alone t c, r, read_axiom i j, has _ r _ g)
    step_read ro e c s q k (guard_fault a f) = let (r, j, g) = first_in f in (view machine ro c s q (blank machine), r, read_guard j, has _ r _ g)
    step_read ro e c s q k (action_at_fault a g f) = let (x, j, h) = first_in f in action_read ro e c s q k x j (machine.action e x) refl h

  module _ (ro : Role) (e : ℕ) (c s q k : State machine) where
    pub step_outside : StepFault t ro e c s q k outside_fault → Some Leaves ro e c s q k
    step_outside f = step_read Leaves outside_fault (λ z. let q : ◌≡◌ {A = ℕ} 16 18 = z in omega arith) (λ ρ r v g. formula_outside refl g) ro e c s q k f

    pub step_undefined : StepFault t ro e c s q k undefined_fault → Some Undefined ro e c s q k
    step_undefined f = step_read Undefined undefined_fault (λ z. let q : ◌≡◌ {A = ℕ} 17 18 = z in omega arith) (λ ρ r v g. formula_undefined refl g) ro e c s q k f

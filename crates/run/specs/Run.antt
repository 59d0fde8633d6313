-- 01, The run that a table describes: steps, runs of the concrete machine, and the abstract sequences that match them.
use Rattle.std.specs.Prelude.{◌≡◌, Bool, true, false, List, [], ◌∷◌, ℕ, T, pos}
use Rattle.std.proofs.Math.Option.{some}
use Rattle.lists.specs.All.{All, In}
use Rattle.formula.specs.Values.{ValueType, integer, boolean, Value, AnyValue, truth, wrap}
use Rattle.formula.specs.Evaluate.{Valuation, Env, read_tree}
use Rattle.machine.specs.Machine.{Kind, constant_kind, abstractVariable, concreteVariable, abstractParameter, concreteParameter, sharedVariable}
use Rattle.machine.specs.Machine.{Action, unassigned, becomes_equal, becomes_such_that, Machine, shared_variables}
use Rattle.machine.specs.Machine.{Role, abstract_initialisation, abstract_ordinary, concrete_initialisation, refining, convergent, anticipated}
use Rattle.sequent.specs.Required.{own_variables}

-- one of six by an identifier's kind: constant, abstract variable, concrete variable, abstract parameter, concrete parameter, shared variable
abbrev pub by_kind : {A : Type 0} → Kind → A → A → A → A → A → A → A
by_kind constant_kind c a k q p z = c
by_kind abstractVariable c a k q p z = a
by_kind concreteVariable c a k q p z = k
by_kind abstractParameter c a k q p z = q
by_kind concreteParameter c a k q p z = p
by_kind sharedVariable c a k q p z = z

abbrev pub blank_value : (t : ValueType) → Value t
blank_value integer = pos 0
blank_value boolean = false

module _ (m : Machine) where
  -- constants, the state of a machine or parameters: a value for each identifier, of which only those of the kind in question count; of the state of a machine
  -- those of its own variables and of the shared ones
  abbrev pub State : Type 0
  State = Valuation m.type

  -- in the place of what is not read
  abbrev pub blank : State
  blank x = blank_value (m.type x)

  -- constants, abstract and concrete state, abstract and concrete parameters; the abstract and the concrete state after a step. A shared variable has "one
  -- value" here, the concrete state's.
  abbrev pub world : State → State → State → State → State → State → State → Env m.type
  world c a k q p a' k' = record {
    present = λ x. by_kind (m.kind x) (c x) (a x) (k x) (q x) (p x) (k x);
    after = λ x. by_kind (m.kind x) (blank x) (a' x) (k' x) (blank x) (blank x) (k' x);
  }

  -- what an event's guards and actions read: constants, its machine's state, its parameters, its machine's state after the step. An abstract event reads shared
  -- variables in the abstract state, which stands for both here: concrete variables are not in its sight.
  abbrev pub view : Role → State → State → State → State → Env m.type
  view abstract_initialisation c s p s' = world c s s p blank s' s'
  view abstract_ordinary c s p s' = world c s s p blank s' s'
  view (concrete_initialisation f) c s p s' = world c blank s blank p blank s'
  view (refining f) c s p s' = world c blank s blank p blank s'
  view convergent c s p s' = world c blank s blank p blank s'
  view anticipated c s p s' = world c blank s blank p blank s'

  -- a formula is read, and is read as true
  abbrev pub Defined : Env m.type → ℕ → Type 0
  Defined ρ r = (v : AnyValue) × (read_tree ρ (m.tree r) ≡ some v)

  abbrev pub ReadsTrue : Env m.type → ℕ → Type 0
  ReadsTrue ρ r = read_tree ρ (m.tree r) ≡ some (truth true)

  abbrev pub AllReadTrue : Env m.type → List ℕ → Type 0
  AllReadTrue ρ rs = All (ReadsTrue ρ) rs

  -- "read in table order, each only where those of its sort before it are true": no undefined term is reached
  abbrev pub NoneUndefined : Env m.type → List ℕ → Type 0
  NoneUndefined ρ [] = Unit {0}
  NoneUndefined ρ (r ∷ rs) = Defined ρ r × (ReadsTrue ρ r → NoneUndefined ρ rs)

  -- "Assigned variables get an after value allowed by their action, the others keep theirs."
  abbrev pub Allows : Env m.type → ℕ → Action → Type 0
  Allows ρ x unassigned = ρ.after x ≡ ρ.present x
  Allows ρ x (becomes_equal r) = read_tree ρ (m.tree r) ≡ some (wrap (m.type x) (ρ.after x))
  Allows ρ x (becomes_such_that r) = ReadsTrue ρ r

  abbrev pub ActionDefined : Env m.type → Action → Type 0
  ActionDefined ρ unassigned = Unit {0}
  ActionDefined ρ (becomes_equal r) = Defined ρ r
  ActionDefined ρ (becomes_such_that r) = Defined ρ r

  -- "Parameter values that make every guard true enable the event"
  abbrev pub Enabled : Role → ℕ → State → State → State → Type 0
  Enabled ro e c s p = AllReadTrue (view ro c s p blank) (m.guards e)

  -- "A step needs parameter values that make every guard true", and each variable's action allows its after value
  pub record Step (ro : Role) (e : ℕ) (c s p s' : State) : Type 0 where
    pub enabled : Enabled ro e c s p
    pub allowed : All (λ x. Allows (view ro c s p s') x (m.action e x)) (own_variables m ro)

  -- one step of a run: the event, its parameters, and the state that it leaves
  pub record Taken : Type 0 where
    pub event : ℕ
    pub parameters : State
    pub result : State

  -- "other concrete events"
  abbrev pub of_run : Role → Bool
  of_run abstract_initialisation = false
  of_run abstract_ordinary = false
  of_run (concrete_initialisation f) = false
  of_run (refining f) = true
  of_run convergent = true
  of_run anticipated = true

  -- "then any list of steps of other concrete events, each from the values the last one left"
  abbrev pub Follows : State → State → List Taken → Type 0
  Follows c k [] = Unit {0}
  Follows c k (s ∷ ss) =
      In s.event m.events × T (of_run (m.role s.event)) × Step (m.role s.event) s.event c k s.parameters s.result
      × Follows c s.result ss

  -- the abstract side of a step: parameters, and the abstract state after it
  pub record Match : Type 0 where
    pub parameters : State
    pub result : State

  -- "A concrete ordinary step is matched by a step of the event it refines", an abstract ordinary one, "a convergent one by no abstract step: the abstract
  -- state stays."; 02, request 1: an anticipated one "has no abstract step to match"
  abbrev pub Matches : Role → State → State → State → State → Type 0
  Matches abstract_initialisation c a q a' = ⊥
  Matches abstract_ordinary c a q a' = ⊥
  Matches (concrete_initialisation f) c a q a' = ⊥
  Matches (refining f) c a q a' = In f m.events × (m.role f ≡ abstract_ordinary) × Step abstract_ordinary f c a q a'
  Matches convergent c a q a' = a' ≡ a
  Matches anticipated c a q a' = a' ≡ a

  -- 02, request 2: "Matched runs agree on shared variables at every step"
  abbrev pub AgreeOnShared : State → State → Type 0
  AgreeOnShared a k = All (λ x. a x ≡ k x) (shared_variables m)

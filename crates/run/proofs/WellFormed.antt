-- What the checks of an accepted table give to the proof of demand 3: which identifiers each formula mentions, that the machines have the variables that their
-- invariants mention, sorts, and how events belong together.
use mathlib.Core.Path.{◌≡◌}
use mathlib.Core.Bool.{Bool, true, false, not, ◌&&◌, ◌||◌}
use mathlib.Core.List.{[]}
use mathlib.Core.Logic.{◌⊎◌}
use Prim.Native.Nat.{ℕ}
use lib.Dec.{T, eqb}
use Rattle.lists.specs.All.{All, In}
use Rattle.formula.specs.Values.{integer}
use Rattle.formula.specs.Mentions.{mentions}
use Rattle.formula.proofs.Sort.{tree_type}
use Rattle.machine.specs.Machine.{Kind, abstractVariable, concreteVariable, sharedVariable}
use Rattle.machine.specs.Machine.{Action, unassigned, becomes_equal, becomes_such_that, Witness, Machine, is_shared, shared_variables, unshared_variables}
use Rattle.machine.specs.Machine.{Role, abstract_initialisation, abstract_ordinary, concrete_initialisation, refining, convergent, anticipated}
use Rattle.sequent.specs.Entry.{witness_root}
use Rattle.sequent.specs.Order.{is_in}
use Rattle.sequent.specs.Required.{is_new, own_variables}
use Rattle.sequent.proofs.Dropped.{InvariantsListed}
use Rattle.run.specs.Run.{by_kind}

-- a set of kinds: constant, abstract variable, concrete variable, abstract parameter, concrete parameter, shared variable
abbrev pub kinds : Bool → Bool → Bool → Bool → Bool → Bool → Kind → Bool
kinds c a k q p z K = by_kind K c a k q p z

-- constants, alone and with the abstract state, the concrete state, or both
abbrev pub only_constants : Kind → Bool
only_constants = kinds true false false false false false

abbrev pub abstract_state_kinds : Kind → Bool
abstract_state_kinds = kinds true true false false false true

abbrev pub concrete_state_kinds : Kind → Bool
concrete_state_kinds = kinds true false true false false true

abbrev pub both_state_kinds : Kind → Bool
both_state_kinds = kinds true true true false false true

-- with a machine's parameters beside its state
abbrev pub abstract_event_kinds : Kind → Bool
abstract_event_kinds = kinds true true false true false true

abbrev pub concrete_event_kinds : Kind → Bool
concrete_event_kinds = kinds true false true false true true

-- the concrete machine's variables, and what is hidden in it, for which witnesses are
abbrev pub concrete_variable_kinds : Kind → Bool
concrete_variable_kinds = kinds false false true false false true

abbrev pub hidden_kinds : Kind → Bool
hidden_kinds = kinds false true false true false false

-- what an event's guards and actions mention
abbrev pub own_kinds : Role → Kind → Bool
own_kinds abstract_initialisation = only_constants
own_kinds abstract_ordinary = abstract_event_kinds
own_kinds (concrete_initialisation f) = only_constants
own_kinds (refining f) = concrete_event_kinds
own_kinds convergent = concrete_event_kinds
own_kinds anticipated = concrete_event_kinds

abbrev pub never : ℕ → Bool
never x = false

-- the kind of an event's own variables that are not shared
abbrev pub variable_kind : Role → Kind
variable_kind abstract_initialisation = abstractVariable
variable_kind abstract_ordinary = abstractVariable
variable_kind (concrete_initialisation f) = concreteVariable
variable_kind (refining f) = concreteVariable
variable_kind convergent = concreteVariable
variable_kind anticipated = concreteVariable

module _ (m : Machine) where
  -- the identifiers of a set of kinds, of the shared variables only those that the machine has
  abbrev pub among : (Kind → Bool) → ℕ → Bool
  among S x = S (m.kind x) && (not (is_shared (m.kind x)) || is_in (shared_variables m) x)

  abbrev pub Sees : (Kind → Bool) → (ℕ → Bool) → ℕ → Type 0
  Sees S S' r = T (mentions (among S) S' (m.tree r))

  -- an action of the variable x; a variable that keeps its value reads it
  abbrev pub ActionSees : (Kind → Bool) → ℕ → Action → Type 0
  ActionSees S x unassigned = T (among S x)
  ActionSees S x (becomes_equal r) = Sees S never r × (tree_type m.type (m.tree r) ≡ m.type x)
  ActionSees S x (becomes_such_that r) = Sees S (eqb x) r

  -- a variable of the machine whose own have the kind K
  abbrev pub Variable : Kind → ℕ → Type 0
  Variable K x = (m.kind x ≡ K) ⊎ ((m.kind x ≡ sharedVariable) × In x (shared_variables m))

  -- a witness of the event e: its target is hidden in the concrete machine, it mentions what that machine sees and the target, and it is the one that
  -- form 6 names
  pub record WitnessSees (e : ℕ) (w : Witness) : Type 0 where
    pub hidden : T (hidden_kinds (m.kind w.target))
    pub mentioned : T (mentions (λ y. concrete_event_kinds (m.kind y) || eqb y w.target) (λ y. concrete_variable_kinds (m.kind y) || eqb y w.target) (m.tree w.root))
    pub found : witness_root (m.witnesses e) w.target ≡ w.root

  pub record WellFormed : Type 0 where
    pub axioms_see : All (Sees only_constants never) m.axioms
    pub abstract_invariants_see : All (Sees abstract_state_kinds never) m.abstract_invariants
    pub concrete_invariants_see : All (Sees both_state_kinds never) m.concrete_invariants
    pub invariants_listed : InvariantsListed m
    pub variants_see : All (Sees concrete_state_kinds never) m.variants
    pub variants_integer : All (λ r. tree_type m.type (m.tree r) ≡ integer) m.variants
    pub guards_see : (e : ℕ) → In e m.events → All (Sees (own_kinds (m.role e)) never) (m.guards e)
    pub actions_see : (e : ℕ) → In e m.events → All (λ x. ActionSees (own_kinds (m.role e)) x (m.action e x)) (own_variables m (m.role e))
    pub witnesses_see : (e : ℕ) → In e m.events → All (WitnessSees e) (m.witnesses e)
    pub abstract_variables_kind : All (Variable abstractVariable) m.abstract_variables
    pub concrete_variables_kind : All (Variable concreteVariable) m.concrete_variables
    pub initialised : (e : ℕ) × (f : ℕ) × In e m.events × (m.role e ≡ concrete_initialisation f)
    pub initialises : (e f : ℕ) → In e m.events → m.role e ≡ concrete_initialisation f
        → In f m.events × (m.role f ≡ abstract_initialisation) × (m.guards e ≡ []) × (m.guards f ≡ []) × (m.witnesses f ≡ [])
    pub refines : (e f : ℕ) → In e m.events → m.role e ≡ refining f → In f m.events × (m.role f ≡ abstract_ordinary) × (m.witnesses f ≡ [])
    pub new_stays : (e : ℕ) → In e m.events → T (is_new (m.role e)) → All (λ x. m.action e x ≡ unassigned) (unshared_variables m)
    pub convergent_variant : (e : ℕ) → In e m.events → m.role e ≡ convergent → (r : ℕ) × In r m.variants

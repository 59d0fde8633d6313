-- The abstract machine, its refinement and their constants, as a structure: identifiers, formulas by their root nodes, and events.
use Rattle.std.specs.Prelude.{Bool, true, false, not, List, ℕ}
use Rattle.lists.specs.Below.{keep}
use Rattle.formula.specs.Values.{ValueType}
use Rattle.formula.specs.Tree.{Tree}

-- 01, Rows: "kind: 1 constant, 2 abstract variable, 3 concrete variable, 4 abstract parameter, 5 concrete parameter"; 02, request 2: "Identifier kind 6 is a
-- variable of both machines with one value."
pub data Kind : Type 0 where
  constant_kind abstractVariable concreteVariable abstractParameter concreteParameter sharedVariable : Kind

abbrev pub is_variable : Kind → Bool
is_variable constant_kind = false
is_variable abstractVariable = true
is_variable concreteVariable = true
is_variable abstractParameter = false
is_variable concreteParameter = false
is_variable sharedVariable = true

abbrev pub is_shared : Kind → Bool
is_shared constant_kind = false
is_shared abstractVariable = false
is_shared concreteVariable = false
is_shared abstractParameter = false
is_shared concreteParameter = false
is_shared sharedVariable = true

-- what an event does to a variable: nothing, "becomes equal" to the root's value, or "becomes such that" the root is true
pub data Action : Type 0 where
  unassigned : Action
  becomes_equal : ℕ → Action
  becomes_such_that : ℕ → Action

-- an event by its machine and class; a concrete initialisation and a refining event with the abstract event that its steps are matched by; convergent and
-- anticipated events refine nothing
pub data Role : Type 0 where
  abstract_initialisation : Role
  abstract_ordinary : Role
  concrete_initialisation : ℕ → Role
  refining : ℕ → Role
  convergent : Role
  anticipated : Role

-- an abstract parameter, or a variable for its after value, with the witness's root
pub record Witness : Type 0 where
  pub target : ℕ
  pub root : ℕ

-- Identifiers, nodes and events are numbers; lists are in table order, variables in identifier order. The variables of each machine include the shared ones.
pub record Machine : Type 0 where
  pub type : ℕ → ValueType
  pub kind : ℕ → Kind
  pub tree : ℕ → Tree
  pub abstract_variables : List ℕ
  pub concrete_variables : List ℕ
  pub axioms : List ℕ
  pub abstract_invariants : List ℕ
  pub concrete_invariants : List ℕ
  pub variants : List ℕ
  pub events : List ℕ
  pub role : ℕ → Role
  pub guards : ℕ → List ℕ
  pub action : ℕ → ℕ → Action
  pub witnesses : ℕ → List Witness

module _ (m : Machine) where
  -- the shared variables, and the others of the abstract machine, which are of kind 2
  abbrev pub shared_variables : List ℕ
  shared_variables = keep (λ x. is_shared (m.kind x)) m.abstract_variables

  abbrev pub unshared_variables : List ℕ
  unshared_variables = keep (λ x. not (is_shared (m.kind x))) m.abstract_variables

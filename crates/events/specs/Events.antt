-- 01, Rows: what an event's row says of the event.
use Rattle.std.specs.Prelude.{ℕ, Bool, not, ◌&&◌, ◌||◌, eqb}
use Rattle.lists.specs.Choice.{pick}
use Rattle.table.specs.Names.{abstract_machine, initialisation_class, ordinary_class, convergent_class}
use Rattle.table.specs.Names.{abstract_variable_kind, concrete_variable_kind, abstract_invariant_tag, concrete_invariant_tag}
use Rattle.table.specs.Rows.{Rows, machine_number, class_of, refined_by}

module _ (t : Rows) where
  -- "machine: 1 abstract, 2 concrete; class: 0 initialisation, 1 ordinary, 2 convergent", 3 anticipated
  abbrev pub is_abstract : ℕ → Bool
  is_abstract e = eqb (machine_number t e) abstract_machine

  abbrev pub is_initial : ℕ → Bool
  is_initial e = eqb (class_of t e) initialisation_class

  abbrev pub is_refining : ℕ → Bool
  is_refining e = not (is_abstract e) && eqb (class_of t e) ordinary_class

  -- "SIM, GRD and witnesses belong to the concrete initialisation (no GRD) and ordinary concrete events."
  abbrev pub is_matched : ℕ → Bool
  is_matched e = not (is_abstract e) && (is_initial e || eqb (class_of t e) ordinary_class)

  abbrev pub is_convergent : ℕ → Bool
  is_convergent e = not (is_abstract e) && eqb (class_of t e) convergent_class

  -- convergent or anticipated
  abbrev pub is_new : ℕ → Bool
  is_new e = not (is_abstract e) && not (is_initial e || eqb (class_of t e) ordinary_class)

  -- 02, request 4: "initialisations keep theirs", and so do events that refine
  abbrev pub keeps_all : ℕ → Bool
  keeps_all e = is_initial e || is_refining e

  -- the abstract event that a matched event's steps are matched by: the initialisation is event 1
  abbrev pub matched_by : ℕ → ℕ
  matched_by e = pick (is_initial e) 1 (refined_by t e)

  -- the kind of the variables and the tag of the invariants of an event's own machine
  abbrev pub own_kind : ℕ → ℕ
  own_kind e = pick (is_abstract e) abstract_variable_kind concrete_variable_kind

  abbrev pub own_invariant_tag : ℕ → ℕ
  own_invariant_tag e = pick (is_abstract e) abstract_invariant_tag concrete_invariant_tag

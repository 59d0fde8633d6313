-- 01, Refusals 3 to 12: for each number, whether a row offends, or something is missing.
use Rattle.std.specs.Prelude.{ℕ, zero, suc, ◌+◌, ◌-◌, Bool, true, false, not, ◌&&◌, ◌||◌, ltb, leb, eqb}
use Rattle.lists.specs.Choice.{pick}
use Rattle.lists.specs.Below.{one_if, count_below, some_below}
use Rattle.table.specs.Names.{abstract_invariant_tag, abstract_machine, abstract_parameter_kind, abstract_variable_kind, anticipated_class, axiom_tag, becomes_equal_tag}
use Rattle.table.specs.Names.{boolean_type, concrete_invariant_tag, concrete_machine, concrete_parameter_kind, concrete_variable_kind, constant_kind}
use Rattle.table.specs.Names.{convergent_class, event_tag, guard_tag, identifier_tag, initialisation_class, integer_type, is_variable_of}
use Rattle.table.specs.Names.{node_tag, ordinary_class, predicate_sort, shared_variable_kind, variant_tag, witness_tag}
use Rattle.table.specs.Rows.{Rows, tagged, named, number_in, is_action, type_of, owner_of, machine_number, class_of, refined_by}
use Rattle.machine.specs.Operator.{equal_number, operand_sort}
use Rattle.rules.specs.Tags.{columns_used, row_limit}
use Rattle.rules.specs.Sorts.{Shape, value, anIdentifier, a_variable, none, one, two, unknown, shape_of, operand_count, sort_of, fitting}
use Rattle.rules.specs.Sight.{has_kind, has_variable_kind, sees_only}

module _ (t : Rows) where
  -- 3 tag: "unknown, falling, or unused column not 0"
  unfoldable pub tag_offends : ℕ → Bool
  tag_offends i =
      eqb (columns_used (t.tag i)) 0
      || ((ltb 0 i && ltb (t.tag i) (t.tag (i - 1)))
      || ((ltb (columns_used (t.tag i)) 2 && not (eqb (t.b i) 0))
      || (ltb (columns_used (t.tag i)) 3 && not (eqb (t.c i) 0))))

  -- 4 full: "a row above its limit"; 51 and 52 are counted together
  abbrev pub counted_with : ℕ → ℕ → Bool
  counted_with i j = eqb (t.tag j) (t.tag i) || (is_action t i && is_action t j)

  unfoldable pub full_offends : ℕ → Bool
  full_offends i = leb (row_limit (t.tag i)) (count_below (counted_with i) i)

  -- 5 event: "bad machine, class or refined event; machines out of order; class 0 anywhere but first of its machine"
  abbrev pub is_event : ℕ → ℕ → Bool
  is_event machine i = tagged t event_tag i && eqb (t.a i) machine

  abbrev pub good_machine : ℕ → Bool
  good_machine i = eqb (t.a i) abstract_machine || eqb (t.a i) concrete_machine

  -- "class: 0 initialisation, 1 ordinary, 2 convergent (concrete only)"; 02, request 1: "Event class 3, concrete only"
  abbrev pub good_class : ℕ → Bool
  good_class i = ltb (t.b i) convergent_class || ((eqb (t.b i) convergent_class || eqb (t.b i) anticipated_class) && eqb (t.a i) concrete_machine)

  -- "refined event (abstract, class 1) of a concrete ordinary one, else 0"
  abbrev pub abstract_ordinary_event : ℕ → Bool
  abstract_ordinary_event f = named t event_tag f && (eqb (machine_number t f) abstract_machine && eqb (class_of t f) ordinary_class)

  abbrev pub good_refined : ℕ → Bool
  good_refined i =
      pick (eqb (t.a i) concrete_machine && eqb (t.b i) ordinary_class) (abstract_ordinary_event (t.c i)) (eqb (t.c i) 0)

  -- an abstract event after a concrete one; an initialisation after another event of its machine
  abbrev pub out_of_order : ℕ → Bool
  out_of_order i = (eqb (t.a i) abstract_machine && some_below (is_event concrete_machine) i) || (eqb (t.b i) initialisation_class && some_below (is_event (t.a i)) i)

  unfoldable pub event_offends : ℕ → Bool
  event_offends i = tagged t event_tag i && not (good_machine i && (good_class i && (good_refined i && not (out_of_order i))))

  -- 6 identifier: "bad kind, type or owner (owner: own machine, class not 0)"; kinds are 1 to 6
  abbrev pub owner_event : ℕ → ℕ → Bool
  owner_event machine e = named t event_tag e && (eqb (machine_number t e) machine && not (eqb (class_of t e) initialisation_class))

  abbrev pub good_owner : ℕ → Bool
  good_owner i =
      pick (eqb (t.a i) abstract_parameter_kind) (owner_event abstract_machine (t.c i)) (pick (eqb (t.a i) concrete_parameter_kind) (owner_event concrete_machine (t.c i)) (eqb (t.c i) 0))

  unfoldable pub identifier_offends : ℕ → Bool
  identifier_offends i =
      tagged t identifier_tag i && not ((leb constant_kind (t.a i) && leb (t.a i) shared_variable_kind) && ((eqb (t.b i) integer_type || eqb (t.b i) boolean_type) && good_owner i))

  -- 7 reference: "unknown operator, nonzero unused node column, or a number that names nothing fitting"
  -- "operands: an earlier node"
  abbrev pub earlier_node : ℕ → ℕ → Bool
  earlier_node i n = leb 1 n && ltb n (number_in t node_tag i)

  abbrev pub named_variable : ℕ → Bool
  named_variable x = named t identifier_tag x && (has_kind t abstract_variable_kind x || has_variable_kind t concrete_variable_kind x)

  abbrev pub good_columns : Shape → ℕ → Bool
  good_columns value i = eqb (t.c i) 0
  good_columns anIdentifier i = named t identifier_tag (t.b i) && eqb (t.c i) 0
  good_columns a_variable i = named_variable (t.b i) && eqb (t.c i) 0
  good_columns none i = eqb (t.b i) 0 && eqb (t.c i) 0
  good_columns one i = earlier_node i (t.b i) && eqb (t.c i) 0
  good_columns two i = earlier_node i (t.b i) && earlier_node i (t.c i)
  good_columns unknown i = false

  -- "guards: class not 0"
  abbrev pub guard_event : ℕ → Bool
  guard_event e = named t event_tag e && not (eqb (class_of t e) initialisation_class)

  -- actions: "event, variable of its machine"; 02, request 2: "both machines' events may assign it"
  abbrev pub action_target : ℕ → ℕ → Bool
  action_target e x = named t event_tag e && (named t identifier_tag x && has_variable_kind t (1 + machine_number t e) x)

  -- "witnesses: class 0 or 1, with an abstract variable or a parameter of the refined event"
  abbrev pub witness_target : ℕ → ℕ → Bool
  witness_target e x =
      (named t event_tag e && (eqb (machine_number t e) concrete_machine && ltb (class_of t e) convergent_class))
      && (named t identifier_tag x && (has_kind t abstract_variable_kind x || (has_kind t abstract_parameter_kind x && eqb (owner_of t x) (refined_by t e))))

  -- the root that a row names; 0 where it names none
  unfoldable pub root_at : ℕ → ℕ
  root_at i =
      pick (tagged t axiom_tag i || (tagged t abstract_invariant_tag i || (tagged t concrete_invariant_tag i || tagged t variant_tag i))) (t.a i)
      (pick (tagged t guard_tag i) (t.b i)
      (pick (is_action t i || tagged t witness_tag i) (t.c i) 0))

  abbrev pub names_root : ℕ → Bool
  names_root i = ltb node_tag (t.tag i) && not (tagged t event_tag i)

  abbrev pub good_target : ℕ → Bool
  good_target i =
      pick (tagged t guard_tag i) (guard_event (t.a i))
      (pick (is_action t i) (action_target (t.a i) (t.b i))
      (pick (tagged t witness_tag i) (witness_target (t.a i) (t.b i)) true))

  unfoldable pub reference_offends : ℕ → Bool
  reference_offends i =
      (tagged t node_tag i && not (good_columns (shape_of (t.a i)) i))
      || (names_root i && not (good_target i && named t node_tag (root_at i)))

  -- 8 sort: "operand or root of the wrong sort"; "= (both integer or both boolean)"
  abbrev pub good_operands : ℕ → ℕ → Bool
  good_operands zero i = true
  good_operands (suc zero) i = fitting t (operand_sort (t.a i)) (t.b i)
  good_operands (suc (suc n)) i =
      fitting t (operand_sort (t.a i)) (t.b i)
      && (fitting t (operand_sort (t.a i)) (t.c i) && (not (eqb (t.a i) equal_number) || eqb (sort_of t (t.b i)) (sort_of t (t.c i))))

  -- "Roots are predicates, but 51 takes the variable's type and 70 an integer."
  unfoldable pub root_sort : ℕ → ℕ
  root_sort i = pick (tagged t becomes_equal_tag i) (type_of t (t.b i)) (pick (tagged t variant_tag i) integer_type predicate_sort)

  unfoldable pub sort_offends : ℕ → Bool
  sort_offends i =
      (tagged t node_tag i && not (good_operands (operand_count (shape_of (t.a i))) i))
      || (names_root i && not (eqb (sort_of t (root_at i)) (root_sort i)))

  -- 9 use: "a node without its one use", as an operand or a root
  abbrev pub uses_at : ℕ → ℕ → ℕ
  uses_at n i =
      pick (tagged t node_tag i) (one_if (ltb 0 (operand_count (shape_of (t.a i))) && eqb (t.b i) n) + one_if (ltb 1 (operand_count (shape_of (t.a i))) && eqb (t.c i) n)) (one_if (names_root i && eqb (root_at i) n))

  unfoldable pub uses_to : ℕ → ℕ → ℕ
  uses_to n zero = 0
  uses_to n (suc i) = uses_to n i + uses_at n i

  unfoldable pub use_offends : ℕ → Bool
  use_offends i = tagged t node_tag i && not (eqb (uses_to (number_in t node_tag i) t.size) 1)

  -- 10 sight: "a formula mentions what it may not"
  unfoldable pub sight_offends : ℕ → Bool
  sight_offends i = names_root i && not (sees_only t i (root_at i))

  -- 11 twice: "second action or witness for one target"
  abbrev pub same_target : ℕ → ℕ → Bool
  same_target i j = ((is_action t i && is_action t j) || (tagged t witness_tag i && tagged t witness_tag j)) && (eqb (t.a j) (t.a i) && eqb (t.b j) (t.b i))

  unfoldable pub twice_offends : ℕ → Bool
  twice_offends i = some_below (same_target i) i

  -- the row i offends against the check of a number from 3 to 11
  unfoldable pub offends : ℕ → ℕ → Bool
  offends check i =
      pick (eqb check 3) (tag_offends i)
      (pick (eqb check 4) (full_offends i)
      (pick (eqb check 5) (event_offends i)
      (pick (eqb check 6) (identifier_offends i)
      (pick (eqb check 7) (reference_offends i)
      (pick (eqb check 8) (sort_offends i)
      (pick (eqb check 9) (use_offends i)
      (pick (eqb check 10) (sight_offends i)
      (pick (eqb check 11) (twice_offends i) false))))))))

  -- 12 missing
  -- "an initialisation of either machine"
  abbrev pub initialises : ℕ → ℕ → Bool
  initialises machine i = is_event machine i && eqb (t.b i) initialisation_class

  -- an action, or a witness, for the target x of the event e
  abbrev pub assigned : ℕ → ℕ → Bool
  assigned e x = some_below (λ i. is_action t i && (eqb (t.a i) e && eqb (t.b i) x)) t.size

  abbrev pub has_witness : ℕ → ℕ → Bool
  has_witness e x = some_below (λ i. tagged t witness_tag i && (eqb (t.a i) e && eqb (t.b i) x)) t.size

  -- "an initial action for a variable": the event at row i initialises the machine whose variable is at row j, and has no action for it; 02, request 2: "both
  -- initialisations must" assign a shared one
  abbrev pub action_wanted : ℕ → ℕ → Bool
  action_wanted i j = eqb (t.b i) initialisation_class && is_variable_of (1 + t.a i) (t.a j)

  abbrev pub lacks_action : ℕ → ℕ → Bool
  lacks_action i j = action_wanted i j && not (assigned (number_in t event_tag i) (number_in t identifier_tag j))

  -- "a witness (at concrete classes 0 and 1: for each abstract variable, assigned or not, and each parameter of the refined event)"
  abbrev pub witness_wanted : ℕ → ℕ → Bool
  witness_wanted i j = (eqb (t.a i) concrete_machine && ltb (t.b i) convergent_class) && (eqb (t.a j) abstract_variable_kind || (eqb (t.a j) abstract_parameter_kind && eqb (t.c j) (t.c i)))

  abbrev pub lacks_witness : ℕ → ℕ → Bool
  lacks_witness i j = witness_wanted i j && not (has_witness (number_in t event_tag i) (number_in t identifier_tag j))

  -- row j is an identifier for which the event at row i lacks an action or a witness
  abbrev pub lacks_for : ℕ → ℕ → Bool
  lacks_for i j = tagged t identifier_tag j && (lacks_action i j || lacks_witness i j)

  abbrev pub event_lacks : ℕ → Bool
  event_lacks i = tagged t event_tag i && some_below (lacks_for i) t.size

  -- "a variant without convergent events or the reverse", which 02, request 1, puts anew: "A variant may stand with class 2 or 3 and must stand with class 2."
  abbrev pub of_class : ℕ → ℕ → Bool
  of_class class i = tagged t event_tag i && eqb (t.b i) class

  abbrev pub some_of_class : ℕ → Bool
  some_of_class class = some_below (of_class class) t.size

  abbrev pub some_variant : Bool
  some_variant = some_below (tagged t variant_tag) t.size

  abbrev pub lacks_variant : Bool
  lacks_variant = some_of_class convergent_class && not some_variant

  abbrev pub lacks_new_event : Bool
  lacks_new_event = some_variant && not (some_of_class convergent_class || some_of_class anticipated_class)

  unfoldable pub missing : Bool
  missing =
      not (some_below (initialises abstract_machine) t.size)
      || (not (some_below (initialises concrete_machine) t.size)
      || (some_below event_lacks t.size
      || (lacks_variant || lacks_new_event)))

-- 01, Rows: "A tag is one of 10, 20, 30 to 32, 40, 50 to 52, 60, 70", by name.
use Rattle.std.specs.Prelude.{ℕ, Bool, ◌||◌, eqb}

abbrev pub identifier_tag : ℕ
identifier_tag = 10

abbrev pub node_tag : ℕ
node_tag = 20

abbrev pub axiom_tag : ℕ
axiom_tag = 30

abbrev pub abstract_invariant_tag : ℕ
abstract_invariant_tag = 31

abbrev pub concrete_invariant_tag : ℕ
concrete_invariant_tag = 32

abbrev pub event_tag : ℕ
event_tag = 40

abbrev pub guard_tag : ℕ
guard_tag = 50

abbrev pub becomes_equal_tag : ℕ
becomes_equal_tag = 51

abbrev pub becomes_such_tag : ℕ
becomes_such_tag = 52

abbrev pub witness_tag : ℕ
witness_tag = 60

abbrev pub variant_tag : ℕ
variant_tag = 70

-- "kind: 1 constant, 2 abstract variable, 3 concrete variable, 4 abstract parameter, 5 concrete parameter"; 02, request 2: kind 6, a shared variable
abbrev pub constant_kind : ℕ
constant_kind = 1

abbrev pub abstract_variable_kind : ℕ
abstract_variable_kind = 2

abbrev pub concrete_variable_kind : ℕ
concrete_variable_kind = 3

abbrev pub abstract_parameter_kind : ℕ
abstract_parameter_kind = 4

abbrev pub concrete_parameter_kind : ℕ
concrete_parameter_kind = 5

abbrev pub shared_variable_kind : ℕ
shared_variable_kind = 6

-- 02, request 2: "Identifier kind 6 is a variable of both machines": the variables of a machine are those of its own kind, 2 or 3, and the shared ones
abbrev pub is_variable_of : ℕ → ℕ → Bool
is_variable_of own kind = eqb kind own || eqb kind shared_variable_kind

-- "machine: 1 abstract, 2 concrete"
abbrev pub abstract_machine : ℕ
abstract_machine = 1

abbrev pub concrete_machine : ℕ
concrete_machine = 2

-- "class: 0 initialisation, 1 ordinary, 2 convergent"; 02, request 1: class 3, anticipated
abbrev pub initialisation_class : ℕ
initialisation_class = 0

abbrev pub ordinary_class : ℕ
ordinary_class = 1

abbrev pub convergent_class : ℕ
convergent_class = 2

abbrev pub anticipated_class : ℕ
anticipated_class = 3

-- "type: 1 integer, 2 boolean"; a formula is also of the third sort
abbrev pub integer_type : ℕ
integer_type = 1

abbrev pub boolean_type : ℕ
boolean_type = 2

abbrev pub predicate_sort : ℕ
predicate_sort = 3

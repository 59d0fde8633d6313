-- The machines that a table describes.
use Rattle.std.specs.Prelude.{Bool, ◌&&◌, List, map, ℕ, zero, suc, ltb, eqb}
use Rattle.lists.specs.Choice.{pick}
use Rattle.lists.specs.Below.{first, numbers, keep}
use Rattle.table.specs.Names.{abstract_invariant_tag, abstract_machine, abstract_parameter_kind, abstract_variable_kind, axiom_tag, becomes_equal_tag}
use Rattle.table.specs.Names.{boolean_type, concrete_invariant_tag, concrete_variable_kind, constant_kind as kind_of_constants, event_tag, guard_tag}
use Rattle.table.specs.Names.{identifier_tag, convergent_class, initialisation_class, is_variable_of, ordinary_class, shared_variable_kind, variant_tag, witness_tag}
use Rattle.table.specs.Rows.{Rows, tagged, section, count, kind_of, type_of, operator_of, left_of, right_of, machine_number, class_of, refined_by, is_action}
use Rattle.formula.specs.Values.{ValueType, integer, boolean}
use Rattle.formula.specs.Tree.{literal, bottom, Tree, constant, identifier, after, unary, binary, division, connective}
use Rattle.machine.specs.Machine.{Kind, constant_kind, abstractVariable, concreteVariable, abstractParameter, concreteParameter, sharedVariable}
use Rattle.machine.specs.Machine.{Action, unassigned, becomes_equal, becomes_such_that, Machine}
use Rattle.machine.specs.Machine.{Role, abstract_initialisation, abstract_ordinary, concrete_initialisation, refining, convergent, anticipated}
use Rattle.machine.specs.Operator.{Operator, literalOf, identifierOf, after_of, constant_of, unary_of, binary_of, division_of, connective_of, unknown, operator_numbered}

-- 01: "type: 1 integer, 2 boolean"
unfoldable pub type_numbered : ℕ → ValueType
type_numbered n = pick (eqb n boolean_type) boolean integer

-- 01: "kind: 1 constant, 2 abstract variable, 3 concrete variable, 4 abstract parameter, 5 concrete parameter"; 02, request 2: 6, a variable of both machines
unfoldable pub kind_numbered : ℕ → Kind
kind_numbered n =
    pick (eqb n kind_of_constants) constant_kind
    (pick (eqb n abstract_variable_kind) abstractVariable
    (pick (eqb n concrete_variable_kind) concreteVariable
    (pick (eqb n shared_variable_kind) sharedVariable
    (pick (eqb n abstract_parameter_kind) abstractParameter concreteParameter))))

-- 01: "machine: 1 abstract, 2 concrete; class: 0 initialisation, 1 ordinary, 2 convergent", else 3, anticipated; the abstract initialisation is event 1
unfoldable pub role_numbered : ℕ → ℕ → ℕ → Role
role_numbered machine class refined =
    pick (eqb machine abstract_machine)
    (pick (eqb class initialisation_class) abstract_initialisation abstract_ordinary)
    (pick (eqb class initialisation_class) (concrete_initialisation 1)
    (pick (eqb class ordinary_class) (refining refined)
    (pick (eqb class convergent_class) convergent anticipated)))

-- a node of an operator, its column b and the trees of its operands
abbrev pub node : Operator → ℕ → Tree → Tree → Tree
node literalOf b l r = constant (literal b)
node identifierOf b l r = identifier b
node after_of b l r = after b
node (constant_of c) b l r = constant c
node (unary_of o) b l r = unary o l
node (binary_of o) b l r = binary o l r
node (division_of o) b l r = division o l r
node (connective_of o) b l r = connective o l r
node unknown b l r = constant bottom

-- "Operands have smaller numbers than their node": whether x is an earlier node than n
abbrev pub earlier : ℕ → ℕ → Bool
earlier n x = ltb 0 x && ltb x n

module _ (t : Rows) where
  -- the tree of a node, to a depth, for which its number is enough; an operand that is no earlier node counts as ⊥
  unfoldable pub tree_to : ℕ → ℕ → Tree
  tree_to zero n = constant bottom
  tree_to (suc depth) n =
      let l : Tree = pick (earlier n (left_of t n)) (tree_to depth (left_of t n)) (constant bottom) in
      let r : Tree = pick (earlier n (right_of t n)) (tree_to depth (right_of t n)) (constant bottom) in
      node (operator_numbered (operator_of t n)) (left_of t n) l r

  unfoldable pub tree_of : ℕ → Tree
  tree_of n = tree_to n n

  -- the rows 51 and 52 that set a variable of an event, and the first of them
  abbrev pub sets : ℕ → ℕ → ℕ → Bool
  sets e x i = is_action t i && (eqb (t.a i) e && eqb (t.b i) x)

  unfoldable pub action_of : ℕ → ℕ → Action
  action_of e x =
      let i = first (sets e x) t.size 0 in
      pick (ltb i t.size) (pick (tagged t becomes_equal_tag i) (becomes_equal (t.c i)) (becomes_such_that (t.c i))) unassigned

  -- the rows of a section that belong to an event
  unfoldable pub belonging : ℕ → ℕ → List ℕ
  belonging k e = keep (λ i. eqb (t.a i) e) (section t k)

  -- the variables of the machine whose own variables have this kind, its own and the shared ones mixed in identifier order
  unfoldable pub variables_of : ℕ → List ℕ
  variables_of own = keep (λ x. is_variable_of own (kind_of t x)) (numbers (count t identifier_tag) 1)

  unfoldable pub machine_of : Machine
  machine_of = record {
    type = λ x. type_numbered (type_of t x);
    kind = λ x. kind_numbered (kind_of t x);
    tree = tree_of;
    abstract_variables = variables_of abstract_variable_kind;
    concrete_variables = variables_of concrete_variable_kind;
    axioms = map t.a (section t axiom_tag);
    abstract_invariants = map t.a (section t abstract_invariant_tag);
    concrete_invariants = map t.a (section t concrete_invariant_tag);
    variants = map t.a (section t variant_tag);
    events = numbers (count t event_tag) 1;
    role = λ e. role_numbered (machine_number t e) (class_of t e) (refined_by t e);
    guards = λ e. map t.b (belonging guard_tag e);
    action = action_of;
    witnesses = λ e. map (λ i. record { target = t.b i; root = t.c i }) (belonging witness_tag e);
  }

-- 01, Rows: "A formula may mention": what the formula whose root a row names may mention, of identifiers and of after values.
use Rattle.std.specs.Prelude.{ℕ, ◌+◌, Bool, false, not, ◌&&◌, ◌||◌, eqb}
use Rattle.lists.specs.Choice.{pick}
use Rattle.formula.specs.Mentions.{mentions}
use Rattle.table.specs.Names.{abstract_invariant_tag, abstract_parameter_kind, abstract_variable_kind, axiom_tag, becomes_such_tag, concrete_invariant_tag}
use Rattle.table.specs.Names.{concrete_parameter_kind, concrete_variable_kind, constant_kind, initialisation_class, is_variable_of, variant_tag, witness_tag}
use Rattle.table.specs.Rows.{Rows, tagged, kind_of, owner_of, machine_number, class_of}
use Rattle.machine.specs.Described.{tree_of}

module _ (t : Rows) where
  abbrev pub has_kind : ℕ → ℕ → Bool
  has_kind k x = eqb (kind_of t x) k

  -- a variable of the machine whose own have the kind k; 02, request 2: "formulas may mention it where either kind of variable is allowed"
  abbrev pub has_variable_kind : ℕ → ℕ → Bool
  has_variable_kind k x = is_variable_of k (kind_of t x)

  -- the variables of an event's machine, at present: "No formula of an initialisation, its witnesses included, mentions a present variable value."
  abbrev pub present_variable : ℕ → ℕ → Bool
  present_variable e x = has_variable_kind (1 + machine_number t e) x && not (eqb (class_of t e) initialisation_class)

  -- "the event's own parameters"
  abbrev pub own_parameter : ℕ → ℕ → Bool
  own_parameter e x = (has_kind abstract_parameter_kind x || has_kind concrete_parameter_kind x) && eqb (owner_of t x) e

  -- "guard and action, constants, the event's own parameters and its machine's variables"
  abbrev pub event_sees : ℕ → ℕ → Bool
  event_sees e x = has_kind constant_kind x || (own_parameter e x || present_variable e x)

  -- the row's formula may mention the identifier x
  unfoldable pub may_mention : ℕ → ℕ → Bool
  may_mention i x =
      pick (tagged t axiom_tag i) (has_kind constant_kind x)
      (pick (tagged t abstract_invariant_tag i) (has_kind constant_kind x || has_variable_kind abstract_variable_kind x)
      (pick (tagged t concrete_invariant_tag i) (has_kind constant_kind x || (has_kind abstract_variable_kind x || has_variable_kind concrete_variable_kind x))
      (pick (tagged t variant_tag i) (has_kind constant_kind x || has_variable_kind concrete_variable_kind x)
      (pick (tagged t witness_tag i) (event_sees (t.a i) x || (has_kind abstract_parameter_kind x && eqb x (t.b i))) (event_sees (t.a i) x)))))

  -- the row's formula may mention the after value of x: "52 also the after value it sets"; "variable witness, the same with concrete after values, and its
  -- own after value in place of the identifier"
  unfoldable pub may_mention_after : ℕ → ℕ → Bool
  may_mention_after i x =
      pick (tagged t becomes_such_tag i) (eqb x (t.b i)) (pick (tagged t witness_tag i) (has_kind abstract_variable_kind (t.b i) && (has_variable_kind concrete_variable_kind x || eqb x (t.b i))) false)

  -- the formula at a root mentions only that
  unfoldable pub sees_only : ℕ → ℕ → Bool
  sees_only i root = mentions (may_mention i) (may_mention_after i) (tree_of t root)

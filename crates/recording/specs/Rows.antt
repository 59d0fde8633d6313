-- 02, request 5: "A run is row 90 (event), then rows 91 (identifier, value; booleans 0 or 1)".
use Rattle.std.specs.Prelude.{Bool, not, ◌&&◌, ◌||◌, List, ℕ, leb, eqb}
use Rattle.std.specs.Bool.{beq}
use Rattle.lists.specs.Choice.{pick}
use Rattle.lists.specs.Below.{numbers, keep}
use Rattle.row.specs.declared.Row.{Row}
use Rattle.table.specs.Names.{boolean_type, concrete_machine, concrete_parameter_kind, concrete_variable_kind, constant_kind, event_tag, identifier_tag, initialisation_class, is_variable_of}
use Rattle.table.specs.Rows.{Rows, count, named, kind_of, type_of, owner_of, machine_number, class_of}

abbrev pub step_tag : ℕ
step_tag = 90

abbrev pub value_tag : ℕ
value_tag = 91

-- "booleans 0 or 1"
abbrev pub is_logged : ℕ → ℕ → Bool
is_logged type w = not (eqb type boolean_type) || leb w 1

module _ (t : Rows) where
  -- "all concrete and shared variables"
  abbrev pub is_state_variable : ℕ → Bool
  is_state_variable x = is_variable_of concrete_variable_kind (kind_of t x)

  abbrev pub is_initial : ℕ → Bool
  is_initial e = eqb (class_of t e) initialisation_class

  -- what is logged beside them: "constants .. after initialisation, else the event's parameters"
  abbrev pub is_given : ℕ → ℕ → Bool
  is_given e x = pick (is_initial e) (eqb (kind_of t x) constant_kind) (eqb (kind_of t x) concrete_parameter_kind && eqb (owner_of t x) e)

  -- the identifiers of an event's rows 91, "in identifier order"
  unfoldable pub logged : ℕ → List ℕ
  logged e = keep (λ x. is_given e x || is_state_variable x) (numbers (count t identifier_tag) 1)

  -- row 90 of a step: the concrete initialisation first, then concrete events that are none; the columns that it doesn't use hold 0
  abbrev pub is_step_row : Bool → Row → Bool
  is_step_row first r =
      eqb r.tag step_tag
      && ((named t event_tag r.a && (eqb (machine_number t r.a) concrete_machine && beq (is_initial r.a) first))
      && (eqb r.b 0 && eqb r.c 0))

  -- row 91 of the identifier x
  abbrev pub is_value_row : ℕ → Row → Bool
  is_value_row x r = eqb r.tag value_tag && (eqb r.a x && (is_logged (type_of t x) r.b && eqb r.c 0))

-- 02, request 6: the engineer's choice, "one step's rows 90 and 91, with only the parameters and the after values of 52 actions".
use Rattle.std.specs.Prelude.{Bool, true, false, ◌&&◌, ◌||◌, List, [], ◌∷◌, ℕ, Some, None}
use Rattle.lists.specs.Choice.{pick}
use Rattle.lists.specs.Below.{numbers, keep}
use Rattle.row.specs.Reading.{Line}
use Rattle.table.specs.Names.{identifier_tag}
use Rattle.table.specs.Rows.{Rows, count}
use Rattle.machine.specs.Machine.{Action, unassigned, becomes_equal, becomes_such_that}
use Rattle.machine.specs.Described.{action_of}
use Rattle.recording.specs.Rows.{is_given, is_state_variable, is_step_row}
use Rattle.recording.specs.Replay.{Values, Found, found, bad, read_values}

abbrev pub is_such_that : Action → Bool
is_such_that unassigned = false
is_such_that (becomes_equal r) = false
is_such_that (becomes_such_that r) = true

-- what is chosen: an event, with the values at hand for it; or the rows are no such choice
pub data Choice : Type 0 where
  chosen : ℕ → Values → Choice
  none : Choice

-- "a row after the step's last" makes it none
abbrev pub choice_of : ℕ → Found → Choice
choice_of e (found vs []) = chosen e vs
choice_of e (found vs (l ∷ ls)) = none
choice_of e (bad i) = none

module _ (t : Rows) where
  -- the identifiers of the rows 91, in identifier order
  unfoldable pub asked : ℕ → List ℕ
  asked e = keep (λ x. is_given t e x || (is_such_that (action_of t e x) && is_state_variable t x)) (numbers (count t identifier_tag) 1)

  -- what the rows of a step choose; "an abstract or class 0 event" is none
  unfoldable pub choice : List Line → Values → Choice
  choice [] vs = none
  choice (None ∷ ls) vs = none
  choice (Some r ∷ ls) vs = pick (is_step_row t false r) (choice_of r.a (read_values t r.a (asked r.a) 2 ls vs)) none

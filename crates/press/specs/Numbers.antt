-- How the code presses on the values and the types of a state, two lists of numbers.
use Rattle.std.specs.Prelude.{Option, Some, None, List, ℕ, eqb, ℤ, length}
use Rattle.lists.specs.Choice.{pick}
use Rattle.recording.specs.Replay.{Values}
use Rattle.bench.specs.Choice.{Choice, chosen, none}

-- how many records two lists have room for: lists of two lengths are no list of records, for which 65 stands, more than a table has identifiers
unfoldable pub room_for : List ℤ → List ℕ → ℕ
room_for zs types = pick (eqb (length zs) (length types)) (length zs) 65

-- the choice that the code found, with the values that it stored
abbrev pub choice_of : Option ℕ → Values → Choice
choice_of (Some e) vs = chosen e vs
choice_of None vs = none

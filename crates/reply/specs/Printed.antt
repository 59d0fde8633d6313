-- 01, Sequents: "A sequent is written as row 80 (kind, event or 0, item), rows 81 (hypotheses), row 82 (goal)."; 02, request 4: "After each row 80 comes a row 84".
use Rattle.std.specs.Prelude.{ℕ, Bool, ◌||◌, eqb}
use mathlib.Core.List.{List, [], ◌∷◌, ◌++◌, map, flat_map}
use Rattle.lists.specs.Below.{keep}
use Rattle.lists.specs.Different.{different, lowest, highest}
use Rattle.row.specs.declared.Row.{Row}
use Rattle.row.specs.Row.{row_bytes, width}
use Rattle.machine.specs.Machine.{Machine}
use Rattle.sequent.specs.Entry.{Entry, formula}
use Rattle.sequent.specs.Numbers.{numbers_of}
use Rattle.sequent.specs.Sequent.{Sequent}
use Rattle.reply.specs.Row.{row}
use Rattle.reply.specs.Spelled.{some_value_number, some_after_value_number, spell}

abbrev pub sequent_tag : ℕ
sequent_tag = 80

abbrev pub hypothesis_tag : ℕ
hypothesis_tag = 81

abbrev pub goal_tag : ℕ
goal_tag = 82

abbrev pub mentioned_tag : ℕ
mentioned_tag = 84

-- "rows 81 (hypotheses), row 82 (goal)": the tag, then the entry's form and two numbers
abbrev pub entry_row : ℕ → Entry → Row
entry_row t h = let n = numbers_of h in row t n.form n.first n.second

-- 02, request 4: "counting every identifier in the spelled rows": column b of operators 2 and 3, and of 40 and 41
abbrev pub has_identifier : Row → Bool
has_identifier r = eqb r.a 2 || (eqb r.a 3 || (eqb r.a some_value_number || eqb r.a some_after_value_number))

unfoldable pub identifiers_in : List Row → List ℕ
identifiers_in rs = map (λ r. r.b) (keep has_identifier rs)

-- 02, request 4: "a row 84 for the goal spelled out: how many identifiers it mentions and the lowest and highest (0 when there are none)"
abbrev pub mentioned_row : List ℕ → Row
mentioned_row xs = row mentioned_tag (different xs) (lowest xs) (highest xs)

unfoldable pub sequent_rows : Machine → Sequent → List Row
sequent_rows m s =
    row sequent_tag s.kind s.event s.item
    ∷ mentioned_row (identifiers_in (spell (formula m s.goal)))
    ∷ (map (entry_row hypothesis_tag) s.hypotheses ++ (entry_row goal_tag s.goal ∷ []))

-- rows one after another
unfoldable pub rows_bytes : List Row → List ℕ
rows_bytes rs = flat_map (row_bytes width) rs

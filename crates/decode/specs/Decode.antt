-- The words of a table's first rows, up to the first that is not in the row form.
use Rattle.std.specs.Prelude.{ℕ, ltb, Result, Ok, Err}
use mathlib.Core.List.{List, [], ◌∷◌, flat_map}
use Rattle.lists.specs.Choice.{pick}
use Rattle.lists.specs.Below.{first, numbers}
use Rattle.row.specs.declared.Row.{Row}
use Rattle.rules.specs.Decoded.{line_of, not_row, line_words}
use Rattle.decode.specs.declared.Malformed.{Malformed}

abbrev pub four : Row → List ℕ
four r = r.tag ∷ r.a ∷ r.b ∷ r.c ∷ []

-- the first of n rows that is not in the row form, or n
abbrev pub first_bad : List ℕ → ℕ → ℕ
first_bad bytes n = first (λ i. not_row (line_of bytes i)) n 0

-- the words of the first n rows
unfoldable pub words_to : List ℕ → ℕ → List ℕ
words_to bytes n = flat_map (λ i. line_words (line_of bytes i)) (numbers n 0)

abbrev pub decoded_of : ℕ → ℕ → Result ℕ Malformed
decoded_of bad n = pick (ltb bad n) (Err (record { row = bad })) (Ok n)

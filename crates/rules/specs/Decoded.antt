-- 01, Rows: the rows of a table's bytes. Row i, counted from 0, starts at byte 38 × i.
use Rattle.std.specs.Prelude.{ℕ, ◌+◌, ◌*◌, ◌/◌, ◌%◌, Bool, true, false, ◌&&◌, leb, eqb, length, Some, None}
use mathlib.Core.List.{List, [], ◌∷◌, flat_map}
use Rattle.lists.specs.Below.{numbers}
use Rattle.row.specs.Row.{greatest, width, row_length, part}
use Rattle.row.specs.Reading.{line_at, Line}
use Rattle.table.specs.Limits.{most_bytes}
use Rattle.table.specs.Rows.{Rows, rows_of}

-- 01, refusal 1, frame: "over 65,536 bytes or not whole rows"
abbrev pub framed : List ℕ → Bool
framed bytes = leb (length bytes) most_bytes && eqb (length bytes % row_length width) 0

abbrev pub row_count : List ℕ → ℕ
row_count bytes = length bytes / row_length width

unfoldable pub line_of : List ℕ → ℕ → Line
line_of bytes i = line_at greatest width (part bytes (row_length width * i) (row_length width * i + row_length width))

-- 01, refusal 2, column: "a row isn't in the row form"
abbrev pub not_row : Line → Bool
not_row (Some r) = false
not_row None = true

abbrev pub line_words : Line → List ℕ
line_words (Some r) = r.tag ∷ r.a ∷ r.b ∷ r.c ∷ []
line_words None = []

-- the numbers of all rows, four a row
unfoldable pub words_of : List ℕ → List ℕ
words_of bytes = flat_map (λ i. line_words (line_of bytes i)) (numbers (row_count bytes) 0)

abbrev pub decoded : List ℕ → Rows
decoded bytes = rows_of (words_of bytes)

-- 02, request 5: "read from the lent run in order, one row at a time": the rows of a run's bytes, as many as there are.
use Rattle.std.specs.Prelude.{List, [], ◌∷◌, ℕ, zero, suc, ltb, eqb, length, take, drop, None}
use Rattle.lists.specs.Choice.{pick}
use Rattle.row.specs.Row.{greatest, width, row_length}
use Rattle.row.specs.Reading.{line_at, Line}

-- at most so many rows; "Bytes left but fewer than a row" are a torn one, which is in no row form
unfoldable pub lines_to : ℕ → List ℕ → List Line
lines_to zero bytes = []
lines_to (suc most) bytes =
    pick (eqb (length bytes) 0) []
    (pick (ltb (length bytes) (row_length width)) (None ∷ []) (line_at greatest width (take (row_length width) bytes) ∷ lines_to most (drop (row_length width) bytes)))

unfoldable pub lines : List ℕ → List Line
lines bytes = lines_to (length bytes) bytes

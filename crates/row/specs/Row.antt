-- 01, Rows: "A table is rows of 38 bytes: a tag in 4 columns, numbers a, b, c in 11 columns each, then byte 10." For any range and any
-- width of a, b and c.
use Rattle.std.specs.Prelude.{ℕ, ◌+◌, ◌-◌, ◌*◌, List, [], ◌∷◌, ◌++◌, take, drop}
use Rattle.number.specs.Number.{columns_of, text_of, InRange, Fits}
use Rattle.row.specs.declared.Row.{Row}

-- the range and the width of a table's columns
abbrev pub greatest : ℕ
greatest = 2147483647

abbrev pub width : ℕ
width = 11

-- the last byte of a row
abbrev pub newline : ℕ
newline = 10

abbrev pub row_length : ℕ → ℕ
row_length w = 4 + 3 * w + 1

-- the bytes from a to e
abbrev pub part : List ℕ → ℕ → ℕ → List ℕ
part bytes a e = take (e - a) (drop a bytes)

-- a row as it is written
unfoldable pub row_bytes : ℕ → Row → List ℕ
row_bytes w r =
    (((columns_of 4 (text_of r.tag) ++ columns_of w (text_of r.a)) ++ columns_of w (text_of r.b)) ++ columns_of w (text_of r.c)) ++ (newline ∷ [])

-- a row whose numbers are in range and fit their columns
pub record Writable (g w : ℕ) (r : Row) : Type 0 where
  pub tag_range : InRange g r.tag
  pub tag_fits : Fits 4 r.tag
  pub a_range : InRange g r.a
  pub a_fits : Fits w r.a
  pub b_range : InRange g r.b
  pub b_fits : Fits w r.b
  pub c_range : InRange g r.c
  pub c_fits : Fits w r.c

-- How a row is read, at a place. Whatever is read is the written form of the row, and every writable row is read (proofs/Form.antt).
use Rattle.std.specs.Prelude.{ℕ, ◌+◌, ◌*◌, List, Bool, true, false, ltb, eqb, length, get_or, Option, Some, None}
use Rattle.lists.specs.Choice.{pick}
use Rattle.number.specs.Reading.{number_of}
use Rattle.row.specs.declared.Row.{Row}
use Rattle.row.specs.declared.Read.{Read}
use Rattle.row.specs.declared.Read.TheVariants as read
use Rattle.row.specs.Row.{newline, row_length, part}

-- what the bytes of a row's length hold: a row, or none
abbrev pub Line : Type 0
Line = Option Row

abbrev pub joined : Option ℕ → Option ℕ → Option ℕ → Option ℕ → Bool → Line
joined (Some t) (Some a) (Some b) (Some c) true = Some (record { tag = t; a = a; b = b; c = c })
joined (Some t) (Some a) (Some b) (Some c) false = None
joined None _ _ _ _ = None
joined (Some t) None _ _ _ = None
joined (Some t) (Some a) None _ _ = None
joined (Some t) (Some a) (Some b) None _ = None

-- what a row's bytes hold
abbrev pub line_at : ℕ → ℕ → List ℕ → Line
line_at g w bytes =
    joined
    (number_of g (part bytes 0 4))
    (number_of g (part bytes 4 (4 + w)))
    (number_of g (part bytes (4 + w) (4 + 2 * w)))
    (number_of g (part bytes (4 + 2 * w) (4 + 3 * w)))
    (eqb (get_or bytes (4 + 3 * w) 0) newline)

abbrev pub found_at : ℕ → Line → Read
found_at next (Some row) = read.Next row (record { at = next })
found_at next None = read.Malformed

-- what reading at a place finds: a row and the place one row on; a torn row is none
abbrev pub read_at : ℕ → ℕ → List ℕ → ℕ → Read
read_at g w bytes at =
    pick (ltb at (length bytes))
    (pick (ltb (length bytes) (at + row_length w)) read.Malformed (found_at (at + row_length w) (line_at g w (part bytes at (at + row_length w)))))
    read.End

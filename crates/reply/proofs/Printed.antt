-- Rows as bytes: 38 a row, and those of two lists one after another. By recursion on the rows.
use Prim.Native.Nat.{◌*◌}
use mathlib.Core.Path.{◌≡◌, refl, ◌∙◌}
use mathlib.Core.List.{List, [], ◌∷◌, ◌++◌, flat_map}
use native.Mathlib.Omega.{arith}
use lib.ListN.{length, length-append}
use Rattle.lists.proofs.Flat.{flat_join}
use Rattle.row.specs.declared.Row.{Row}
use Rattle.row.specs.Row.{row_bytes, width}
use Rattle.row.proofs.Form.{row_length_lem}
use Rattle.reply.specs.Printed.{rows_bytes}

pub rows_length : (rs : List Row) → length (rows_bytes rs) ≡ 38 * length rs
unfolding rows_bytes flat_map
rows_length [] = refl
rows_length (r ∷ rs) = length-append (row_bytes width r) (rows_bytes rs) ∙ omega (arith, row_length_lem width r, rows_length rs)

pub rows_join : (rs ss : List Row) → rows_bytes (rs ++ ss) ≡ rows_bytes rs ++ rows_bytes ss
unfolding rows_bytes
rows_join rs ss = flat_join (row_bytes width) rs ss

-- Past the last row the list's default is read.
use Prim.Native.Nat.{◌+◌, ◌*◌}
use mathlib.Core.Path.{sym}
use native.Mathlib.Omega.{arith}
use lib.ListN.{get_or-eq_default}
use Rattle.table.proofs.cell.Goals as goal

pub returns-then-words-row : goal.returns-then-words-row
returns-then-words-row c =
    let a = c.args in
    sym (get_or-eq_default a.words.now 0 {n = 4 * a.row + a.column} (omega arith))

pub returns-then-words-at : goal.returns-then-words-at
returns-then-words-at c =
    let a = c.args in
    sym (get_or-eq_default a.words.now 0 {n = 4 * a.row + a.column} (omega arith))

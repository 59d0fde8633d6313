-- By whether the sum is below the cap.
use Prim.Native.Nat.{◌+◌}
use mathlib.Core.Path.{sym}
use native.Mathlib.Omega.{arith}
use Rattle.spell.proofs.Capped.{capped_below, capped_above}
use Rattle.spell.proofs.add_rows.Goals as goal

pub returns-then-rows-ge-ROWS_CAP : goal.returns-then-rows-ge-ROWS_CAP
returns-then-rows-ge-ROWS_CAP c =
    let a = c.args in
    sym (capped_above (a.rows + a.more) (omega arith))

pub returns-then-rows-more : goal.returns-then-rows-more
returns-then-rows-more c =
    let a = c.args in
    sym (capped_above (a.rows + a.more) (omega arith))

pub returns : goal.returns
returns c =
    let a = c.args in
    sym (capped_below (a.rows + a.more) (omega arith))

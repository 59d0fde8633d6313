-- By whether the buffer has room for the row.
use native.Mathlib.Omega.{arith}
use Rattle.spell.proofs.Written.{row_written, row_without_room}
use Rattle.spell.proofs.row_83.Goals as goal

pub returns-then-out-ge-LENGTH : goal.returns-then-out-ge-LENGTH
returns-then-out-ge-LENGTH c = row_written _ _ _ (omega arith) c.write.ensures

pub returns-else-out-ge-LENGTH : goal.returns-else-out-ge-LENGTH
returns-else-out-ge-LENGTH c = row_without_room _ _ c.if-out-ge-LENGTH.false

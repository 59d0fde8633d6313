-- The tag is column 0.
use native.Mathlib.Nat.{add-zero}
use Rattle.table.proofs.tag_at.Goals as goal

pub returns : goal.returns
returns c = rw add-zero at c.cell.ensures

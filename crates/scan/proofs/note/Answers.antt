-- Two stores.
use native.Mathlib.Omega.{arith}
use lib.ListN.{length-set}
use Rattle.scan.proofs.note.Goals as goal

pub bounds-spans-to-2 : goal.bounds-spans-to-2
bounds-spans-to-2 c = simp length-set (omega arith)

pub returns : goal.returns
returns c = rw c.started.ensures

-- Three stores.
use native.Mathlib.Omega.{arith}
use lib.ListN.{length-set}
use Rattle.nodes.proofs.store.Goals as goal

pub bounds-spans-at-2 : goal.bounds-spans-at-2
bounds-spans-at-2 c = simp length-set (omega arith)

pub bounds-spans-at-3 : goal.bounds-spans-at-3
bounds-spans-at-3 c = simp length-set (omega arith)

pub returns : goal.returns
returns c = rw c.one_if.ensures.value

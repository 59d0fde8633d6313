-- Each answer by the tests of what is left; a whole row from the row's own contract.
use borrow.Author.Tests.{lt-ltb, le-ltb}
use native.Mathlib.Omega.{arith}
use Prim.Native.Nat.{◌+◌}
use lib.ListN.{length}
use Rattle.row.proofs.Place.read.Goals as goal

pub returns-then-bytes-at : goal.returns-then-bytes-at
returns-then-bytes-at c = simp (le-ltb _ _ c.if-bytes-at.true)

pub returns-then-bytes-at-lt-LENGTH : goal.returns-then-bytes-at-lt-LENGTH
returns-then-bytes-at-lt-LENGTH c =
    let a = c.args in
    simp (lt-ltb a.self.at (length a.bytes.now) (omega arith), lt-ltb (length a.bytes.now) (a.self.at + 38) (omega arith))

pub returns : goal.returns
returns c =
    let a = c.args in
    simp (
      lt-ltb a.self.at (length a.bytes.now) (omega arith),
      le-ltb (length a.bytes.now) (a.self.at + 38) (omega arith),
      c.found.ensures,
      c.read.ensures,
    )

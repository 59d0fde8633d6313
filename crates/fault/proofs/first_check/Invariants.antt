-- The loop's invariant: the checks before have passed, and the search from a check on is the whole search.
use Prim.Native.Nat.{◌-◌}
use mathlib.Core.Path.{◌≡◌}
use lib.Dec.{ltb}
use Rattle.lists.specs.Below.{first}
use Rattle.table.specs.Rows.{rows_of}
use Rattle.rules.specs.Verdict.{first_row, first_check, PassedBefore}
use Rattle.fault.proofs.first_check.Given as goal

abbrev pub invariant-loop-check : goal.invariant-loop-check
invariant-loop-check l =
    PassedBefore (rows_of l.scanned.table.words.now) l.check × (first (λ k. ltb (first_row (rows_of l.scanned.table.words.now) k) (rows_of l.scanned.table.words.now).size) (12 - l.check) l.check ≡ first_check (rows_of l.scanned.table.words.now))

-- The checks of sorts and uses are rule_sorts' own; for the others, the loop's invariant: the search from i on is the whole search.
use Prim.Native.Nat.{◌-◌}
use mathlib.Core.Path.{◌≡◌}
use Rattle.lists.specs.Below.{first}
use Rattle.table.specs.Rows.{rows_of}
use Rattle.rules.specs.Rules.{offends}
use Rattle.rules.specs.Verdict.{first_row}
use Rattle.fault.proofs.first_row.Given as goal

abbrev pub invariant-loop-i : goal.invariant-loop-i
invariant-loop-i l =
    first (offends (rows_of l.scanned.table.words.now) l.check) (l.rows - l.i) l.i ≡ first_row (rows_of l.scanned.table.words.now) l.check

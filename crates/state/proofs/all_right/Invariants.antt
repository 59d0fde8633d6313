-- The loop's invariant: a record behind x is wrong where one is wrong at all.
use Prim.Native.Nat.{◌+◌, ◌-◌}
use mathlib.Core.Path.{◌≡◌}
use Rattle.lists.specs.Below.{numbers}
use Rattle.lists.specs.Different.{some_of}
use Rattle.table.specs.Rows.{rows_of, count}
use Rattle.bench.specs.State.{is_wrong}
use Rattle.state.proofs.all_right.Given as goal

abbrev pub invariant-loop-x : goal.invariant-loop-x
invariant-loop-x l =
    let t = rows_of l.table.words.now in
    some_of (is_wrong t l.values l.sorts) (numbers (count t 10 - l.x) (l.x + 1)) ≡ some_of (is_wrong t l.values l.sorts) (numbers (count t 10) 1)

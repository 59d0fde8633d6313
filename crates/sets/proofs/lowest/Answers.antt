-- The empty set is that of no identifiers; in any other the zeros below the lowest digit are counted, at most 64.
use Prim.Native.Nat.{◌+◌}
use mathlib.Core.Path.{◌∙◌, ap, sym}
use native.Mathlib.Omega.{arith}
use lib.Count.{count_trailing_zeros, trailing_le}
use Rattle.sets.proofs.Set.{lowest_none, lowest_some}
use Rattle.sets.proofs.lowest.Goals as goal

pub returns-then-set-eq0 : goal.returns-then-set-eq0
returns-then-set-eq0 c xs h e = sym (lowest_none xs h (omega arith))

pub overflow_cast-result : goal.overflow_cast-result
overflow_cast-result c = omega (arith, trailing_le 64 c.args.set)

pub overflow_add-result : goal.overflow_add-result
overflow_add-result c = omega (arith, trailing_le 64 c.args.set)

pub returns : goal.returns
returns c xs h e =
    ap (λ a. count_trailing_zeros 64 a + 1) e ∙ lowest_some xs h (λ z. omega arith)

-- The zeros above the highest digit are counted, at most 64.
use Prim.Native.Nat.{◌-◌}
use mathlib.Core.Path.{◌∙◌, ap}
use native.Mathlib.Omega.{arith}
use lib.Count.{count_leading_zeros, leading_le}
use Rattle.sets.proofs.Set.{highest_set}
use Rattle.sets.proofs.highest.Goals as goal

pub overflow_cast-result : goal.overflow_cast-result
overflow_cast-result c = omega (arith, leading_le 64 c.args.set)

pub overflow_sub-result : goal.overflow_sub-result
overflow_sub-result c = omega (arith, leading_le 64 c.args.set)

pub returns : goal.returns
returns c xs h e = ap (λ a. 64 - count_leading_zeros 64 a) e ∙ highest_set xs h

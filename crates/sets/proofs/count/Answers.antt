-- The digits of a set are counted, of which there are at most 64.
use mathlib.Core.Path.{◌∙◌, ap}
use native.Mathlib.Omega.{arith}
use lib.Count.{ones, ones-le}
use Rattle.sets.proofs.Set.{count_set}
use Rattle.sets.proofs.count.Goals as goal

pub overflow_cast-result : goal.overflow_cast-result
overflow_cast-result c = omega (arith, ones-le 64 c.args.set (omega arith))

pub returns : goal.returns
returns c xs h e = ap ones e ∙ count_set xs h

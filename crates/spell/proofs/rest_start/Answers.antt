-- By the test.
use native.Mathlib.Omega.{arith}
use borrow.Author.Tests.{lt-ltb, le-ltb}
use Rattle.spell.specs.Spell.{rest_start}
use Rattle.spell.proofs.rest_start.Goals as goal

pub returns-then-size-rows : goal.returns-then-size-rows
unfolding rest_start
returns-then-size-rows c =
    record {
      value = simp (lt-ltb _ _ c.if-size-rows.true);
      upper_bound = omega arith;
    }

pub returns : goal.returns
unfolding rest_start
returns c =
    record {
      value = simp (le-ltb _ _ c.if-size-rows.false);
      upper_bound = omega arith;
    }

-- The sort check as a walk down the rows, in which rows of expressions and of predicates are judged by two functions that call each other.
use Rattle.std.specs.Prelude.{ℕ, zero, suc, Bool}
use Rattle.lists.specs.Choice.{pick}

-- the first of the rows before i that passes, or `found`: from the row before i down, each that passes is the first so far
unfoldable pub first_before : (ℕ → Bool) → ℕ → ℕ → ℕ
first_before P zero found = found
first_before P (suc i) found = first_before P i (pick (P i) i found)

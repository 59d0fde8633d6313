-- 01, Sequents, form 2: "node with every variable at its after value".
use Rattle.std.specs.Prelude.{Bool, ℕ}
use Rattle.lists.specs.Choice.{pick}
use Rattle.formula.specs.Tree.{Tree, constant, identifier, after, unary, binary, division, connective}

unfoldable pub at_after : (ℕ → Bool) → Tree → Tree
at_after is_variable (constant c) = constant c
at_after is_variable (identifier x) = pick (is_variable x) (after x) (identifier x)
at_after is_variable (after x) = after x
at_after is_variable (unary o t) = unary o (at_after is_variable t)
at_after is_variable (binary o t u) = binary o (at_after is_variable t) (at_after is_variable u)
at_after is_variable (division o t u) = division o (at_after is_variable t) (at_after is_variable u)
at_after is_variable (connective o t u) = connective o (at_after is_variable t) (at_after is_variable u)

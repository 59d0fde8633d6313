-- 01, Rows, "A formula may mention": every identifier that a tree mentions passes the first test, every after value the second.
use Rattle.std.specs.Prelude.{Bool, true, ◌&&◌, ℕ}
use Rattle.formula.specs.Tree.{Tree, constant, identifier, after, unary, binary, division, connective}

unfoldable pub mentions : (ℕ → Bool) → (ℕ → Bool) → Tree → Bool
mentions P Q (constant c) = true
mentions P Q (identifier x) = P x
mentions P Q (after x) = Q x
mentions P Q (unary o t) = mentions P Q t
mentions P Q (binary o t u) = mentions P Q t && mentions P Q u
mentions P Q (division o t u) = mentions P Q t && mentions P Q u
mentions P Q (connective o t u) = mentions P Q t && mentions P Q u

-- What 02, request 4 asks of a formula: the identifiers that it mentions, and whether it has a ÷ or a mod.
use Rattle.std.specs.Prelude.{Bool, true, false, ◌||◌, List, [], ◌∷◌, ◌++◌, ℕ}
use Rattle.formula.specs.Tree.{Tree, constant, identifier, after, unary, binary, division, connective}

-- every identifier in it, by its present or its after value, as often as it stands there
unfoldable pub identifiers : Tree → List ℕ
identifiers (constant c) = []
identifiers (identifier x) = x ∷ []
identifiers (after x) = x ∷ []
identifiers (unary o t) = identifiers t
identifiers (binary o t u) = identifiers t ++ identifiers u
identifiers (division o t u) = identifiers t ++ identifiers u
identifiers (connective o t u) = identifiers t ++ identifiers u

-- a ÷ or a mod stands in it, anywhere
unfoldable pub divides : Tree → Bool
divides (constant c) = false
divides (identifier x) = false
divides (after x) = false
divides (unary o t) = divides t
divides (binary o t u) = divides t || divides u
divides (division o t u) = true
divides (connective o t u) = divides t || divides u

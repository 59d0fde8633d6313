-- What a list of numbers has: whether some member passes a test, how many different members there are, and the lowest and the highest of them.
use Rattle.std.specs.Prelude.{ℕ, suc, min, max, Bool, false, ◌||◌, List, [], ◌∷◌, eqb}
use Rattle.lists.specs.Choice.{pick}

-- some member passes
unfoldable pub some_of : (ℕ → Bool) → List ℕ → Bool
some_of P [] = false
some_of P (x ∷ xs) = P x || some_of P xs

-- x is a member
abbrev pub has : List ℕ → ℕ → Bool
has xs x = some_of (λ y. eqb x y) xs

-- how many different members there are
unfoldable pub different : List ℕ → ℕ
different [] = 0
different (x ∷ xs) = pick (has xs x) (different xs) (suc (different xs))

-- the lowest and the highest; 0 where there are none
unfoldable pub lowest : List ℕ → ℕ
lowest [] = 0
lowest (x ∷ []) = x
lowest (x ∷ (y ∷ ys)) = min x (lowest (y ∷ ys))

unfoldable pub highest : List ℕ → ℕ
highest [] = 0
highest (x ∷ xs) = max x (highest xs)

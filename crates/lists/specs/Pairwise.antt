-- A relation between every member of a list and each later one.
use Rattle.std.specs.Prelude.{List, [], ◌∷◌}
use Rattle.lists.specs.All.{All}

module _ {A : Type 0} where
  -- R holds of every member and each later one
  pub data Pairwise (R : A → A → Type 0) : List A → Type 0 where
    pairwise_nil : Pairwise R []
    pairwise_cons : {x : A} {xs : List A} → All (R x) xs → Pairwise R xs → Pairwise R (x ∷ xs)

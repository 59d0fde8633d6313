-- What holds of every member holds of every member that is kept: by recursion on the derivation.
use mathlib.Core.Bool.{Bool, true, false}
use mathlib.Core.List.{List, ◌∷◌}
use Rattle.lists.specs.Choice.{pick}
use Rattle.lists.specs.All.{All, all_nil, all_cons}
use Rattle.lists.specs.Below.{keep}

pub all_keep : {A : Type 0} {P : A → Type 0} (test : A → Bool) {xs : List A} → All P xs → All P (keep test xs)
unfolding keep
all_keep test all_nil = all_nil
all_keep {P = P} test (all_cons {x = x} {xs = xs} h hs) = go (test x) (all_keep test hs)
  where
    go : (b : Bool) → All P (keep test xs) → All P (pick b (x ∷ keep test xs) (keep test xs))
    go true t = all_cons h t
    go false t = t

-- What is laid into the first places of a list: as many elements as both lists have.
use mathlib.Core.Path.{◌≡◌, ap, ap₂, ◌∙◌}
use mathlib.Core.List.{List, ◌++◌}
use Prim.Native.Nat.{ℕ, min}
use native.Mathlib.Omega.{arith}
use lib.ListN.{length, take, drop}
use Rattle.std.proofs.lemmas.List.{take_min, drop_min}
use Rattle.bench.specs.State.{laid}

pub laid_is : {A : Type 0} (from to front : List A) (n : ℕ) → n ≡ min (length from) (length to) → front ≡ take n from → front ++ drop n to ≡ laid from to
unfolding laid
laid_is from to front n e f =
    let other : n ≡ min (length to) (length from) = omega (arith, e) in
    ap₂ (λ xs ys. xs ++ ys) (f ∙ ap (λ m. take m from) other ∙ take_min (length to) from) (ap (λ m. drop m to) e ∙ drop_min (length from) to)

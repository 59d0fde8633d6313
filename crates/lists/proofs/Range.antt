-- Two functions that agree on the numbers of a range, which is computed, agree at each number of it; and a list gives its default wherever it holds nothing else.
use Prim.Native.Nat.{ℕ, zero, suc, ◌+◌, ◌<◌, ◌≤◌}
use mathlib.Core.Path.{◌≡◌, refl, subst}
use mathlib.Core.Bool.{Bool, true, false}
use mathlib.Core.List.{List, [], ◌∷◌}
use mathlib.Core.Logic.{⊎_elim}
use native.Mathlib.Omega.{arith}
use native.Mathlib.Nat.{eq-or-lt_of_le}
use lib.Dec.{ltb}
use lib.ListN.{length, get_or, get_or-eq_default}
use borrow.Author.Tests.{ltb-true, ltb-false}
use Rattle.lists.specs.All.{All}
use Rattle.lists.specs.Below.{numbers}
use Rattle.lists.proofs.All.{all_at}
use Rattle.lists.proofs.Below.{numbers_in}

module _ {A : Type 0} where
  -- what f gives at the k numbers from lo on
  abbrev pub values : (ℕ → A) → ℕ → ℕ → List A
  values f lo zero = []
  values f lo (suc k) = f lo ∷ values f (suc lo) k

  pub range_same : (f g : ℕ → A) (lo k : ℕ) → values f lo k ≡ values g lo k → (x : ℕ) → lo ≤ x → x < lo + k → f x ≡ g x
  range_same f g lo zero e x h l = absurd (omega arith)
  range_same f g lo (suc k) e x h l =
      let here : f lo ≡ g lo = cc in
      let rest : values f (suc lo) k ≡ values g (suc lo) k = cc in
      ⊎_elim (λ (q : lo ≡ x). subst (λ x. f x ≡ g x) q here) (λ (q : lo < x). range_same f g (suc lo) k rest x q (omega arith)) (eq-or-lt_of_le h)

  -- at a number that is none of those where the list holds something else
  pub table_rest : (xs : List A) (d : A) (n : ℕ) → All (λ k. n ≡ k → get_or xs k d ≡ d) (numbers (length xs) 0) → get_or xs n d ≡ d
  table_rest xs d n h = go (ltb n (length xs)) refl
    where
      go : (b : Bool) → ltb n (length xs) ≡ b → get_or xs n d ≡ d
      go true p = all_at h (numbers_in (length xs) 0 n (omega arith) (omega (arith, ltb-true n (length xs) p))) refl
      go false p = get_or-eq_default xs d (ltb-false n (length xs) p)

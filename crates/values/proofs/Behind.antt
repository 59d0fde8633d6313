-- The numbers behind x, up to n, that pass a test: all behind 0, and one after another.
use mathlib.Core.Path.{◌≡◌, ap, sym, ◌∙◌}
use mathlib.Core.Bool.{Bool, true, false}
use mathlib.Core.List.{List, [], ◌∷◌}
use Prim.Native.Nat.{ℕ, zero, suc, ◌+◌, ◌-◌, ◌≤◌, ◌<◌}
use native.Mathlib.Omega.{arith}
use native.Mathlib.Numerals.{add-one}
use native.Mathlib.Nat.{sub-zero}
use lib.ListN.{length}
use Rattle.lists.specs.Choice.{pick}
use Rattle.lists.specs.Below.{numbers, keep}

module _ (P : ℕ → Bool) (n : ℕ) where
  abbrev pub behind : ℕ → List ℕ
  behind x = keep P (numbers (n - x) (x + 1))

  pub behind_all : behind 0 ≡ keep P (numbers n 1)
  behind_all = ap (λ m. keep P (numbers m 1)) (sub-zero n)

  pub behind_next : (x : ℕ) → x < n → behind x ≡ pick (P (x + 1)) ((x + 1) ∷ behind (x + 1)) (behind (x + 1))
  unfolding keep numbers
  behind_next x h =
      let m : n - x ≡ suc (n - (x + 1)) = omega arith in
      ap (λ m. keep P (numbers m (x + 1))) m
      ∙ ap (λ y. pick (P (x + 1)) ((x + 1) ∷ keep P (numbers (n - (x + 1)) y)) (keep P (numbers (n - (x + 1)) y))) (sym (add-one (x + 1)))

  pub behind_none : (x : ℕ) → n ≤ x → behind x ≡ []
  unfolding keep numbers
  behind_none x h = let m : n - x ≡ 0 = omega arith in ap (λ m. keep P (numbers m (x + 1))) m

-- of m numbers at most m pass
pub kept_within : (P : ℕ → Bool) (m i : ℕ) → length (keep P (numbers m i)) ≤ m
unfolding keep numbers
kept_within P zero i = omega arith
kept_within P (suc m) i = go (P i) (kept_within P m (suc i))
  where
    go : (b : Bool) → length (keep P (numbers m (suc i))) ≤ m → length (pick b (i ∷ keep P (numbers m (suc i))) (keep P (numbers m (suc i)))) ≤ suc m
    go true h = omega (arith, h)
    go false h = omega (arith, h)

-- How many records are looked at: at most 65 and at most as many as there are, and all where there are at most 64.
use mathlib.Core.Path.{◌≡◌, refl, sym}
use mathlib.Core.Bool.{Bool, true, false}
use mathlib.Core.List.{List}
use Prim.Native.Nat.{ℕ, ◌<◌, ◌≤◌}
use native.Mathlib.Omega.{arith}
use lib.Dec.{ltb}
use lib.ListN.{length, take}
use lib.Seq.{length-take-le}
use borrow.Author.Tests.{ltb-true, ltb-false, lt-ltb, le-ltb}
use Rattle.lists.specs.Choice.{pick}
use Rattle.records.specs.Numbers.{few_of}

pub few_all : (n : ℕ) → n < 65 → few_of n ≡ n
unfolding few_of
few_all n h = simp (lt-ltb n 65 h)

pub few_many : (n : ℕ) → 65 ≤ n → few_of n ≡ 65
unfolding few_of
few_many n h = simp (le-ltb n 65 h)

pub few_bound : (n : ℕ) → (few_of n ≤ 65) × (few_of n ≤ n)
unfolding few_of
few_bound n = by (ltb n 65) refl
  where
    by : (t : Bool) → ltb n 65 ≡ t → (pick t n 65 ≤ 65) × (pick t n 65 ≤ n)
    by true e = let h : n < 65 = ltb-true n 65 e in (omega arith, omega arith)
    by false e = let h : 65 ≤ n = ltb-false n 65 e in (omega arith, omega arith)

-- so many numbers of an array of 65
module _ {A : Type 0} (n r : ℕ) (xs : List A) (e : r ≡ few_of n) (full : length xs ≡ 65) where
  pub few_in : r ≤ length xs
  few_in = let h = (few_bound n).0 in omega (arith, h, e, full)

  pub few_taken : r ≡ length (take r xs)
  few_taken = sym (length-take-le r xs few_in)

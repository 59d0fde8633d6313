-- Notions over the numbers below a bound, as a table's rows are numbered: how many pass a test, the first that passes, and the list of those that do.
use Rattle.std.specs.Prelude.{ℕ, zero, suc, ◌+◌, ◌<◌, ◌≡◌, Bool, true, false, List, [], ◌∷◌, ltb}
use Rattle.lists.specs.Choice.{pick}

-- one where a test passes, else none
abbrev pub one_if : Bool → ℕ
one_if true = 1
one_if false = 0

-- how many numbers below n pass
unfoldable pub count_below : (ℕ → Bool) → ℕ → ℕ
count_below P zero = 0
count_below P (suc n) = count_below P n + one_if (P n)

-- some number below n passes
abbrev pub some_below : (ℕ → Bool) → ℕ → Bool
some_below P n = ltb 0 (count_below P n)

-- no number below n passes
abbrev pub NoneBelow : (ℕ → Bool) → ℕ → Type 0
NoneBelow P n = (j : ℕ) → j < n → P j ≡ false

-- the first of the n numbers from i on that passes, or i + n
unfoldable pub first : (ℕ → Bool) → ℕ → ℕ → ℕ
first P zero i = i
first P (suc n) i = pick (P i) i (first P n (suc i))

-- the n numbers from i on
unfoldable pub numbers : ℕ → ℕ → List ℕ
numbers zero i = []
numbers (suc n) i = i ∷ numbers n (suc i)

-- those that pass
unfoldable pub keep : {A : Type 0} → (A → Bool) → List A → List A
keep P [] = []
keep P (x ∷ xs) = pick (P x) (x ∷ keep P xs) (keep P xs)

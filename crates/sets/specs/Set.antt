-- A set of identifiers as a word of 64 binary digits: identifier 1 is the lowest digit, identifier 64 the highest.
use Rattle.std.specs.Prelude.{ℕ, zero, suc, ◌+◌, ◌*◌, ◌≤◌, Bool, List}
use Rattle.lists.specs.Below.{one_if}
use Rattle.lists.specs.Different.{has}

-- 01, the table of rows: "most rows" of tag 10
abbrev pub identifier_limit : ℕ
identifier_limit = 64

-- the number whose n lowest digits are those of the numbers below n that pass
unfoldable pub digits_of : (ℕ → Bool) → ℕ → ℕ
digits_of P zero = 0
digits_of P (suc n) = one_if (P 0) + 2 * digits_of (λ i. P (suc i)) n

-- the set of the identifiers that pass, and of those in a list; numbers outside 1 to 64 are in none
abbrev pub set_where : (ℕ → Bool) → ℕ
set_where P = digits_of (λ i. P (suc i)) identifier_limit

unfoldable pub set_of : List ℕ → ℕ
set_of xs = set_where (has xs)

-- x names an identifier, as far as the limit goes
abbrev pub Identifier : ℕ → Type 0
Identifier x = (1 ≤ x) × (x ≤ identifier_limit)

-- 01: "For any answer that is an enum, a definition gives this paper's number and values for each case." A refusal is its number, and its value the row; the number
-- of an answer that is no refusal is 0.
use Rattle.std.specs.Prelude.{ℕ, Result, Ok, Err}
use Rattle.rules.specs.declared.Refusal.{Refusal}

abbrev pub number_of : Result ℕ Refusal → ℕ
number_of (Ok count) = 0
number_of (Err r) = r.number

-- the count of sequents, of written rows or of steps, or the row
abbrev pub value_of : Result ℕ Refusal → ℕ
value_of (Ok count) = count
value_of (Err r) = r.row

-- pressing counts nothing: 0, or the refusal
abbrev pub counted : Result (Unit {0}) Refusal → Result ℕ Refusal
counted (Ok done) = Ok 0
counted (Err r) = Err r

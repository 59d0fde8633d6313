-- A row of output, by its four numbers.
use Rattle.std.specs.Prelude.{ℕ}
use Rattle.row.specs.declared.Row.{Row}

abbrev pub row : ℕ → ℕ → ℕ → ℕ → Row
row t a b c = record { tag = t; a = a; b = b; c = c }

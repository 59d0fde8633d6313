-- 01, Refusals: a refusal by its number and the row that it names, or 0.
use Rattle.std.specs.Prelude.{ℕ}
use Rattle.rules.specs.declared.Refusal.{Refusal}

abbrev pub refused : ℕ → ℕ → Refusal
refused number row = record { number = number; row = row }

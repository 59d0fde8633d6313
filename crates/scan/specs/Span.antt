-- Rows that pass a test by their tag stand together where 01's "tags never fall" holds; a later search among them starts and ends there.
use Rattle.std.specs.Prelude.{ℕ, ◌≤◌, ◌<◌, ◌≡◌, Bool, false}
use Rattle.scan.specs.declared.Span.{Span}

-- no number below n passes but those of the span
pub record Spans (P : ℕ → Bool) (n : ℕ) (s : Span) : Type 0 where
  pub within : s.to ≤ n
  pub below : (j : ℕ) → j < s.from → P j ≡ false
  pub above : (j : ℕ) → s.to ≤ j → j < n → P j ≡ false

-- What a buffer holds after bytes were written into it from its start.
use Rattle.std.specs.Prelude.{ℕ, List, ◌++◌, length, drop}

-- 01, Refusals: bytes past the written rows keep their values
unfoldable pub over : List ℕ → List ℕ → List ℕ
over ws xs = ws ++ drop (length ws) xs

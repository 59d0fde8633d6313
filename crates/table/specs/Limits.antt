-- 01, Refusals: a table is refused "over 65,536 bytes".
use Rattle.std.specs.Prelude.{ℕ}

abbrev pub most_bytes : ℕ
most_bytes = 65536

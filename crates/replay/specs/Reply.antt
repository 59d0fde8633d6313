-- 02, request 5: the reply as one row, "or one row 89" (01, Sequents: "one row 89 (refusal, row, 0)").
use Rattle.std.specs.Prelude.{ℕ, Result, Ok, Err}
use Rattle.row.specs.declared.Row.{Row}
use Rattle.reply.specs.Row.{row}
use Rattle.rules.specs.declared.Refusal.{Refusal}

-- row 92 (steps, 0, 0) or 89 (refusal, row, 0)
abbrev pub reply_row : Result ℕ Refusal → Row
reply_row (Ok steps) = row 92 steps 0 0
reply_row (Err r) = row 89 r.number r.row 0

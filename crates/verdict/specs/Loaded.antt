-- 01, checks 1 and 2: what is known of a table's bytes once its rows are read.
use Rattle.std.specs.Prelude.{ℕ, ◌+◌, ◌*◌, List, Result, Ok, Err}
use Rattle.lists.specs.Choice.{pick}
use Rattle.lists.specs.Over.{over}
use Rattle.rules.specs.Decoded.{framed, row_count, decoded}
use Rattle.rules.specs.declared.Refusal.{Refusal}
use Rattle.rules.specs.Refusal.{refused}
use Rattle.rules.specs.Verdict.{judge}
use Rattle.decode.specs.declared.Malformed.{Malformed}
use Rattle.decode.specs.Decode.{first_bad, words_to, decoded_of}

-- the row at which decoding ended
abbrev pub end_row : Result ℕ Malformed → ℕ
end_row (Ok n) = n
end_row (Err m) = m.row

abbrev pub loaded_rows : Result ℕ Malformed → Result ℕ Refusal
loaded_rows (Ok n) = Ok (4 * n)
loaded_rows (Err m) = Err (refused 2 (m.row + 1))

unfoldable pub loaded_of : List ℕ → Result ℕ Refusal
loaded_of bytes = pick (framed bytes) (loaded_rows (decoded_of (first_bad bytes (row_count bytes)) (row_count bytes))) (Err (refused 1 0))

-- the verdict once the rows are read
abbrev pub judged : List ℕ → Result ℕ Refusal → Result ℕ Refusal
judged bytes (Ok n) = judge (decoded bytes)
judged bytes (Err r) = Err r

-- what the lent words hold then: over their start the words of the rows before the first that is not in the row form, of all rows where there is none; on refusal 1
-- what they held
unfoldable pub loaded_words : List ℕ → List ℕ → List ℕ
loaded_words bytes words = pick (framed bytes) (over (words_to bytes (first_bad bytes (row_count bytes))) words) words

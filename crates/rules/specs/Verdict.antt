-- 01, Refusals: "Checks run by number, each over the whole table .. The first offending row, counted from 1, is named".
use Rattle.std.specs.Prelude.{ℕ, ◌+◌, ◌≤◌, ◌<◌, ◌≡◌, false, List, ltb, length, Result, Ok, Err}
use Rattle.lists.specs.Choice.{pick}
use Rattle.lists.specs.Below.{first}
use Rattle.table.specs.Rows.{Rows}
use Rattle.machine.specs.Described.{machine_of}
use Rattle.sequent.specs.Listed.{sequents}
use Rattle.rules.specs.declared.Refusal.{Refusal}
use Rattle.rules.specs.Refusal.{refused}
use Rattle.rules.specs.Decoded.{framed, row_count, line_of, not_row, decoded}
use Rattle.rules.specs.Rules.{offends, missing}

-- the first row that offends against a check, or the table's size
abbrev pub first_row : Rows → ℕ → ℕ
first_row t check = first (offends t check) t.size 0

-- the first check from 3 to 11 against which a row offends, or 12
unfoldable pub first_check : Rows → ℕ
first_check t = first (λ check. ltb (first_row t check) t.size) 9 3

-- no row offends against a check from 3 on that runs before this one
abbrev pub PassedBefore : Rows → ℕ → Type 0
PassedBefore t check = (k i : ℕ) → 3 ≤ k → k < check → i < t.size → offends t k i ≡ false

-- no row offends against any of them, and nothing is missing
abbrev pub Passes : Rows → Type 0
Passes t = PassedBefore t 12 × (missing t ≡ false)

unfoldable pub judge : Rows → Result ℕ Refusal
judge t =
    let check = first_check t in
    pick (ltb check 12) (Err (refused check (first_row t check + 1))) (pick (missing t) (Err (refused 12 0)) (Ok (length (sequents (machine_of t)))))

-- what check answers
unfoldable pub verdict : List ℕ → Result ℕ Refusal
verdict bytes =
    let n = row_count bytes in
    let row = first (λ i. not_row (line_of bytes i)) n 0 in
    pick (framed bytes) (pick (ltb row n) (Err (refused 2 (row + 1))) (judge (decoded bytes))) (Err (refused 1 0))

-- 01, Refusals: what offends against which check, with the row that a refusal names: "The first offending row, counted from 1, is named", 0 for checks 1 and 12.
use Rattle.std.specs.Prelude.{ℕ, suc, ◌≤◌, ◌<◌, ◌≡◌, true, false, List, ◌⊎◌, length}
use Rattle.machine.specs.Machine.{Machine}
use Rattle.machine.specs.Described.{machine_of}
use Rattle.sequent.specs.Listed.{sequents}
use Rattle.rules.specs.Decoded.{framed, row_count, line_of, not_row, decoded}
use Rattle.rules.specs.Rules.{offends, missing}

-- the machines that bytes describe
abbrev pub machine : List ℕ → Machine
machine bytes = machine_of (decoded bytes)

-- Something that offends against a check, with the row that a refusal names.
pub data Offence (bytes : List ℕ) : ℕ → ℕ → Type 0 where
  frame : framed bytes ≡ false → Offence bytes 1 0
  column : (i : ℕ) → i < row_count bytes → not_row (line_of bytes i) ≡ true → Offence bytes 2 (suc i)
  row : (check i : ℕ) → 3 ≤ check → check ≤ 11 → i < (decoded bytes).size → offends (decoded bytes) check i ≡ true → Offence bytes check (suc i)
  lack : missing (decoded bytes) ≡ true → Offence bytes 12 0

-- the least check, and its first row
pub record FirstOffence (bytes : List ℕ) (check at : ℕ) : Type 0 where
  pub offence : Offence bytes check at
  pub least : (c r : ℕ) → Offence bytes c r → (check < c) ⊎ ((check ≡ c) × (at ≤ r))

-- "A table is accepted if and only if it meets every table rule": nothing offends against any check
abbrev pub NoOffence : List ℕ → Type 0
NoOffence bytes = (c r : ℕ) → Offence bytes c r → ⊥

-- "accepts a table by giving the count of sequents"
abbrev pub sequent_count : List ℕ → ℕ
sequent_count bytes = length (sequents (machine bytes))

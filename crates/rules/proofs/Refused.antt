-- What a refusal of a table says: a number from 1 to 12, and a row of the table, or 0 for numbers 1 and 12. By cases on the offence.
use Prim.Native.Nat.{ℕ, ◌≤◌, ◌<◌}
use mathlib.Core.Path.{◌≡◌, refl}
use mathlib.Core.Bool.{Bool, true, false}
use mathlib.Core.List.{List}
use mathlib.Core.Logic.{◌↔◌, ◌⊎◌, inl, inr, ⊎_elim}
use native.Mathlib.Omega.{arith}
use borrow.Author.Tests.{eqb-true, eqb-false}
use lib.Dec.{eqb}
use Rattle.std.specs.Prelude.{Err}
use Rattle.rules.specs.Refusal.{refused}
use Rattle.rules.specs.Decoded.{framed, row_count}
use Rattle.rules.specs.Verdict.{verdict}
use Rattle.rules.specs.Offence.{Offence, frame, column, row, lack}
use Rattle.rules.proofs.Accepted.{refused_first}
use Rattle.rules.proofs.Range.{size_rows, rows_few}

module _ (bytes : List ℕ) where
  -- 01, Refusals: "frame .. row 0", "missing .. row 0"; in all other cases "the first offending row, counted from 1, is named"
  record OffenceSays (c r : ℕ) : Type 0 where
    low : 1 ≤ c
    high : c ≤ 12
    inside : r ≤ row_count bytes
    no_row : (c ≡ 1) ⊎ (c ≡ 12) → r ≡ 0
    some_row : 2 ≤ c → c ≤ 11 → 1 ≤ r

  neither : (c : ℕ) → 2 ≤ c → c ≤ 11 → {P : Type 0} → (c ≡ 1) ⊎ (c ≡ 12) → P
  neither c l h e = absurd (⊎_elim (λ q. omega arith) (λ q. omega arith) e)

  offence_says : (c r : ℕ) → Offence bytes c r → OffenceSays c r
  offence_says c r (frame f) =
      record { low = omega arith; high = omega arith; inside = omega arith; no_row = λ e. refl; some_row = λ l h. absurd (omega arith) }
  offence_says c r (column i h e) =
      record { low = omega arith; high = omega arith; inside = omega arith; no_row = neither 2 (omega arith) (omega arith); some_row = λ l h. omega arith }
  offence_says c r (row check i l k h e) =
      record { low = omega arith; high = omega arith; inside = omega (arith, size_rows bytes); no_row = neither check (omega arith) k; some_row = λ l h. omega arith }
  offence_says c r (lack e) =
      record { low = omega arith; high = omega arith; inside = omega arith; no_row = λ e. refl; some_row = λ l h. absurd (omega arith) }

  module _ (c r : ℕ) (v : verdict bytes ≡ Err (refused c r)) where
    says : OffenceSays c r
    says = offence_says c r (refused_first bytes c r v).offence

    pub refused_number : (1 ≤ c) × (c ≤ 12)
    refused_number = (says.low, says.high)

    -- no row beyond the table's
    pub refused_inside : r ≤ row_count bytes
    refused_inside = says.inside

    -- row 0 exactly for 1, frame, and 12, missing
    pub refused_row : (r ≡ 0) ↔ ((c ≡ 1) ⊎ (c ≡ 12))
    refused_row = (λ e. go (eqb c 1) refl (eqb c 12) refl e, says.no_row)
      where
        go : (x : Bool) → eqb c 1 ≡ x → (y : Bool) → eqb c 12 ≡ y → r ≡ 0 → (c ≡ 1) ⊎ (c ≡ 12)
        go true p y q e = inl (eqb-true c 1 p)
        go false p true q e = inr (eqb-true c 12 q)
        go false p false q e =
            let f = eqb-false c 1 p in
            let g = eqb-false c 12 q in
            absurd (omega (arith, f, g, says.low, says.high, says.some_row (omega (arith, f, says.low)) (omega (arith, g, says.high))))

    -- a table that passes check 1 has few rows
    pub refused_few : r ≤ 1724
    refused_few = go (framed bytes) refl
      where
        first : (c < 1) ⊎ ((c ≡ 1) × (r ≤ 0)) → r ≤ 1724
        first (inl h) = absurd (omega (arith, says.low))
        first (inr h) = omega (arith, h.1)

        go : (b : Bool) → framed bytes ≡ b → r ≤ 1724
        go true f = omega (arith, says.inside, rows_few bytes f)
        go false f = first ((refused_first bytes c r v).least 1 0 (frame f))

-- A kind from 1 on is compared by the number below it; 0 is no variable's.
use Prim.Native.Nat.{ℕ, ◌+◌, ◌-◌}
use mathlib.Core.Path.{◌≡◌, sym, ap, ap₂}
use mathlib.Core.Bool.{◌||◌}
use native.Mathlib.Omega.{arith}
use native.Mathlib.Decide.{ℕ_discrete}
use lib.Dec.{eqb}
use borrow.Author.Tests.{eq-eqb, ne_eqb}
use Rattle.table.proofs.variable_kind.Goals as goal

below_equal : (k m : ℕ) → (k ≡ 0 → ⊥) → eqb (k - 1) m ≡ eqb k (1 + m)
below_equal k m f = go (ℕ_discrete (k - 1) m)
  where
    go : Dec (k - 1 ≡ m) → eqb (k - 1) m ≡ eqb k (1 + m)
    go (yes e) = rw (eq-eqb (k - 1) m e, eq-eqb k (1 + m) (omega arith))
    go (no g) = rw (ne_eqb (k - 1) m g, ne_eqb k (1 + m) (omega arith))

pub returns-then-kind-eq0 : goal.returns-then-kind-eq0
returns-then-kind-eq0 c =
    let a = c.args in
    sym (ap₂ ◌||◌ (ne_eqb a.kind (1 + a.machine) (omega arith)) (ne_eqb a.kind 6 (omega arith)))

pub returns : goal.returns
returns c =
    let a = c.args in
    ap (λ b. b || eqb a.kind 6) (below_equal a.kind a.machine c.if-kind-eq0.false)

-- A step of the walk over rows keeps the place that is sought; outside the span nothing is counted, so that the walk may start with the span and end with it.
use Prim.Native.Nat.{ℕ, min, max, ◌+◌, ◌-◌, ◌≤◌, ◌<◌}
use mathlib.Core.Path.{◌≡◌, sym, ap}
use mathlib.Core.Bool.{Bool, false}
use native.Mathlib.Omega.{arith}
use Rattle.lists.proofs.Flat.{sum_next, sum_stays}
use Rattle.scan.specs.declared.Span.{Span}
use Rattle.scan.specs.Span.{Spans}
use Rattle.select.specs.declared.Sought.{Sought}
use Rattle.select.specs.Sought.{place_of}

abbrev pub sought : ℕ → ℕ → Sought
sought row left = record { row = row; left = left }

module _ (W : ℕ → ℕ) where
  -- a row is passed over
  pub place_next : (row left count : ℕ) → count ≡ W row → count ≤ left → place_of W (sought (row + 1) (left - count)) ≡ place_of W (sought row left)
  place_next row left count p h = omega (arith, p, sum_next W row)

  -- and is the one sought where what is left is less than it counts
  pub place_held : (row left count : ℕ) → count ≡ W row → left < count → left < W row
  place_held row left count p h = omega (arith, p)

  module _ {P : ℕ → Bool} (none : (i : ℕ) → P i ≡ false → W i ≡ 0) {n : ℕ} {span : Span} (spans : Spans P n span) {end : ℕ} (within : end ≤ n) where
    -- the walk starts with the span
    pub place_start : (row left start : ℕ) → row ≤ end → start ≡ min (max row span.from) end
        → (start ≤ end) × (place_of W (sought start left) ≡ place_of W (sought row left))
    place_start row left start h e =
        (omega arith, ap (λ c. c + left) (sym (sum_stays W row start (omega arith) (λ i g l. none i (spans.below i (omega arith))))))

    -- and ends with it
    pub place_end : (row left last : ℕ) → row ≤ end → last ≡ min span.to end → last ≤ row → place_of W (sought end left) ≡ place_of W (sought row left)
    place_end row left last h e k =
        ap (λ c. c + left) (sym (sum_stays W row end h (λ i g l. none i (spans.above i (omega arith) (omega arith)))))

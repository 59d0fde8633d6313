-- A walk over rows, each of which counts as often as is said, that passes over as many as it is told to.
use Rattle.std.specs.Prelude.{ℕ, ◌+◌, ◌≤◌, ◌<◌, ◌≡◌}
use Rattle.lists.specs.Sum.{sum_below}
use Rattle.select.specs.declared.Sought.{Sought}

module _ (weight : ℕ → ℕ) where
  -- the place that a row and what is left name, counted from the first row on
  abbrev pub place_of : Sought → ℕ
  place_of s = sum_below weight s.row + s.left

  -- the walk from one row to another below the end: it keeps the place, and stops at a row that holds it, or at the end
  pub record Passed (end : ℕ) (from to : Sought) : Type 0 where
    pub place : place_of to ≡ place_of from
    pub within : to.row ≤ end
    pub found : to.row < end → to.left < weight to.row

-- What check 4 gives: a tag has no more rows than its limit. By recursion on the rows: with a row of the tag, those before it are fewer than the limit.
use Prim.Native.Nat.{ℕ, zero, suc, ◌+◌, ◌≤◌, ◌<◌}
use mathlib.Core.Path.{◌≡◌, refl, subst}
use mathlib.Core.Bool.{Bool, true, false, ◌&&◌, ◌||◌}
use native.Mathlib.Omega.{arith}
use borrow.Author.Tests.{eqb-true, leb-false}
use Rattle.lists.specs.Below.{one_if, count_below}
use Rattle.lists.proofs.Below.{count_less}
use Rattle.table.specs.Names.{identifier_tag, node_tag, event_tag}
use Rattle.table.specs.Rows.{Rows, tagged, count, is_action}
use Rattle.rules.specs.Tags.{row_limit}
use Rattle.rules.specs.Rules.{counted_with, full_offends}

module _ (t : Rows) (ok : (i : ℕ) → i < t.size → full_offends t i ≡ false) where
  or_more : (a b : Bool) → one_if a ≤ one_if (a || b)
  or_more true b = omega arith
  or_more false true = omega arith
  or_more false false = omega arith

  -- the rows of a tag before a row of it
  before_row : (i : ℕ) → i < t.size → count_below (tagged t (t.tag i)) i < row_limit (t.tag i)
  unfolding full_offends
  before_row i h =
      omega (arith, leb-false (row_limit (t.tag i)) (count_below (counted_with t i) i) (ok i h), count_less (tagged t (t.tag i)) (counted_with t i) (λ j. or_more (tagged t (t.tag i) j) (is_action t i && is_action t j)) i)

  few_below : (k n : ℕ) → n ≤ t.size → count_below (tagged t k) n ≤ row_limit k
  unfolding count_below
  few_below k zero h = omega arith
  few_below k (suc n) h = go (tagged t k n) refl (few_below k n (omega arith))
    where
      go : (b : Bool) → tagged t k n ≡ b → count_below (tagged t k) n ≤ row_limit k → count_below (tagged t k) n + one_if b ≤ row_limit k
      go true e ih = subst (λ k. count_below (tagged t k) n + 1 ≤ row_limit k) (eqb-true (t.tag n) k e) (omega (arith, before_row n (omega arith)))
      go false e ih = omega arith

  pub few_rows : (k : ℕ) → count t k ≤ row_limit k
  unfolding count
  few_rows k = few_below k t.size (omega arith)

  pub few_identifiers : count t identifier_tag ≤ 64
  unfolding row_limit
  few_identifiers = few_rows identifier_tag

  pub few_nodes : count t node_tag ≤ 512
  unfolding row_limit
  few_nodes = few_rows node_tag

  pub few_events : count t event_tag ≤ 32
  unfolding row_limit
  few_events = few_rows event_tag

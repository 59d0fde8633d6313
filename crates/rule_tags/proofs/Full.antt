-- Check 4 where tags never fall: the rows that are counted with a row, before it, are those from the first of its tag on.
use Prim.Native.Nat.{ℕ, ◌-◌, ◌≤◌, ◌<◌}
use mathlib.Core.Path.{◌≡◌, refl, ap, sym, ◌∙◌, fun_ext}
use mathlib.Core.Bool.{Bool, true, false}
use native.Mathlib.Omega.{arith}
use borrow.Author.Tests.{eq-eqb}
use lib.Dec.{eqb}
use Rattle.lists.specs.Choice.{pick}
use Rattle.lists.specs.Below.{count_below}
use Rattle.lists.proofs.Below.{count_from}
use Rattle.table.specs.Names.{becomes_equal_tag, becomes_such_tag, variant_tag}
use Rattle.table.specs.Rows.{Rows, Rising}
use Rattle.rules.specs.Rules.{counted_with}
use Rattle.scan.specs.Spans.{of_tag, tag_span}
use Rattle.scan.specs.Query.{span_tag}
use Rattle.scan.proofs.Queries.{counted_tag}
use Rattle.scan.proofs.Spans.{in_span, from_first, span_spans, between}

module _ (t : Rows) (rising : Rising t) (i : ℕ) (h : i < t.size) where
  -- the rows counted with row i
  abbrev counted : ℕ → Bool
  counted = of_tag t (span_tag (t.tag i))

  counted_same : counted_with t i ≡ counted
  counted_same = fun_ext (λ j. counted_tag (t.tag i) (t.tag j))

  counted_own : counted i ≡ true
  counted_own = sym (counted_tag (t.tag i) (t.tag i)) ∙ rw (eq-eqb (t.tag i) (t.tag i) refl)

  pub from_before : (tag_span t (span_tag (t.tag i))).from ≤ i
  from_before = (in_span counted t.size i counted_own h).0

  pub rows_counted : count_below (counted_with t i) i ≡ i - (tag_span t (span_tag (t.tag i))).from
  rows_counted =
      let from = (tag_span t (span_tag (t.tag i))).from in
      ap (λ P. count_below P i) counted_same
      ∙ count_from counted from i from_before (span_spans counted t.size).below
      (λ j l k. between t rising (span_tag (t.tag i)) from j i l (omega arith) h (from_first counted t.size i counted_own h) counted_own)

pub span_tag_known : (x : ℕ) → x ≤ variant_tag → span_tag x ≤ variant_tag
span_tag_known x h = go (eqb x becomes_such_tag)
  where
    go : (b : Bool) → pick b becomes_equal_tag x ≤ variant_tag
    go true = omega arith
    go false = h

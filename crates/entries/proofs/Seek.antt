-- Where the k-th hypothesis of a slot comes from: `hypotheses_to` is how many stand before a row of a segment. A step of the walk, over the rows of a segment and then
-- to the next, loses none; so the walk from a place comes to the hypothesis that is sought, or to the end where there are fewer.
use Prim.Native.Nat.{ℕ, ◌+◌, ◌*◌, ◌≤◌, ◌<◌}
use mathlib.Core.Path.{◌≡◌, refl, sym, ap, ap₂, subst, ◌∙◌}
use mathlib.Core.Bool.{Bool, true, false}
use native.Mathlib.Omega.{arith}
use native.Mathlib.Numerals.{add-one}
use lib.Dec.{ltb}
use lib.ListN.{length, get_or, length-map, get_or-eq_default}
use borrow.Author.Tests.{ltb-true, ltb-false}
use Rattle.lists.specs.Below.{count_below, numbers, keep}
use Rattle.lists.specs.Sum.{sum_below}
use Rattle.lists.proofs.Below.{count_at_most, count_passes}
use Rattle.lists.proofs.Flat.{keep_length, flat_length, sum_same, sum_at_most, sum_reaches, flat_at, kept_at}
use Rattle.table.specs.Rows.{Rows}
use Rattle.sequent.specs.Entry.{Entry}
use Rattle.select.specs.declared.Sought.{Sought}
use Rattle.select.specs.declared.Each.TheVariants.{One}
use Rattle.select.specs.Each.{count_at}
use Rattle.select.specs.Sought.{Passed}
use Rattle.select.proofs.Selected.{ones_counted, counted_one}
use Rattle.walk.specs.declared.Slot.{Slot}
use Rattle.segments.specs.Segments.{segments, segment_at, in_segment, segment_entry, segment, hypothesis_walk}
use Rattle.segments.proofs.Tables.{end, end_within}
use Rattle.entries.specs.declared.Cursor.{Cursor}
use Rattle.entries.specs.Sequent.{goal_at, segment_count, hypotheses_to, hypothesis_count}
use Rattle.entries.specs.Seek.{cursor_at, Stands, hypotheses_before, OnEntry, SoughtEntry, entry_at}

-- the row and what is left, as a walk over rows has them
abbrev pub sought_in : Cursor → Sought
sought_in c = record { row = c.row; left = c.left }

module _ (t : Rows) (s : Slot) where
  -- from the start, and past the last row of a segment to the next
  pub hypotheses_start : hypotheses_to t s 0 0 ≡ 0
  unfolding hypotheses_to sum_below count_below
  hypotheses_start = refl

  pub hypotheses_segment : (k : ℕ) → hypotheses_to t s (k + 1) 0 ≡ hypotheses_to t s k (end t s k)
  unfolding hypotheses_to sum_below count_below
  hypotheses_segment k = rw (add-one k) (omega arith)

  -- a segment's rows are the table's, so that there are at most as many hypotheses as segments and rows
  pub at_most : s.row < t.size → hypothesis_count t s ≤ 7 * t.size
  unfolding hypotheses_to count_below
  at_most h = omega (arith, sum_at_most (segment_count t s) t.size (λ k. omega (arith, count_at_most (in_segment t s k) (end t s k), end_within t s h k)) segments)

  segment_length : (k : ℕ) → length (segment t s k) ≡ segment_count t s k
  segment_length k = length-map (keep (in_segment t s k) (numbers (end t s k) 0)) (segment_entry t s k) ∙ keep_length (in_segment t s k) (end t s k)

  pub walk_length : length (hypothesis_walk t s) ≡ hypothesis_count t s
  unfolding hypothesis_walk hypotheses_to count_below
  walk_length = flat_length (segment t s) segments ∙ sum_same _ (segment_count t s) segments (λ k h. segment_length k) ∙ omega arith

  -- a row that passes holds the hypothesis behind those that stand before it
  module _ (k j : ℕ) (hk : k < segments) (hj : j < end t s k) (p : in_segment t s k j ≡ true) where
    inside : count_below (in_segment t s k) j < segment_count t s k
    inside = count_passes (in_segment t s k) (end t s k) j hj p

    pub reached : hypotheses_to t s k j < hypothesis_count t s
    unfolding hypotheses_to
    reached = omega (arith, inside, sum_reaches (segment_count t s) segments k hk)

    pub held : (d : Entry) → get_or (hypothesis_walk t s) (hypotheses_to t s k j) d ≡ segment_entry t s k j
    unfolding hypothesis_walk hypotheses_to
    held d =
        flat_at (segment t s) (segment_count t s) segments (λ k h. segment_length k) k (count_below (in_segment t s k) j) d hk inside
        ∙ kept_at (in_segment t s k) (segment_entry t s k) (end t s k) j d hj p

  -- a walk over the rows of a segment
  module _ {c : Cursor} {r : Sought} (st : Stands t s c) (h : c.segment < segments)
      (p : Passed (count_at t (segment_at t s c.segment).rows One) (end t s c.segment) (sought_in c) r) where
    pub passed_same : hypotheses_to t s c.segment r.row + r.left ≡ hypotheses_before t s c + c.left
    unfolding hypotheses_to
    passed_same =
        let rows = (segment_at t s c.segment).rows in omega (arith, p.place, ones_counted t rows r.row, ones_counted t rows c.row)

    pub passed_found : {n : Cursor} → r.row < end t s c.segment → n ≡ cursor_at c.segment r.row r.left → Stands t s n × OnEntry t s n
    passed_found l q =
        let f = counted_one t (segment_at t s c.segment).rows r.row r.left (p.found l) in
        subst (λ n. Stands t s n × OnEntry t s n) (sym q) (record { segment = st.segment; row = p.within }, record { row = l; passes = f.0; left = f.1 })

    pub passed_next : {n : Cursor} → end t s c.segment ≤ r.row → n ≡ cursor_at (c.segment + 1) 0 r.left
        → Stands t s n × (hypotheses_before t s n + n.left ≡ hypotheses_before t s c + c.left)
    passed_next l q =
        let last : end t s c.segment ≡ r.row = omega (arith, p.within) in
        subst (λ n. Stands t s n × (hypotheses_before t s n + n.left ≡ hypotheses_before t s c + c.left)) (sym q) (
          record { segment = omega arith; row = omega arith },
          ap (λ m. m + r.left) (hypotheses_segment c.segment ∙ ap (hypotheses_to t s c.segment) last) ∙ passed_same,
        )

  -- the first place, and a place with its own hypothesis to pass
  pub start_stands : {from : Cursor} {left : ℕ} → from ≡ cursor_at 0 0 left → Stands t s from
  start_stands p = subst (Stands t s) (sym p) (record { segment = omega arith; row = omega arith })

  pub passing_stands : {from c : Cursor} → from ≡ cursor_at c.segment c.row 1 → Stands t s c → Stands t s from
  passing_stands p st = subst (Stands t s) (sym p) (record { segment = st.segment; row = st.row })

  -- the end has all hypotheses before it
  pub all_before : {c : Cursor} → Stands t s c → segments ≤ c.segment → hypotheses_before t s c ≡ hypothesis_count t s
  unfolding segment_at
  all_before {c} st h =
      let p : c.segment ≡ segments = omega (arith, st.segment) in
      let q : c.row ≡ 0 = omega (arith, st.row, ap (λ k. end t s k) p) in
      ap₂ (hypotheses_to t s) p q

-- what a walk from the start comes to, with k hypotheses to pass
module _ {t : Rows} {s : Slot} {k : ℕ} {from r : Cursor} (f : from ≡ cursor_at 0 0 k) (so : SoughtEntry t s from r) where
  at_place : hypotheses_before t s r + r.left ≡ k
  at_place = so.passed ∙ ap (λ c. hypotheses_before t s c + c.left) f ∙ ap (λ n. n + k) (hypotheses_start t s) ∙ omega arith

  -- none stands behind as many as there are
  pub counted : hypothesis_count t s ≤ k → hypothesis_count t s + r.left ≡ k
  counted most = go (ltb r.segment segments) refl
    where
      go : (b : Bool) → ltb r.segment segments ≡ b → hypothesis_count t s + r.left ≡ k
      go true q =
          let h = ltb-true r.segment segments q in
          let o = so.found h in
          absurd (omega (arith, at_place, o.left, reached t s r.segment r.row h o.row o.passes))
      go false q = omega (arith, at_place, all_before t s so.stands (ltb-false r.segment segments q))

  pub hypothesis_found : r.segment < segments → entry_at t s k ≡ segment_entry t s r.segment r.row
  hypothesis_found h =
      let o = so.found h in
      let p : hypotheses_before t s r ≡ k = omega (arith, at_place, o.left) in
      ap (entry_at t s) (sym p) ∙ held t s r.segment r.row h o.row o.passes (goal_at t s)

  pub goal_found : segments ≤ r.segment → entry_at t s k ≡ goal_at t s
  goal_found h =
      get_or-eq_default (hypothesis_walk t s) (goal_at t s) (omega (arith, at_place, all_before t s so.stands h, walk_length t s))

-- a walk from the start with none to pass: none stands before the place that it comes to
pub none_before : {t : Rows} {s : Slot} {from r : Cursor} → from ≡ cursor_at 0 0 0 → SoughtEntry t s from r → hypotheses_before t s r ≡ 0
none_before f so = omega (arith, at_place f so)

-- a walk on from a hypothesis, past it: there is one more before the place that it comes to
pub one_more : {t : Rows} {s : Slot} {c from n : Cursor} → c.segment < segments → OnEntry t s c → from ≡ cursor_at c.segment c.row 1
    → SoughtEntry t s from n → hypotheses_before t s n ≡ hypotheses_before t s c + 1
one_more {t} {s} {c} {from} {n} h o f so = go (ltb n.segment segments) refl
  where
    passed : hypotheses_before t s n + n.left ≡ hypotheses_before t s c + 1
    passed = so.passed ∙ ap (λ c. hypotheses_before t s c + c.left) f

    go : (b : Bool) → ltb n.segment segments ≡ b → hypotheses_before t s n ≡ hypotheses_before t s c + 1
    go true q = omega (arith, passed, (so.found (ltb-true n.segment segments q)).left)
    go false q =
        omega (arith, passed, all_before t s so.stands (ltb-false n.segment segments q), reached t s c.segment c.row h o.row o.passes)

-- 01, Sequents: a slot's sequent, of header, hypotheses and goal, and how many hypotheses it has. What is left to pass over in a slot is which of its sequents is meant: of
-- a witness its WD or its WFIS.
use Rattle.std.specs.Prelude.{ℕ, ◌+◌}
use Rattle.lists.specs.Below.{count_below}
use Rattle.lists.specs.Sum.{sum_below}
use Rattle.table.specs.Rows.{Rows}
use Rattle.sequent.specs.Entry.{Entry}
use Rattle.sequent.specs.Sequent.{Sequent, sequent}
use Rattle.walk.specs.declared.Slot.{Slot}
use Rattle.walk.specs.Headers.{header_kind, header_item}
use Rattle.segments.specs.Segments.{goal_of, segments, segment_at, in_segment, hypothesis_walk}

module _ (t : Rows) (s : Slot) where
  -- the goal, by the kind and the item
  abbrev pub goal_at : Entry
  goal_at = goal_of t (header_kind t s.event s.group s.row s.left) s.event (header_item t s.event s.group s.row s.left)

  -- the slot's sequent: header, hypotheses and goal
  abbrev pub slot_sequent : Sequent
  slot_sequent =
      sequent (header_kind t s.event s.group s.row s.left) s.event (header_item t s.event s.group s.row s.left) (hypothesis_walk t s) goal_at

  -- how many hypotheses a segment has, and how many stand before the row j of a segment
  abbrev pub segment_count : ℕ → ℕ
  segment_count k = count_below (in_segment t s k) (segment_at t s k).before

  unfoldable pub hypotheses_to : ℕ → ℕ → ℕ
  hypotheses_to k j = sum_below segment_count k + count_below (in_segment t s k) j

  abbrev pub hypothesis_count : ℕ
  hypothesis_count = hypotheses_to segments 0

-- Places in the walk of a slot's hypotheses, and what a walk from one place comes to.
use Rattle.std.specs.Prelude.{ℕ, ◌+◌, ◌≤◌, ◌<◌, ◌≡◌, true, get_or}
use Rattle.table.specs.Rows.{Rows}
use Rattle.sequent.specs.Entry.{Entry}
use Rattle.walk.specs.declared.Slot.{Slot}
use Rattle.segments.specs.Segments.{segments, segment_at, in_segment, hypothesis_walk}
use Rattle.entries.specs.declared.Cursor.{Cursor}
use Rattle.entries.specs.Sequent.{goal_at, hypotheses_to}

abbrev pub cursor_at : ℕ → ℕ → ℕ → Cursor
cursor_at k j left = record { segment = k; row = j; left = left }

module _ (t : Rows) (s : Slot) where
  -- a row of a segment, or its end; past the last segment no row
  pub record Stands (c : Cursor) : Type 0 where
    pub segment : c.segment ≤ segments
    pub row : c.row ≤ (segment_at t s c.segment).before

  -- how many hypotheses stand before a place
  abbrev pub hypotheses_before : Cursor → ℕ
  hypotheses_before c = hypotheses_to t s c.segment c.row

  -- a place of a hypothesis
  pub record OnEntry (c : Cursor) : Type 0 where
    pub row : c.row < (segment_at t s c.segment).before
    pub passes : in_segment t s c.segment c.row ≡ true
    pub left : c.left ≡ 0

  -- the hypothesis after as many as are left to pass, or the end
  pub record SoughtEntry (from to : Cursor) : Type 0 where
    pub stands : Stands to
    pub passed : hypotheses_before to + to.left ≡ hypotheses_before from + from.left
    pub found : to.segment < segments → OnEntry to

  -- a hypothesis by number, counted from 0, or behind them the goal
  abbrev pub entry_at : ℕ → Entry
  entry_at k = get_or (hypothesis_walk t s) k (goal_at t s)

-- The list of sequents as a walk of slots: an event (0 for none), a group and a row. A slot has as many sequents as its group has of a row of its selection, so
-- that counting the sequents makes none of them.
use Rattle.std.specs.Prelude.{ℕ, ◌+◌, ◌≤◌, ◌<◌, ◌≡◌, ◌⊎◌, ltb}
use Rattle.lists.specs.Choice.{pick}
use Rattle.lists.specs.Sum.{sum_below}
use Rattle.table.specs.Names.{event_tag}
use Rattle.table.specs.Rows.{Rows, count}
use Rattle.select.specs.declared.Sought.{Sought}
use Rattle.select.specs.Each.{count_at}
use Rattle.walk.specs.declared.Slot.{Slot}
use Rattle.groups.specs.Groups.{groups, group_at}

abbrev pub slot_at : ℕ → ℕ → ℕ → ℕ → Slot
slot_at e g i left = record { event = e; group = g; row = i; left = left }

-- the row and what is left, as a walk over rows has them
abbrev pub sought_at : Slot → Sought
sought_at s = record { row = s.row; left = s.left }

-- the next group's first row, or the next event's
abbrev pub next_group : Slot → ℕ → Slot
next_group s left = pick (ltb (s.group + 1) groups) (slot_at s.event (s.group + 1) 0 left) (slot_at (s.event + 1) 0 0 left)

module _ (t : Rows) where
  -- how many sequents a slot has, a group of an event, an event, and the walk
  abbrev pub slot_count : ℕ → ℕ → ℕ → ℕ
  slot_count e g i = count_at t (group_at t e g).rows (group_at t e g).each i

  abbrev pub group_count : ℕ → ℕ → ℕ
  group_count e g = sum_below (slot_count e g) t.size

  abbrev pub event_count : ℕ → ℕ
  event_count e = sum_below (group_count e) groups

  unfoldable pub walk_count : ℕ
  walk_count = sum_below event_count (count t event_tag + 1)

  -- how many the slots before the row i of the group g of the event e have
  unfoldable pub walk_to : ℕ → ℕ → ℕ → ℕ
  walk_to e g i = sum_below event_count e + (sum_below (group_count e) g + sum_below (slot_count e g) i)

  -- a slot of the walk; or, where its row is the table's size, past the rows of a group
  pub record Within (s : Slot) : Type 0 where
    pub event : s.event ≤ count t event_tag
    pub group : s.group < groups
    pub row : s.row ≤ t.size

  -- the walk's end
  pub record AtEnd (s : Slot) : Type 0 where
    pub event : s.event ≡ count t event_tag + 1
    pub group : s.group ≡ 0
    pub row : s.row ≡ 0

  abbrev pub InWalk : Slot → Type 0
  InWalk s = Within s ⊎ AtEnd s

  -- the place in the list that a slot and what is left name, counted from 0
  abbrev pub position : Slot → ℕ
  position s = walk_to s.event s.group s.row + s.left

  -- a slot with a sequent that is left to pass over to
  pub record Holds (s : Slot) : Type 0 where
    pub event : s.event ≤ count t event_tag
    pub group : s.group < groups
    pub row : s.row < t.size
    pub left : s.left < slot_count s.event s.group s.row

  -- the search for a place has come to an end: in the slot that holds the place, or behind the last
  abbrev pub SoughtSlot : ℕ → Slot → Type 0
  SoughtSlot k s = (position s ≡ k) × (Holds s ⊎ AtEnd s)

-- 01, Rows: a table's rows as numbers, their sections, and how identifiers, nodes and events are named.
use Rattle.std.specs.Prelude.{ℕ, ◌+◌, ◌-◌, ◌*◌, ◌/◌, ◌≤◌, ◌<◌, Bool, ◌&&◌, ◌||◌, List, ltb, leb, eqb, length, get_or}
use Rattle.lists.specs.Below.{count_below, numbers, keep}
use Rattle.table.specs.Names.{becomes_equal_tag, becomes_such_tag, event_tag, identifier_tag, node_tag}

-- The rows, counted from 0: a tag and numbers a, b, c, each a word of 64 bits.
pub record Rows : Type 0 where
  pub size : ℕ
  pub tag : ℕ → ℕ
  pub a : ℕ → ℕ
  pub b : ℕ → ℕ
  pub c : ℕ → ℕ

-- the table of a list of words, four a row
abbrev pub rows_of : List ℕ → Rows
rows_of ws = record {
  size = length ws / 4;
  tag = λ i. get_or ws (4 * i) 0;
  a = λ i. get_or ws (4 * i + 1) 0;
  b = λ i. get_or ws (4 * i + 2) 0;
  c = λ i. get_or ws (4 * i + 3) 0;
}

module _ (t : Rows) where
  abbrev pub tagged : ℕ → ℕ → Bool
  tagged k i = eqb (t.tag i) k

  -- the rows of a tag, in table order
  unfoldable pub section : ℕ → List ℕ
  section k = keep (tagged k) (numbers t.size 0)

  -- how many rows a tag has, and how many rows stand before them (01: "tags never fall")
  unfoldable pub count : ℕ → ℕ
  count k = count_below (tagged k) t.size

  unfoldable pub start : ℕ → ℕ
  start k = count_below (λ i. ltb (t.tag i) k) t.size

  -- 01: "Identifiers, nodes and events are each numbered from 1 in table order": whether a number names one, and its row
  abbrev pub named : ℕ → ℕ → Bool
  named k n = leb 1 n && leb n (count k)

  abbrev pub row_of : ℕ → ℕ → ℕ
  row_of k n = start k + n - 1

  -- the number that the row has in its section
  abbrev pub number_in : ℕ → ℕ → ℕ
  number_in k i = i + 1 - start k

  -- 01's table of rows: kind, type and owner of an identifier
  abbrev pub kind_of : ℕ → ℕ
  kind_of x = t.a (row_of identifier_tag x)

  abbrev pub type_of : ℕ → ℕ
  type_of x = t.b (row_of identifier_tag x)

  abbrev pub owner_of : ℕ → ℕ
  owner_of x = t.c (row_of identifier_tag x)

  -- operator and operands of a node
  abbrev pub operator_of : ℕ → ℕ
  operator_of n = t.a (row_of node_tag n)

  abbrev pub left_of : ℕ → ℕ
  left_of n = t.b (row_of node_tag n)

  abbrev pub right_of : ℕ → ℕ
  right_of n = t.c (row_of node_tag n)

  -- machine, class and refined event of an event
  abbrev pub machine_number : ℕ → ℕ
  machine_number e = t.a (row_of event_tag e)

  abbrev pub class_of : ℕ → ℕ
  class_of e = t.b (row_of event_tag e)

  abbrev pub refined_by : ℕ → ℕ
  refined_by e = t.c (row_of event_tag e)

  -- 01: 51 and 52 are the actions
  abbrev pub is_action : ℕ → Bool
  is_action i = tagged becomes_equal_tag i || tagged becomes_such_tag i

  -- 01: "tags never fall"
  abbrev pub Rising : Type 0
  Rising = (i j : ℕ) → i ≤ j → j < t.size → t.tag i ≤ t.tag j

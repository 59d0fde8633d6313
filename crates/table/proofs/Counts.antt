-- Laws of the counts of a table's rows: none at the start, one row more, never more than the rows; and how the numbers of a section are looked up by them.
use Prim.Native.Nat.{ℕ, ◌+◌, ◌-◌, ◌*◌, ◌≤◌, ◌<◌, ◌^◌}
use mathlib.Core.Path.{◌≡◌, refl, sym, ap, subst, ◌∙◌}
use mathlib.Core.Bool.{Bool, ◌&&◌}
use mathlib.Core.List.{List}
use native.Mathlib.Omega.{arith}
use native.Mathlib.Numerals.{add-one}
use lib.Dec.{ltb, leb, eqb}
use lib.ListN.{length, get_or}
use Rattle.lists.specs.Below.{count_below}
use Rattle.lists.proofs.Below.{count_at_most}
use Rattle.table.specs.declared.Table.{Table as Counts}
use Rattle.table.specs.Rows.{Rows, rows_of, count, start, named, row_of}
use Rattle.table.specs.Counts.{empty_counts, counted_row, counts_to, counts_of, Small}

pub counts_none : (t : Rows) → empty_counts ≡ counts_to t 0
unfolding count_below
counts_none t = refl

pub counts_next : (t : Rows) (i : ℕ) → counted_row (counts_to t i) (t.tag i) ≡ counts_to t (i + 1)
unfolding count_below
counts_next t i = rw add-one

pub counts_small : (t : Rows) (i : ℕ) (k : Counts) → i < 2 ^ 63 → k ≡ counts_to t i → Small k
counts_small t i k h e = subst Small (sym e) (record {
  identifiers_start_of = omega (arith, count_at_most (λ i. ltb (t.tag i) 10) i);
  identifiers = omega (arith, count_at_most (λ i. eqb (t.tag i) 10) i);
  nodes_start_of = omega (arith, count_at_most (λ i. ltb (t.tag i) 20) i);
  nodes = omega (arith, count_at_most (λ i. eqb (t.tag i) 20) i);
  events_start_of = omega (arith, count_at_most (λ i. ltb (t.tag i) 40) i);
  events = omega (arith, count_at_most (λ i. eqb (t.tag i) 40) i);
})

-- A count as the table's definitions name it, and where a section starts.
module _ (t : Rows) (k : Counts) (e : k ≡ counts_of t) where
  pub counts_identifiers : k.identifiers ≡ count t 10
  unfolding count
  counts_identifiers = ap (λ c. c.identifiers) e

  pub counts_nodes : k.nodes ≡ count t 20
  unfolding count
  counts_nodes = ap (λ c. c.nodes) e

  pub counts_events : k.events ≡ count t 40
  unfolding count
  counts_events = ap (λ c. c.events) e

  pub starts_identifiers : k.identifiers_start ≡ start t 10
  unfolding start
  starts_identifiers = ap (λ c. c.identifiers_start) e

  pub starts_nodes : k.nodes_start ≡ start t 20
  unfolding start
  starts_nodes = ap (λ c. c.nodes_start) e

  pub starts_events : k.events_start ≡ start t 40
  unfolding start
  starts_events = ap (λ c. c.events_start) e

pub start_inside : (ws : List ℕ) (k : ℕ) → start (rows_of ws) k ≤ length ws
unfolding start
start_inside ws k = omega (arith, count_at_most (λ i. ltb ((rows_of ws).tag i) k) (rows_of ws).size)

-- What a number names in the section of a tag, from where the counts say that the section starts, and from how many rows they say it has.
module _ (ws : List ℕ) (tag s : ℕ) (e : s ≡ start (rows_of ws) tag) where
  pub section_inside : s ≤ length ws
  section_inside = rw e (start_inside ws tag)

  pub section_field : (r x column : ℕ) → r ≡ get_or ws (4 * (s + x - 1) + column) 0 → r ≡ get_or ws (4 * row_of (rows_of ws) tag x + column) 0
  section_field r x column h = h ∙ ap (λ s. get_or ws (4 * (s + x - 1) + column) 0) e

pub section_named : (t : Rows) (tag n x : ℕ) (r : Bool) → n ≡ count t tag → r ≡ (leb 1 x && leb x n) → r ≡ named t tag x
section_named t tag n x r e h = h ∙ ap (λ n. leb 1 x && leb x n) e

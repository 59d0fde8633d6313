-- The rows that a selection has, by tests on the table's numbers, and the rows between which they stand.
use Rattle.std.specs.Prelude.{ℕ, ◌+◌, Bool, false, not, ◌&&◌, ltb, leb, eqb}
use Rattle.lists.specs.Choice.{pick}
use Rattle.lists.specs.Below.{first}
use Rattle.table.specs.Names.{identifier_tag, becomes_equal_tag, witness_tag, variant_tag, is_variable_of}
use Rattle.table.specs.Rows.{Rows, tagged, count, kind_of}
use Rattle.table.specs.Lookups.{is_variable_number}
use Rattle.machine.specs.Described.{sets}
use Rattle.scan.specs.declared.Span.{Span}
use Rattle.scan.specs.Spans.{tag_span}
use Rattle.select.specs.declared.Selection.{Selection}
use Rattle.select.specs.declared.Selection.TheVariants.{None, Tagged, OfEvent, ForParameters, Identifiers, Variables, Assigned, SuchThat}

abbrev pub between : ℕ → ℕ → Span
between from to = record { from = from; to = to }

module _ (t : Rows) where
  -- the rows of a tag that belong to an event
  abbrev pub row_of_event : ℕ → ℕ → ℕ → Bool
  row_of_event k e j = tagged t k j && eqb (t.a j) e

  -- an event's witnesses for parameters
  abbrev pub parameter_witness : ℕ → ℕ → Bool
  parameter_witness e j = not (is_variable_number t (t.b j)) && row_of_event witness_tag e j

  -- there is an identifier j + 1, of a kind
  abbrev pub identifier_at : ℕ → ℕ → Bool
  identifier_at kind j = ltb j (count t identifier_tag) && eqb (kind_of t (j + 1)) kind

  -- it is a variable of the machine whose own have a kind, and so perhaps a shared one
  abbrev pub variable_at : ℕ → ℕ → Bool
  variable_at own j = ltb j (count t identifier_tag) && is_variable_of own (kind_of t (j + 1))

  -- the row of an event's action for a variable; the table's size where it is unassigned
  unfoldable pub action_row : ℕ → ℕ → ℕ
  action_row e x = first (sets t e x) t.size 0

  abbrev pub is_assigned : ℕ → ℕ → Bool
  is_assigned e x = ltb (action_row e x) t.size

  abbrev pub becomes_such : ℕ → ℕ → Bool
  becomes_such e x = is_assigned e x && not (tagged t becomes_equal_tag (action_row e x))

  -- the row j is one of a selection
  abbrev pub selects : Selection → ℕ → Bool
  selects None j = false
  selects (Tagged k) j = tagged t k j
  selects (OfEvent k e) j = row_of_event k e j
  selects (ForParameters e) j = parameter_witness e j
  selects (Identifiers kind) j = identifier_at kind j
  selects (Variables own) j = variable_at own j
  selects (Assigned own e) j = variable_at own j && is_assigned e (j + 1)
  selects (SuchThat own e) j = variable_at own j && becomes_such e (j + 1)

  -- the rows between which those of a tag stand; of a number that is no tag, all
  abbrev pub section_span : ℕ → Span
  section_span k = pick (leb k variant_tag) (tag_span t k) (between 0 t.size)

  -- and those of a selection
  abbrev pub selected_span : Selection → Span
  selected_span None = between 0 0
  selected_span (Tagged k) = section_span k
  selected_span (OfEvent k e) = section_span k
  selected_span (ForParameters e) = section_span witness_tag
  selected_span (Identifiers kind) = between 0 (count t identifier_tag)
  selected_span (Variables own) = between 0 (count t identifier_tag)
  selected_span (Assigned own e) = between 0 (count t identifier_tag)
  selected_span (SuchThat own e) = between 0 (count t identifier_tag)

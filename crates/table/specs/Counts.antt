-- Where the identifiers, the nodes and the events of a table stand, as the code holds it: counted row by row.
use Rattle.std.specs.Prelude.{ℕ, ◌+◌, ◌<◌, ◌^◌, ltb, eqb}
use Rattle.lists.specs.Below.{one_if, count_below}
use Rattle.table.specs.Names.{event_tag, identifier_tag, node_tag}
use Rattle.table.specs.declared.Table.{Table as Counts}
use Rattle.table.specs.Rows.{Rows}

abbrev pub empty_counts : Counts
empty_counts = record { identifiers_start = 0; identifiers = 0; nodes_start = 0; nodes = 0; events_start = 0; events = 0 }

abbrev pub counted_row : Counts → ℕ → Counts
counted_row k tag = record {
  identifiers_start = k.identifiers_start + one_if (ltb tag identifier_tag);
  identifiers = k.identifiers + one_if (eqb tag identifier_tag);
  nodes_start = k.nodes_start + one_if (ltb tag node_tag);
  nodes = k.nodes + one_if (eqb tag node_tag);
  events_start = k.events_start + one_if (ltb tag event_tag);
  events = k.events + one_if (eqb tag event_tag);
}

-- room for one more in every count
pub record Small (k : Counts) : Type 0 where
  pub identifiers_start_of : k.identifiers_start < 2 ^ 63
  pub identifiers : k.identifiers < 2 ^ 63
  pub nodes_start_of : k.nodes_start < 2 ^ 63
  pub nodes : k.nodes < 2 ^ 63
  pub events_start_of : k.events_start < 2 ^ 63
  pub events : k.events < 2 ^ 63

-- of the first n rows, and of all
abbrev pub counts_to : Rows → ℕ → Counts
counts_to t n = record {
  identifiers_start = count_below (λ i. ltb (t.tag i) identifier_tag) n;
  identifiers = count_below (λ i. eqb (t.tag i) identifier_tag) n;
  nodes_start = count_below (λ i. ltb (t.tag i) node_tag) n;
  nodes = count_below (λ i. eqb (t.tag i) node_tag) n;
  events_start = count_below (λ i. ltb (t.tag i) event_tag) n;
  events = count_below (λ i. eqb (t.tag i) event_tag) n;
}

abbrev pub counts_of : Rows → Counts
counts_of t = counts_to t t.size

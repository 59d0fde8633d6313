-- The tests of rows that the checks count, each by the numbers that it compares with: a row passes by its tag and its columns a and b.
use Rattle.std.specs.Prelude.{ℕ, Bool, ◌&&◌, ◌||◌, eqb}
use Rattle.lists.specs.Choice.{pick}
use Rattle.table.specs.Names.{event_tag, becomes_equal_tag, witness_tag, becomes_such_tag, initialisation_class}
use Rattle.table.specs.Rows.{Rows}
use Rattle.scan.specs.declared.Query.{Query}
use Rattle.scan.specs.declared.Query.TheVariants.{Event, SameTarget, Initialises, Assigns, Witnesses, OfClass, Tagged}

-- the tag under which the rows of a tag stand
abbrev pub span_tag : ℕ → ℕ
span_tag tag = pick (eqb tag becomes_such_tag) becomes_equal_tag tag

-- 01: 51 and 52 are the actions
abbrev pub action_tag : ℕ → Bool
action_tag tag = eqb tag becomes_equal_tag || eqb tag becomes_such_tag

abbrev pub holds : Query → ℕ → ℕ → ℕ → Bool
holds (Event machine) tag a b = eqb tag event_tag && eqb a machine
holds (SameTarget other event target) tag a b = ((action_tag other && action_tag tag) || (eqb other witness_tag && eqb tag witness_tag)) && (eqb a event && eqb b target)
holds (Initialises machine) tag a b = (eqb tag event_tag && eqb a machine) && eqb b initialisation_class
holds (Assigns event target) tag a b = action_tag tag && (eqb a event && eqb b target)
holds (Witnesses event target) tag a b = eqb tag witness_tag && (eqb a event && eqb b target)
holds (OfClass class) tag a b = eqb tag event_tag && eqb b class
holds (Tagged k) tag a b = eqb tag k

-- the tag under which the rows that pass stand
abbrev pub query_tag : Query → ℕ
query_tag (Event machine) = event_tag
query_tag (SameTarget other event target) = span_tag other
query_tag (Initialises machine) = event_tag
query_tag (Assigns event target) = becomes_equal_tag
query_tag (Witnesses event target) = witness_tag
query_tag (OfClass class) = event_tag
query_tag (Tagged k) = k

-- the row j of a table passes
abbrev pub passes_of : Rows → Query → ℕ → Bool
passes_of t query j = holds query (t.tag j) (t.a j) (t.b j)

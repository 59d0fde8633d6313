-- How the notes are stored: what a list holds after some nodes and rows.
use Rattle.std.specs.Prelude.{ℕ, ◌+◌, ◌*◌, ◌≤◌, ◌<◌, ◌≡◌, List, ltb, length, get_or, set}
use Rattle.lists.specs.Choice.{pick}
use Rattle.lists.specs.Below.{one_if, some_below}
use Rattle.formula.specs.Tree.{bottom, constant}
use Rattle.table.specs.Rows.{Rows}
use Rattle.machine.specs.Described.{tree_of, sets}
use Rattle.scan.specs.Spans.{event_limit, nodes_at, events_at, Spanned}
use Rattle.sets.specs.Set.{set_where}
use Rattle.notes.specs.declared.Note.{Note}
use Rattle.notes.specs.Notes.{note_of}
use Rattle.nodes.specs.Notes.{node_limit, note_in}

-- a list with the note of node n
abbrev pub stored : List ℕ → ℕ → Note → List ℕ
stored spans n d =
    set (set (set spans (nodes_at + 3 * n) d.mentioned) (nodes_at + (3 * n + 1)) d.defined) (nodes_at + (3 * n + 2)) (one_if d.divides)

-- a list is another with 0 for all numbers behind the spans
pub record Cleared (before after : List ℕ) : Type 0 where
  pub size : length after ≡ length before
  pub kept : (k : ℕ) → k < nodes_at → get_or after k 0 ≡ get_or before k 0
  pub zeros : (k : ℕ) → nodes_at ≤ k → get_or after k 0 ≡ 0

-- a list holds the spans, the notes of the nodes below n, and what the events assign by the first i rows
pub record NotedTo (t : Rows) (n i : ℕ) (spans : List ℕ) : Type 0 where
  pub spanned : Spanned t spans
  pub nodes : (k : ℕ) → k ≤ node_limit → note_in spans k ≡ note_of (pick (ltb k n) (tree_of t k) (constant bottom))
  pub events : (e : ℕ) → e ≤ event_limit → get_or spans (events_at + e) 0 ≡ set_where (λ x. some_below (sets t e x) i)

-- What is noted once for a table, behind the spans of its tags: of each node what its formula mentions and whether it divides, and of each event which identifiers
-- it assigns.
use Rattle.std.specs.Prelude.{ℕ, ◌+◌, ◌*◌, ◌≤◌, ◌≡◌, Bool, not, ◌&&◌, List, leb, eqb, get_or}
use Rattle.std.specs.Int.Bits.{bit_and}
use Rattle.lists.specs.Choice.{pick}
use Rattle.lists.specs.Below.{some_below}
use Rattle.formula.specs.Tree.{bottom, Tree, constant}
use Rattle.formula.specs.Identifiers.{identifiers}
use Rattle.table.specs.Names.{node_tag}
use Rattle.table.specs.Rows.{Rows, count}
use Rattle.machine.specs.Described.{tree_of, sets}
use Rattle.scan.specs.Spans.{event_limit, nodes_at, events_at, Spanned}
use Rattle.sets.specs.Set.{set_of, set_where}
use Rattle.notes.specs.declared.Note.{Note}
use Rattle.notes.specs.Notes.{note_of}

-- 01, the table of rows: "most rows" of tag 20
abbrev pub node_limit : ℕ
node_limit = 512

-- where a list holds a node's note: three numbers for node n
abbrev pub note_in : List ℕ → ℕ → Note
note_in spans n = record {
  mentioned = get_or spans (nodes_at + 3 * n) 0;
  defined = get_or spans (nodes_at + (3 * n + 1)) 0;
  divides = eqb (get_or spans (nodes_at + (3 * n + 2)) 0) 1;
}

module _ (t : Rows) where
  -- the formula of a node; of a number that is no node, or above the limit, ⊥, which mentions nothing
  abbrev pub noted_tree : ℕ → Tree
  noted_tree n = pick (leb n node_limit && leb n (count t node_tag)) (tree_of t n) (constant bottom)

  -- the identifiers that an event has an action for, up to the limit of events
  abbrev pub assigned_set : ℕ → ℕ
  assigned_set e = pick (leb e event_limit) (set_where (λ x. some_below (sets t e x) t.size)) 0

  -- a list holds the spans and the notes of all nodes and events
  pub record Noted (spans : List ℕ) : Type 0 where
    pub spanned : Spanned t spans
    pub nodes : (n : ℕ) → n ≤ node_limit → note_in spans n ≡ note_of (noted_tree n)
    pub events : (e : ℕ) → e ≤ event_limit → get_or spans (events_at + e) 0 ≡ assigned_set e

  -- an event assigns an identifier that the formula of a node mentions
  abbrev pub touches : ℕ → ℕ → Bool
  touches e n = not (eqb (bit_and (set_of (identifiers (noted_tree n))) (assigned_set e)) 0)

-- What is noted, as the table has it: a node up to the limit is noted with its own formula, and an event touches a node exactly where it has an action for one
-- of the identifiers of the formula, since sets meet where some member of the one is in the other.
use Prim.Native.Nat.{ℕ, ◌≤◌}
use mathlib.Core.Path.{◌≡◌, ap, ◌∙◌}
use mathlib.Core.Bool.{not, ◌&&◌}
use borrow.Author.Tests.{le-leb}
use lib.Dec.{leb, eqb}
use lib.Bits.{bit_and}
use Rattle.lists.specs.All.{All}
use Rattle.lists.specs.Below.{some_below}
use Rattle.lists.specs.Different.{some_of}
use Rattle.lists.proofs.Choice.{chosen}
use Rattle.formula.specs.Tree.{bottom, constant}
use Rattle.formula.specs.Identifiers.{identifiers}
use Rattle.table.specs.Names.{node_tag}
use Rattle.table.specs.Rows.{Rows, count}
use Rattle.machine.specs.Described.{tree_of, sets}
use Rattle.scan.specs.Spans.{event_limit}
use Rattle.sets.specs.Set.{set_of, set_where, Identifier}
use Rattle.sets.proofs.Set.{meets_some}
use Rattle.nodes.specs.Notes.{node_limit, noted_tree, assigned_set, touches}

module _ (t : Rows) where
  pub noted_tree_lem : (n : ℕ) → n ≤ node_limit → n ≤ count t node_tag → noted_tree t n ≡ tree_of t n
  noted_tree_lem n h k =
      chosen (leb n node_limit && leb n (count t node_tag)) (tree_of t n) (constant bottom) (rw (le-leb n node_limit h, le-leb n (count t node_tag) k))

  pub assigned_set_lem : (e : ℕ) → e ≤ event_limit → assigned_set t e ≡ set_where (λ x. some_below (sets t e x) t.size)
  assigned_set_lem e h = chosen (leb e event_limit) (set_where (λ x. some_below (sets t e x) t.size)) 0 (le-leb e event_limit h)

  pub touches_some : (e n : ℕ) → e ≤ event_limit → All Identifier (identifiers (noted_tree t n))
      → touches t e n ≡ some_of (λ x. some_below (sets t e x) t.size) (identifiers (noted_tree t n))
  touches_some e n h all =
      ap (λ m. not (eqb (bit_and (set_of (identifiers (noted_tree t n))) m) 0)) (assigned_set_lem e h)
      ∙ meets_some (identifiers (noted_tree t n)) (λ x. some_below (sets t e x) t.size) all

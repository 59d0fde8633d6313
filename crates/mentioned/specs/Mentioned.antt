-- The set of the identifiers that an entry spells, from what is noted of the nodes.
use Rattle.std.specs.Prelude.{ℕ, [], ◌∷◌}
use Rattle.std.specs.Int.Bits.{bit_or}
use Rattle.lists.specs.Choice.{pick}
use Rattle.formula.specs.WellDefined.{well_defined}
use Rattle.formula.specs.Identifiers.{identifiers}
use Rattle.table.specs.Names.{becomes_equal_tag}
use Rattle.table.specs.Rows.{Rows, tagged}
use Rattle.sequent.specs.Entry.{Entry, written, primed, defined, moves, feasible, witnessed, natural, decreases, not_increased, unchanged}
use Rattle.sets.specs.Set.{set_of}
use Rattle.nodes.specs.Notes.{noted_tree}
use Rattle.select.specs.Selection.{action_row, is_assigned}
use Rattle.spell.specs.Spell.{witness_node}

module _ (t : Rows) where
  abbrev pub node_set : ℕ → ℕ
  node_set n = set_of (identifiers (noted_tree t n))

  -- form 4: the equation of x and the root, the root, or "after equals before"
  unfoldable pub action_set : ℕ → ℕ → ℕ
  action_set e x =
      let i = action_row t e x in
      pick (is_assigned t e x) (pick (tagged t becomes_equal_tag i) (bit_or (set_of (x ∷ [])) (node_set (t.c i))) (node_set (t.c i))) (set_of (x ∷ []))

  -- form 6: x, and the witness's root
  abbrev pub witness_set : ℕ → ℕ → ℕ
  witness_set e x = bit_or (set_of (x ∷ [])) (node_set (witness_node t e x))

  abbrev pub entry_set : Entry → ℕ
  entry_set (written r) = node_set r
  entry_set (primed r) = node_set r
  entry_set (defined r) = set_of (identifiers (well_defined (noted_tree t r)))
  entry_set (moves e x) = action_set e x
  entry_set (feasible e x) = bit_or (set_of (x ∷ [])) (action_set e x)
  entry_set (witnessed e x) = witness_set e x
  entry_set (natural r) = node_set r
  entry_set (decreases r) = node_set r
  entry_set (not_increased r) = node_set r
  entry_set (unchanged x) = set_of (x ∷ [])

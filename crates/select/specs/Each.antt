-- How many sequents, or entries, there are of a row: one, or as many as 02, request 4 keeps.
use Rattle.std.specs.Prelude.{ℕ, ◌+◌}
use Rattle.lists.specs.Choice.{pick}
use Rattle.lists.specs.Below.{one_if}
use Rattle.formula.specs.Identifiers.{divides}
use Rattle.table.specs.Rows.{Rows}
use Rattle.nodes.specs.Notes.{noted_tree, touches}
use Rattle.select.specs.declared.Selection.{Selection}
use Rattle.select.specs.declared.Item.{Item}
use Rattle.select.specs.declared.Item.TheVariants.{A, B, C, Action, Identifier}
use Rattle.select.specs.declared.Each.{Each}
use Rattle.select.specs.declared.Each.TheVariants.{One, Defined, Witness, Touched}
use Rattle.select.specs.Selection.{action_row, selects}

module _ (t : Rows) where
  -- the number that a row of an event gives: an item, or the root of an entry
  abbrev pub item_at : Item → ℕ → ℕ → ℕ
  item_at A e i = t.a i
  item_at B e i = t.b i
  item_at C e i = t.c i
  item_at Action e i = t.c (action_row t e (i + 1))
  item_at Identifier e i = i + 1

  -- one where the formula of a node divides
  abbrev pub divisions : ℕ → ℕ
  divisions n = one_if (divides (noted_tree t n))

  -- how many there are of the row i: "each witness's WD then WFIS", and WD and INV where they are not dropped
  abbrev pub weight : Each → ℕ → ℕ
  weight One i = 1
  weight (Defined item e) i = divisions (item_at item e i)
  weight Witness i = divisions (t.c i) + 1
  weight (Touched e) i = one_if (touches t e (t.a i))

  unfoldable pub count_at : Selection → Each → ℕ → ℕ
  count_at rows each i = pick (selects t rows i) (weight each i) 0

-- Row 80 of a sequent that a slot holds: its kind and its item.
use Rattle.std.specs.Prelude.{ℕ, Bool, ◌&&◌, eqb}
use Rattle.lists.specs.Choice.{pick}
use Rattle.table.specs.Rows.{Rows}
use Rattle.sequent.specs.Sequent.{WFIS}
use Rattle.select.specs.Each.{item_at, divisions}
use Rattle.groups.specs.Groups.{witness_group, group_at}

module _ (t : Rows) where
  -- "each witness's WD then WFIS": the sequent w of a witness's row, counted from 0, is its WFIS
  abbrev pub is_wfis : ℕ → ℕ → ℕ → Bool
  is_wfis g i w = eqb g witness_group && eqb w (divisions t (t.c i))

  -- the kind and the item of row 80
  unfoldable pub header_kind : ℕ → ℕ → ℕ → ℕ → ℕ
  header_kind e g i w = pick (is_wfis g i w) WFIS (group_at t e g).kind

  unfoldable pub header_item : ℕ → ℕ → ℕ → ℕ → ℕ
  header_item e g i w = pick (is_wfis g i w) (t.b i) (item_at t (group_at t e g).item e i)

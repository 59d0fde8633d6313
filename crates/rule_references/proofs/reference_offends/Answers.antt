-- A node by its columns, a row that names a root by its target and its root, and no other row (Parts).
use Prim.Native.Nat.{ℕ}
use mathlib.Core.Path.{ap, ap₂, sym, ◌∙◌}
use mathlib.Core.Bool.{Bool, not, ◌&&◌}
use Rattle.table.specs.Rows.{Rows, rows_of, named}
use Rattle.rules.specs.Sorts.{shape_of}
use Rattle.rules.specs.Rules.{good_columns, good_target, root_at, reference_offends}
use Rattle.operators.proofs.Found.{shape_found}
use Rattle.rule_references.proofs.Parts.{node_part, root_part, no_part}
use Rattle.rule_references.proofs.reference_offends.Goals as goal

module _ (t : Rows) (i : ℕ) where
  abbrev columns : Bool
  columns = good_columns t (shape_of (t.a i)) i

  abbrev fitting : Bool
  fitting = good_target t i && named t 20 (root_at t i)

pub returns-then-tag_at-eq-NODE : goal.returns-then-tag_at-eq-NODE
unfolding reference_offends
returns-then-tag_at-eq-NODE c =
    let a = c.args in
    let t = rows_of a.table.now.words.now in
    let shape = shape_found c.find_operator-found.result c.a_at.result c.find_operator-found.ensures ∙ ap shape_of c.a_at.ensures in
    ap not (c.good_columns.ensures ∙ ap (λ s. good_columns t s a.i) shape)
    ∙ sym (node_part t a.i (columns t a.i) (fitting t a.i) (sym c.tag_at.ensures ∙ c.if-tag_at-eq-NODE.true))

pub returns-then-not-names_root : goal.returns-then-not-names_root
unfolding reference_offends
returns-then-not-names_root c =
    let a = c.args in
    let t = rows_of a.table.now.words.now in
    sym (no_part t a.i (columns t a.i) (fitting t a.i) (λ e. c.if-tag_at-eq-NODE.false (c.tag_at.ensures ∙ e)) (sym c.names_root.ensures ∙ c.if-not-names_root.true))

pub returns : goal.returns
unfolding reference_offends
returns c =
    let a = c.args in
    let t = rows_of a.table.now.words.now in
    ap₂ (λ x y. not (x && y)) c.good_target.ensures (c.named_node.ensures ∙ ap (named t 20) c.root_at.ensures)
    ∙ sym (root_part t a.i (columns t a.i) (fitting t a.i) (λ e. c.if-tag_at-eq-NODE.false (c.tag_at.ensures ∙ e)) (sym c.names_root.ensures ∙ c.if-not-names_root.false))

-- A node by its operands, a row that names a root by its root, and no other row (Sorts).
use mathlib.Core.Path.{ap, ap₂, sym, ◌∙◌}
use mathlib.Core.Bool.{not}
use lib.Dec.{eqb}
use Rattle.table.specs.Rows.{rows_of}
use Rattle.rules.specs.Sorts.{sort_of}
use Rattle.rule_sorts.proofs.Sorts.{sort_node, sort_root, sort_none}
use Rattle.rule_sorts.proofs.sort_offends.Goals as goal

pub returns-then-tag_at-eq-NODE : goal.returns-then-tag_at-eq-NODE
returns-then-tag_at-eq-NODE c =
    let a = c.args in
    ap not c.good_operands.ensures ∙ sym (sort_node (rows_of a.table.now.words.now) a.i (sym c.tag_at.ensures ∙ c.if-tag_at-eq-NODE.true))

pub returns-then-not-names_root : goal.returns-then-not-names_root
returns-then-not-names_root c =
    let a = c.args in
    sym (sort_none (rows_of a.table.now.words.now) a.i (λ e. c.if-tag_at-eq-NODE.false (c.tag_at.ensures ∙ e)) (sym c.names_root.ensures ∙ c.if-not-names_root.true))

pub returns : goal.returns
returns c =
    let a = c.args in
    let t = rows_of a.table.now.words.now in
    ap₂ (λ x y. not (eqb x y)) (c.sort_of.ensures ∙ ap (sort_of t) c.root_at.ensures) c.root_sort.ensures
    ∙ sym (sort_root t a.i (λ e. c.if-tag_at-eq-NODE.false (c.tag_at.ensures ∙ e)) (sym c.names_root.ensures ∙ c.if-not-names_root.false))

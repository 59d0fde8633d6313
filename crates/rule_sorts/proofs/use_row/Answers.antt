-- By the tag (Uses): the operands of a node, as many as its operator has, or the root.
use Prim.Native.Nat.{ℕ, ◌+◌, ◌<◌, ◌^◌}
use mathlib.Core.Path.{◌≡◌, ap, ap₂, sym, subst, ◌∙◌}
use lib.Dec.{ltb}
use lib.ListN.{get_or}
use Rattle.table.specs.Rows.{rows_of}
use Rattle.rules.specs.Sorts.{shape_of, operand_count}
use Rattle.operators.proofs.Found.{shape_found}
use Rattle.rule_sorts.specs.Uses.{used_if, UsedTo}
use Rattle.rule_sorts.proofs.Uses.{used_fit, left_fit, node_used, root_used}
use Rattle.rule_sorts.proofs.use_row.Goals as goal

pub use_if-requires : goal.use_if-requires
use_if-requires c =
    used_fit (rows_of c.args.words.now) c.args.i c.requires.1 c.args.uses.now c.requires.0

pub use_if-requires-then-tag_at-eq-NODE : goal.use_if-requires-then-tag_at-eq-NODE
use_if-requires-then-tag_at-eq-NODE c =
    let t = rows_of c.args.words.now in
    let i = c.args.i in
    let count : c.operand_count-count.result ≡ operand_count (shape_of (t.a i)) =
    c.operand_count-count.ensures ∙ ap operand_count (shape_found c.find_operator-found.result c.a_at.result c.find_operator-found.ensures ∙ ap shape_of c.a_at.ensures) in
    let left = c.use_if.ensures ∙ ap₂ (λ k b. used_if (ltb 0 k) b c.args.uses.now) count c.b_at.ensures in
    let node = sym c.tag_at.ensures ∙ c.if-tag_at-eq-NODE.true in
    subst (λ l. (k : ℕ) → get_or l k 0 < 2 ^ 63) (sym left) (left_fit t i c.requires.1 c.args.uses.now c.requires.0 node)

pub returns-then-tag_at-eq-NODE : goal.returns-then-tag_at-eq-NODE
returns-then-tag_at-eq-NODE c =
    let t = rows_of c.args.words.now in
    let i = c.args.i in
    let count : c.operand_count-count.result ≡ operand_count (shape_of (t.a i)) =
    c.operand_count-count.ensures ∙ ap operand_count (shape_found c.find_operator-found.result c.a_at.result c.find_operator-found.ensures ∙ ap shape_of c.a_at.ensures) in
    let left = c.use_if.ensures ∙ ap₂ (λ k b. used_if (ltb 0 k) b c.args.uses.now) count c.b_at.ensures in
    let both = c.use_if-then-tag_at-eq-NODE.ensures ∙ ap₂ (λ k l. used_if (ltb 1 k) c.c_at.result l) count left ∙ ap (λ x. used_if (ltb 1 (operand_count (shape_of (t.a i)))) x (used_if (ltb 0 (operand_count (shape_of (t.a i)))) (t.b i) c.args.uses.now)) c.c_at.ensures in
    let node = sym c.tag_at.ensures ∙ c.if-tag_at-eq-NODE.true in
    subst (UsedTo t (i + 1)) (sym both) (node_used t i c.requires.1 c.args.uses.now c.requires.0 node)

pub use_if-requires-2 : goal.use_if-requires-2
use_if-requires-2 c =
    used_fit (rows_of c.args.words.now) c.args.i c.requires.1 c.args.uses.now c.requires.0

pub returns : goal.returns
returns c =
    let t = rows_of c.args.words.now in
    let i = c.args.i in
    let one = c.use_if-2.ensures ∙ ap₂ (λ b n. used_if b n c.args.uses.now) c.names_root.ensures c.root_at.ensures in
    subst (UsedTo t (i + 1)) (sym one) (root_used t i c.requires.1 c.args.uses.now c.requires.0 (λ e. c.if-tag_at-eq-NODE.false (c.tag_at.ensures ∙ e)))

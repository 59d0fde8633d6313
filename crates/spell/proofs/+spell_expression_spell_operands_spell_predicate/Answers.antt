-- A node's operands have smaller numbers; its row and then their rows are its own.
use mathlib.Core.Path.{sym, ap}
use native.Mathlib.Omega.{arith}
use Rattle.table.specs.Rows.{rows_of}
use Rattle.spell.specs.Spell.{operand_rows, shown_rows}
use Rattle.spell.proofs.Nodes.{operands_two, shown_read, above_falls}
use Rattle.spell.proofs.Written.{spelled_none, spelled_join, spelled_as}
use Rattle.spell.proofs.+spell_expression_spell_operands_spell_predicate.Goals as goal

pub spell_expression-spell_operands-operands-requires : goal.spell_expression-spell_operands-operands-requires
spell_expression-spell_operands-operands-requires t c =
    let a = c.args in
    let d = c.node_at-node in
    (omega (arith, above_falls (rows_of a.table.now.words.now) a.primed a.n d.result d.ensures, c.decreases), tt)

pub spell_expression-returns : goal.spell_expression-returns
spell_expression-returns t c =
    let a = c.args in
    let d = c.node_at-node in
    spelled_as (shown_read (rows_of a.table.now.words.now) a.primed a.n d.result d.ensures)
    (spelled_join (omega (arith, c.well_formed)) (omega arith) c.row_83-head.ensures c.rest_start-at.ensures.value c.spell_operands-operands.ensures c.add_rows.ensures)

pub spell_operands-returns-then-node-eq0 : goal.spell_operands-returns-then-node-eq0
spell_operands-returns-then-node-eq0 t c =
    let d = c.args.node in
    let rows = shown_rows (rows_of c.args.table.now.words.now) c.args.primed in
    spelled_as (ap (λ k. operand_rows k (rows d.left) (rows d.right)) (sym c.if-node-eq0.true)) (spelled_none c.args.out.now)

pub spell_operands-returns : goal.spell_operands-returns
spell_operands-returns t c =
    let d = c.args.node in
    let rows = shown_rows (rows_of c.args.table.now.words.now) c.args.primed in
    spelled_as (operands_two d.operands (rows d.left) (rows d.right) c.if-node-eq0.false c.if-node-eq1.false)
    (spelled_join (omega (arith, c.well_formed)) (omega arith) c.spell_expression-left.ensures c.rest_start-at.ensures.value c.spell_expression-right.ensures c.add_rows.ensures)

pub spell_predicate-spell_operands-operands-requires : goal.spell_predicate-spell_operands-operands-requires
spell_predicate-spell_operands-operands-requires t c =
    let a = c.args in
    let d = c.node_at-node in
    (omega (arith, above_falls (rows_of a.table.now.words.now) a.primed a.n d.result d.ensures, c.decreases), tt)

pub spell_predicate-returns : goal.spell_predicate-returns
spell_predicate-returns t c =
    let a = c.args in
    let d = c.node_at-node in
    spelled_as (shown_read (rows_of a.table.now.words.now) a.primed a.n d.result d.ensures)
    (spelled_join (omega (arith, c.well_formed)) (omega arith) c.row_83-head.ensures c.rest_start-at.ensures.value c.spell_operands-operands.ensures c.add_rows.ensures)

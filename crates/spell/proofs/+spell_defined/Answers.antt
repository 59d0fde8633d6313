-- The operands' WD is spelled below the node's measure; the rows, joined in order, are the node's WD.
use mathlib.Core.Bool.{false}
use native.Mathlib.Omega.{arith}
use Rattle.table.specs.Rows.{rows_of}
use Rattle.spell.proofs.Nodes.{left_below, right_below, above_falls}
use Rattle.spell.proofs.Defined.{defined_none, defined_one, defined_two}
use Rattle.spell.proofs.Written.{spelled_join, spelled_as}
use Rattle.spell.proofs.+spell_defined.Goals as goal

pub returns-then-node-eq0 : goal.returns-then-node-eq0
returns-then-node-eq0 t c =
    let d = c.node_at-node in
    spelled_as (defined_none (rows_of c.args.table.now.words.now) c.args.n d.result d.ensures c.if-node-eq0.true) c.row_83.ensures

pub spell_defined-requires : goal.spell_defined-requires
spell_defined-requires t c =
    let d = c.node_at-node in
    (omega (arith, left_below d.result c.if-node-eq0.false, above_falls (rows_of c.args.table.now.words.now) false c.args.n d.result d.ensures, c.decreases), tt)

pub returns-then-node-eq1 : goal.returns-then-node-eq1
returns-then-node-eq1 t c =
    let d = c.node_at-node in
    spelled_as (defined_one (rows_of c.args.table.now.words.now) c.args.n d.result d.ensures c.if-node-eq1.true) c.spell_defined.ensures

pub spell_defined-left-requires : goal.spell_defined-left-requires
spell_defined-left-requires t c =
    let d = c.node_at-node in
    (omega (arith, left_below d.result c.if-node-eq0.false, above_falls (rows_of c.args.table.now.words.now) false c.args.n d.result d.ensures, c.decreases), tt)

pub spell_defined-right-requires : goal.spell_defined-right-requires
spell_defined-right-requires t c =
    let d = c.node_at-node in
    (omega (arith, right_below d.result c.if-node-eq0.false, above_falls (rows_of c.args.table.now.words.now) false c.args.n d.result d.ensures, c.decreases), tt)

pub returns : goal.returns
returns t c =
    let d = c.node_at-node in
    let w = rows_of c.args.table.now.words.now in
    let j1 = spelled_join (omega (arith, c.well_formed)) (omega arith) c.spell_opening-opening.ensures c.rest_start-left_at.ensures.value c.spell_defined-left.ensures c.add_rows-to_left.ensures in
    let j2 = spelled_join (omega (arith, c.well_formed)) (omega arith) j1 c.rest_start-guard_at.ensures.value c.spell_guard-guard.ensures c.add_rows-to_guard.ensures in
    let j3 = spelled_join (omega (arith, c.well_formed)) (omega arith) j2 c.rest_start-right_at.ensures.value c.spell_defined-right.ensures c.add_rows-to_right.ensures in
    spelled_as (defined_two w c.args.n d.result d.ensures c.if-node-eq0.false c.if-node-eq1.false)
    (spelled_join (omega (arith, c.well_formed)) (omega arith) j3 c.rest_start-closing_at.ensures.value c.spell_closing-closing.ensures c.add_rows.ensures)

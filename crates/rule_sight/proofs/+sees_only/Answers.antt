-- By the case of the operator's shape.
use mathlib.Core.Path.{refl, ap, ap₂, ◌∙◌}
use mathlib.Core.Bool.{◌&&◌}
use Rattle.table.specs.Rows.{rows_of}
use Rattle.rules.specs.Sight.{may_mention, may_mention_after}
use Rattle.operators.specs.declared.Shape.TheVariants as shape
use Rattle.rule_sight.proofs.Walk.{operand_seen, sees_none, sees_found}
use Rattle.rule_sight.proofs.+sees_only.Goals as goal

pub returns-then-n-eq0 : goal.returns-then-n-eq0
returns-then-n-eq0 t c = rw c.if-n-eq0.true (sees_none (rows_of c.args.table.now.words.now) c.args.i)

pub returns-in-Value : goal.returns-in-Value
returns-in-Value t c =
    sees_found (rows_of c.args.table.now.words.now) c.args.i c.args.n _ c.if-n-eq0.false
    c.find_operator-found.result c.node_field.result c.find_operator-found.ensures c.node_field.ensures shape.Value c.in-Value.is refl

pub returns-in-Identifier : goal.returns-in-Identifier
returns-in-Identifier t c =
    let a = c.args in
    sees_found (rows_of a.table.now.words.now) a.i a.n _ c.if-n-eq0.false
    c.find_operator-found.result c.node_field.result c.find_operator-found.ensures c.node_field.ensures shape.Identifier c.in-Identifier.is
    (c.may_mention.ensures ∙ ap (may_mention (rows_of a.table.now.words.now) a.i) c.node_field-b.ensures)

pub returns-in-Variable : goal.returns-in-Variable
returns-in-Variable t c =
    let a = c.args in
    sees_found (rows_of a.table.now.words.now) a.i a.n _ c.if-n-eq0.false
    c.find_operator-found.result c.node_field.result c.find_operator-found.ensures c.node_field.ensures shape.Variable c.in-Variable.is
    (c.may_mention_after.ensures ∙ ap (may_mention_after (rows_of a.table.now.words.now) a.i) c.node_field-b.ensures)

pub returns-in-NoOperand : goal.returns-in-NoOperand
returns-in-NoOperand t c =
    sees_found (rows_of c.args.table.now.words.now) c.args.i c.args.n _ c.if-n-eq0.false
    c.find_operator-found.result c.node_field.result c.find_operator-found.ensures c.node_field.ensures shape.NoOperand c.in-NoOperand.is refl

pub returns-in-OneOperand : goal.returns-in-OneOperand
returns-in-OneOperand t c =
    let a = c.args in
    sees_found (rows_of a.table.now.words.now) a.i a.n _ c.if-n-eq0.false
    c.find_operator-found.result c.node_field.result c.find_operator-found.ensures c.node_field.ensures shape.OneOperand c.in-OneOperand.is
    (operand_seen (rows_of a.table.now.words.now) a.i a.n c.sees_only.ensures c.operand.ensures c.node_field-b.ensures)

pub returns-in-TwoOperands : goal.returns-in-TwoOperands
returns-in-TwoOperands t c =
    let a = c.args in
    let w = rows_of a.table.now.words.now in
    sees_found w a.i a.n _ c.if-n-eq0.false
    c.find_operator-found.result c.node_field.result c.find_operator-found.ensures c.node_field.ensures shape.TwoOperands c.in-TwoOperands.is
    (ap₂ ◌&&◌ (operand_seen w a.i a.n c.sees_only-in-TwoOperands.ensures c.operand-in-TwoOperands.ensures c.node_field-b.ensures)
    (operand_seen w a.i a.n c.sees_only-in-TwoOperands-2.ensures c.operand-in-TwoOperands-2.ensures c.node_field-c.ensures))

pub returns-in-Unknown : goal.returns-in-Unknown
returns-in-Unknown t c =
    sees_found (rows_of c.args.table.now.words.now) c.args.i c.args.n _ c.if-n-eq0.false
    c.find_operator-found.result c.node_field.result c.find_operator-found.ensures c.node_field.ensures shape.Unknown c.in-Unknown.is refl

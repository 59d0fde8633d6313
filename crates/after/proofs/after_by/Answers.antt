-- By the row of the action: none, a 51 or a 52.
use mathlib.Core.Path.{sym, ap, ◌∙◌}
use native.Mathlib.Omega.{arith}
use mathlib.Core.List.{[]}
use Rattle.answer.specs.Answer.{answer}
use Rattle.answer.specs.Stored.{stored_env}
use Rattle.table.specs.Rows.{rows_of}
use Rattle.machine.specs.Described.{tree_of, machine_of}
use Rattle.signed.proofs.Numbers.{seen_is}
use Rattle.values.specs.Values.{values_of}
use Rattle.bench.specs.Press.{answered}
use Rattle.after.proofs.Completed.{unassigned_after, equal_after, such_after}
use Rattle.after.proofs.after_by.Goals as goal

pub returns-then-size-i : goal.returns-then-size-i
returns-then-size-i c =
    seen_is c.value_at.result c.value_at.type_inv c.value_at.ensures
    ∙ unassigned_after (rows_of c.args.scanned.now.table.words.now) c.args.e (values_of c.args.present.now c.args.after.now) c.args.x c.action_row-i.result c.action_row-i.ensures
    (omega (arith, c.size.ensures, c.if-size-i.true))

pub returns-then-tag_at-eq-BECOMES_EQUAL : goal.returns-then-tag_at-eq-BECOMES_EQUAL
returns-then-tag_at-eq-BECOMES_EQUAL c =
    let t = rows_of c.args.scanned.now.table.words.now in
    seen_is c.equal_after.result c.equal_after.type_inv (c.equal_after.ensures ∙ ap (λ n. answered (answer (stored_env (machine_of t).type c.args.present.now []) (tree_of t n))) c.c_at.ensures)
    ∙ equal_after t c.args.e (values_of c.args.present.now c.args.after.now) c.args.x c.action_row-i.result c.action_row-i.ensures
    (omega (arith, c.size.ensures, c.if-size-i.false)) (sym c.tag_at.ensures ∙ c.if-tag_at-eq-BECOMES_EQUAL.true)

pub returns : goal.returns
returns c =
    let t = rows_of c.args.scanned.now.table.words.now in
    seen_is c.value_at-2.result c.value_at-2.type_inv c.value_at-2.ensures
    ∙ such_after t c.args.e (values_of c.args.present.now c.args.after.now) c.args.x c.action_row-i.result c.action_row-i.ensures
    (omega (arith, c.size.ensures, c.if-size-i.false)) (λ z. c.if-tag_at-eq-BECOMES_EQUAL.false (c.tag_at.ensures ∙ z))

-- By the row of the action: none, a 51 or a 52.
use mathlib.Core.Path.{sym, ap, ap₂, ◌∙◌}
use mathlib.Core.Bool.{true}
use native.Mathlib.Omega.{arith}
use Rattle.formula.specs.Values.{truth}
use Rattle.answer.specs.Answer.{answer}
use Rattle.answer.specs.Stored.{stored_env}
use Rattle.table.specs.Rows.{rows_of}
use Rattle.table.proofs.Counts.{starts_nodes, starts_identifiers}
use Rattle.machine.specs.Described.{tree_of, machine_of}
use Rattle.signed.specs.Found.{answer_of}
use Rattle.signed.proofs.Answers.{answer_found}
use Rattle.recording.specs.Faults.{differs, fault_of}
use Rattle.judge.proofs.Stored.{stored_value_is}
use Rattle.judge.proofs.Steps.{unassigned_fault, equal_fault, such_fault}
use Rattle.judge.proofs.action_fault.Goals as goal

pub invariant_of-env : goal.invariant_of-env
invariant_of-env c =
    let table = c.args.scanned.now.table in
    let t = rows_of table.words.now in
    record { nodes_start = starts_nodes t table.counts table.counted; identifiers_start = starts_identifiers t table.counts table.counted }

pub invariant_of-env-2 : goal.invariant_of-env-2
invariant_of-env-2 c =
    let table = c.args.scanned.now.table in
    let t = rows_of table.words.now in
    record { nodes_start = starts_nodes t table.counts table.counted; identifiers_start = starts_identifiers t table.counts table.counted }

pub returns-then-size-i : goal.returns-then-size-i
returns-then-size-i c =
    let t = rows_of c.args.scanned.now.table.words.now in
    let v = stored_value_is c.identifier_field-sort.ensures c.value_at.result c.value_at.type_inv c.value_at.ensures c.stored_value-moved.ensures in
    let w = stored_value_is c.identifier_field-sort.ensures c.value_at-then-size-i.result c.value_at-then-size-i.type_inv c.value_at-then-size-i.ensures c.stored_value.ensures in
    c.differs.ensures ∙ ap₂ differs v w
    ∙ unassigned_fault t c.args.e c.args.present.now c.args.after.now c.args.x c.action_row-i.result c.action_row-i.ensures (omega (arith, c.size.ensures, c.if-size-i.true))

pub returns-then-tag_at-eq-BECOMES_EQUAL : goal.returns-then-tag_at-eq-BECOMES_EQUAL
returns-then-tag_at-eq-BECOMES_EQUAL c =
    let t = rows_of c.args.scanned.now.table.words.now in
    let ρ = stored_env (machine_of t).type c.args.present.now c.args.after.now in
    let v = stored_value_is c.identifier_field-sort.ensures c.value_at.result c.value_at.type_inv c.value_at.ensures c.stored_value-moved.ensures in
    let w = ap answer_of c.evaluate_expression-found.ensures ∙ answer_found (answer ρ (tree_of t c.c_at-root.result)) ∙ ap (λ n. answer ρ (tree_of t n)) c.c_at-root.ensures in
    c.fault_of.ensures ∙ ap₂ fault_of v w
    ∙ equal_fault t c.args.e c.args.present.now c.args.after.now c.args.x c.action_row-i.result c.action_row-i.ensures (omega (arith, c.size.ensures, c.if-size-i.false)) (sym c.tag_at.ensures ∙ c.if-tag_at-eq-BECOMES_EQUAL.true)

pub returns : goal.returns
returns c =
    let t = rows_of c.args.scanned.now.table.words.now in
    let ρ = stored_env (machine_of t).type c.args.present.now c.args.after.now in
    let w = ap answer_of c.evaluate_predicate-met.ensures ∙ answer_found (answer ρ (tree_of t c.c_at-root.result)) ∙ ap (λ n. answer ρ (tree_of t n)) c.c_at-root.ensures in
    c.fault_of-2.ensures ∙ ap (fault_of (truth true)) w
    ∙ such_fault t c.args.e c.args.present.now c.args.after.now c.args.x c.action_row-i.result c.action_row-i.ensures (omega (arith, c.size.ensures, c.if-size-i.false)) (λ z. c.if-tag_at-eq-BECOMES_EQUAL.false (c.tag_at.ensures ∙ z))

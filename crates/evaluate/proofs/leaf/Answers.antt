-- By the row of each operator.
use Rattle.table.specs.Rows.{rows_of}
use Rattle.machine.specs.Described.{machine_of}
use Rattle.answer.specs.Stored.{stored_env}
use Rattle.signed.specs.Found.{found_of}
use Rattle.signed.proofs.Numbers.{seen_is}
use Rattle.evaluate.specs.Evaluate.{leaf_answer}
use Rattle.evaluate.proofs.Numbered.{numbered_at}
use Rattle.evaluate.proofs.Leaves.{literal_leaf, identifier_leaf, after_leaf, true_leaves, false_leaves}
use Rattle.evaluate.proofs.leaf.Goals as goal

pub returns-in-1 : goal.returns-in-1
returns-in-1 c =
    let a = c.args in
    let rows = rows_of a.env.now.words.now in
    let present = a.env.now.present.now in
    let after = a.env.now.after.now in
    let ρ = stored_env (machine_of rows).type present after in
    numbered_at (λ o. found_of (leaf_answer ρ o a.b)) 1 c.in-1.is
    (literal_leaf rows present after a.b c.of_word.result c.of_word.type_inv c.of_word.ensures)

pub returns-in-2 : goal.returns-in-2
returns-in-2 c =
    let a = c.args in
    let rows = rows_of a.env.now.words.now in
    let present = a.env.now.present.now in
    let after = a.env.now.after.now in
    let ρ = stored_env (machine_of rows).type present after in
    numbered_at (λ o. found_of (leaf_answer ρ o a.b)) 2 c.in-2.is
    (identifier_leaf rows present after a.b _ _ c.stored_value.ensures c.identifier_field-sort.ensures
    (seen_is c.value_at.result c.value_at.type_inv c.value_at.ensures))

pub returns-in-3 : goal.returns-in-3
returns-in-3 c =
    let a = c.args in
    let rows = rows_of a.env.now.words.now in
    let present = a.env.now.present.now in
    let after = a.env.now.after.now in
    let ρ = stored_env (machine_of rows).type present after in
    numbered_at (λ o. found_of (leaf_answer ρ o a.b)) 3 c.in-3.is
    (after_leaf rows present after a.b _ _ c.stored_value-in-3.ensures c.identifier_field-sort-in-3.ensures
    (seen_is c.value_at-in-3.result c.value_at-in-3.type_inv c.value_at-in-3.ensures))

pub returns-in-4 : goal.returns-in-4
returns-in-4 c =
    let a = c.args in
    true_leaves (stored_env (machine_of (rows_of a.env.now.words.now)).type a.env.now.present.now a.env.now.after.now) a.operator a.b c.in-4.is

pub returns-in_default : goal.returns-in_default
returns-in_default c =
    let a = c.args in
    false_leaves (stored_env (machine_of (rows_of a.env.now.words.now)).type a.env.now.present.now a.env.now.after.now) a.operator a.b c.in_default.in_default-own.rest

-- The formula's answer is the definition's, at no after values.
use mathlib.Core.Path.{ap, ◌∙◌}
use mathlib.Core.Bool.{true}
use mathlib.Core.List.{[]}
use Rattle.formula.specs.Values.{truth}
use Rattle.answer.specs.Answer.{answer}
use Rattle.answer.specs.Stored.{stored_env}
use Rattle.table.specs.Rows.{rows_of}
use Rattle.table.proofs.Counts.{starts_nodes, starts_identifiers}
use Rattle.machine.specs.Described.{tree_of, machine_of}
use Rattle.signed.specs.Found.{answer_of}
use Rattle.signed.proofs.Answers.{answer_found}
use Rattle.recording.specs.Faults.{fault_of}
use Rattle.judge.proofs.Steps.{root_fault_is}
use Rattle.judge.proofs.root_fault.Goals as goal

pub invariant_of-env : goal.invariant_of-env
invariant_of-env c =
    let table = c.args.table.now in
    let t = rows_of table.words.now in
    record { nodes_start = starts_nodes t table.counts table.counted; identifiers_start = starts_identifiers t table.counts table.counted }

pub returns : goal.returns
returns c =
    let t = rows_of c.args.table.now.words.now in
    c.fault_of.ensures ∙ ap (fault_of (truth true)) (ap answer_of c.evaluate_predicate-found.ensures ∙ answer_found (answer (stored_env (machine_of t).type c.args.present.now []) (tree_of t c.args.root))) ∙ root_fault_is t c.args.present.now c.args.root

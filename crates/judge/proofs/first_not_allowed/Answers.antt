use mathlib.Core.Path.{◌∙◌}
use Rattle.table.specs.Rows.{rows_of}
use Rattle.table.proofs.Counts.{counts_identifiers}
use Rattle.judge.proofs.Faults.{is_fault, handed_on}
use Rattle.judge.proofs.Rows.{variable_found, variables_none}
use Rattle.judge.proofs.first_not_allowed.Goals as goal

pub returns-in_err-variable_fault : goal.returns-in_err-variable_fault
returns-in_err-variable_fault c =
    let t = rows_of c.args.scanned.now.table.words.now in
    let fault = c.in_err-variable_fault.ensures in
    let found = variable_found t c.args.present.now c.args.after.now c.args.e (counts_identifiers t c.args.scanned.now.table.counts c.args.scanned.now.table.counted) c.loop-x.x c.loop-x.invariant c.loop-x-test.true (is_fault _ fault) in
    handed_on c.from_residual.result _ c.from_residual.ensures.1 (fault ∙ found)

pub returns : goal.returns
returns c =
    let t = rows_of c.args.scanned.now.table.words.now in
    variables_none t c.args.present.now c.args.after.now c.args.e (counts_identifiers t c.args.scanned.now.table.counts c.args.scanned.now.table.counted) c.loop-x.x c.loop-x.invariant c.loop-x-test.false

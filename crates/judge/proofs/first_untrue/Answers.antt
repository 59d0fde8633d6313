use mathlib.Core.Path.{◌∙◌}
use Rattle.table.specs.Rows.{rows_of}
use Rattle.judge.proofs.Faults.{is_fault, handed_on}
use Rattle.judge.proofs.Rows.{before_span, fault_found, no_fault_lem}
use Rattle.judge.proofs.first_untrue.Goals as goal

pub loop-i-init : goal.loop-i-init
loop-i-init c =
    before_span (rows_of c.args.scanned.now.table.words.now) c.args.present.now c.args.tag c.args.e c.requires c.span_at-span.ensures

pub returns-in_err-row_fault : goal.returns-in_err-row_fault
returns-in_err-row_fault c =
    let t = rows_of c.args.scanned.now.table.words.now in
    let fault = c.in_err-row_fault.ensures in
    let found = fault_found t c.args.present.now c.args.tag c.args.e c.requires c.span_at-span.ensures c.loop-i.i c.loop-i.invariant c.loop-i-test.true (is_fault _ fault) in
    handed_on c.from_residual.result _ c.from_residual.ensures.1 (fault ∙ found)

pub returns : goal.returns
returns c =
    no_fault_lem (rows_of c.args.scanned.now.table.words.now) c.args.present.now c.args.tag c.args.e c.requires c.span_at-span.ensures c.loop-i.i c.loop-i.invariant c.loop-i-test.false

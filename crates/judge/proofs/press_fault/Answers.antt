-- The first fault of the axioms, else of the step.
use mathlib.Core.Path.{refl, sym, ◌∙◌}
use Rattle.table.specs.Rows.{rows_of}
use Rattle.recording.specs.Faults.{step_fault}
use Rattle.judge.proofs.Faults.{is_fault, handed_on}
use Rattle.judge.proofs.Steps.{press_faults, former, latter}
use Rattle.judge.proofs.press_fault.Goals as goal

pub returns-in_err-first_untrue : goal.returns-in_err-first_untrue
returns-in_err-first_untrue c =
    let t = rows_of c.args.scanned.now.table.words.now in
    handed_on c.from_residual.result _ c.from_residual.ensures.1
    (former (step_fault t c.args.e c.args.present.now c.args.after.now) c.in_err-first_untrue.ensures (is_fault _ refl)
    ∙ sym (press_faults t c.args.e c.args.present.now c.args.after.now))

pub returns : goal.returns
returns c =
    let t = rows_of c.args.scanned.now.table.words.now in
    c.step_fault.ensures ∙ latter (step_fault t c.args.e c.args.present.now c.args.after.now) c.in_ok-first_untrue.ensures refl
    ∙ sym (press_faults t c.args.e c.args.present.now c.args.after.now)

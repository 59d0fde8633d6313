-- The first fault of the axioms, else of the guards, else of the variables.
use mathlib.Core.Path.{refl, sym, ◌∙◌}
use Rattle.table.specs.Rows.{rows_of}
use Rattle.judge.specs.Judge.{first_untrue, first_not_allowed}
use Rattle.judge.proofs.Faults.{is_fault, handed_on}
use Rattle.judge.proofs.Steps.{step_faults, first_of, second_of, third_of}
use Rattle.judge.proofs.step_fault.Goals as goal

pub returns-in_err-axiom_fault : goal.returns-in_err-axiom_fault
returns-in_err-axiom_fault c =
    let t = rows_of c.args.scanned.now.table.words.now in
    let actions = first_not_allowed t c.args.present.now c.args.after.now c.args.e in
    let first = c.in_err-axiom_fault.ensures in
    handed_on c.from_residual.result _ c.from_residual.ensures.1
    (first_of actions first (first_untrue t c.args.present.now 50 c.args.e) (is_fault _ refl)
    ∙ sym (step_faults t c.args.e c.args.present.now c.args.after.now))

pub returns-in_err-first_untrue : goal.returns-in_err-first_untrue
returns-in_err-first_untrue c =
    let t = rows_of c.args.scanned.now.table.words.now in
    let actions = first_not_allowed t c.args.present.now c.args.after.now c.args.e in
    let guard = c.in_err-first_untrue.ensures in
    handed_on c.from_residual-in_err-first_untrue.result _ c.from_residual-in_err-first_untrue.ensures.1
    (second_of actions c.in_ok-axiom_fault.ensures refl guard (is_fault _ refl)
    ∙ sym (step_faults t c.args.e c.args.present.now c.args.after.now))

pub returns : goal.returns
returns c =
    let t = rows_of c.args.scanned.now.table.words.now in
    let actions = first_not_allowed t c.args.present.now c.args.after.now c.args.e in
    c.first_not_allowed.ensures
    ∙ third_of actions c.in_ok-axiom_fault.ensures refl c.in_ok-first_untrue.ensures refl
    ∙ sym (step_faults t c.args.e c.args.present.now c.args.after.now)

-- What is loaded, pressed and stored is what pressing makes of the records (Outcomes).
use Rattle.std.proofs.Common.{◌≡◌, ap, length, ◌∙◌}
use Rattle.records.specs.declared.Done.{Done}
use Rattle.records.specs.Numbers.{few_of, loaded, pressed_of, stored}
use Rattle.records.proofs.Outcomes.{pressed_is}
use Rattle.records.proofs.press.Goals as goal

pub returns : goal.returns
returns c =
    let table = c.args.table.now in
    let step = c.args.step.now in
    let ys = c.args.state.now in
    let n = few_of (length ys) in
    let is = pressed_is table step ys in
    let done : c.pressed-done.result ≡ pressed_of table step (loaded n ys) n = c.pressed-done.ensures ∙ ap (λ all. pressed_of table step all n) c.load_state-all.ensures in (
      ap (λ (d : Done). d.reply) done ∙ is.0,
      c.store_state.ensures ∙ ap (λ (d : Done). stored d.numbers n ys) done ∙ is.1,
    )

-- What is loaded, previewed and stored is what a preview makes of the records (Outcomes).
use Rattle.std.proofs.Common.{◌≡◌, ap, ap₂, length, ◌∙◌}
use Rattle.records.specs.declared.Done.{Done}
use Rattle.records.specs.Numbers.{few_of, loaded, previewed_of, stored}
use Rattle.records.proofs.Outcomes.{previewed_is}
use Rattle.records.proofs.preview.Goals as goal

pub returns : goal.returns
returns c =
    let table = c.args.table.now in
    let step = c.args.step.now in
    let xs = c.args.first.now in
    let ys = c.args.second.now in
    let n = few_of (length xs) in
    let m = few_of (length ys) in
    let is = previewed_is table step xs ys in
    let done : c.previewed-done.result ≡ previewed_of table step (loaded n xs) n (loaded m ys) m =
    c.previewed-done.ensures ∙ ap₂ (λ from kept. previewed_of table step from n kept m) c.load_state-from.ensures c.load_state-kept.ensures in (
      ap (λ (d : Done). d.reply) done ∙ is.0,
      c.store_state.ensures ∙ ap (λ (d : Done). stored d.numbers m ys) done ∙ is.1,
    )

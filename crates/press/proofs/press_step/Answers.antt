-- By what the rows choose.
use mathlib.Core.Path.{◌≡◌, sym, ap, ◌∙◌}
use lib.ListN.{length}
use borrow.Author.Rules.{rules}
use Rattle.table.specs.Rows.{rows_of}
use Rattle.values.specs.Values.{values_of}
use Rattle.bench.specs.Press.{press_choice}
use Rattle.press.specs.Numbers.{choice_of}
use Rattle.press.proofs.Press.{refused_answers, as_answers}
use Rattle.press.proofs.press_step.Goals as goal

pub press_event-requires : goal.press_event-requires
press_event-requires c = let size : length c.choose.new.after ≡ length c.args.after.now = search rules in
    (c.requires.0, c.requires.1, size ∙ c.requires.2)

pub returns-in-None : goal.returns-in-None
returns-in-None c =
    let a = c.args in
    let us = values_of c.choose.new.present c.choose.new.after in
    let both = refused_answers a.values.now (ap (press_choice (rows_of a.scanned.now.table.words.now) a.values.now) (sym c.choose.ensures ∙ ap (λ c. choice_of c us) c.in-None.is)) in
    record { value = both.0; values_after = both.1 }

pub returns-in-Some : goal.returns-in-Some
returns-in-Some c =
    let a = c.args in
    let us = values_of c.choose.new.present c.choose.new.after in
    let both = as_answers a.values.now (ap (press_choice (rows_of a.scanned.now.table.words.now) a.values.now) (sym c.choose.ensures ∙ ap (λ c. choice_of c us) c.in-Some.is)) (c.press_event.ensures.value, c.press_event.ensures.values_after) in
    record { value = both.0; values_after = both.1 }

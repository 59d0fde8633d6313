-- By whether the row is the identifier's.
use mathlib.Core.Path.{sym, ap, ◌∙◌}
use Rattle.formula.specs.Values.{whole_number}
use Rattle.signed.proofs.Numbers.{seen_is}
use Rattle.recording.specs.Replay.{store_by}
use Rattle.values.specs.Values.{values_of}
use Rattle.values.proofs.Reading.{row_stored, row_left}
use Rattle.values.proofs.read_row.Goals as goal

pub returns-then-is_value_row : goal.returns-then-is_value_row
returns-then-is_value_row c =
    let vs = values_of c.args.present.now c.args.after.now in
    row_stored vs (sym c.is_value_row.ensures ∙ c.if-is_value_row.true)
    (c.store.ensures ∙ ap (λ z. store_by c.args.given c.args.x z vs) (seen_is c.of_word.result c.of_word.type_inv c.of_word.ensures))

pub returns : goal.returns
returns c =
    let vs = values_of c.args.present.now c.args.after.now in
    row_left (store_by c.args.given c.args.x (whole_number c.args.row.b) vs) vs (sym c.is_value_row.ensures ∙ c.if-is_value_row.false)

-- From the identifier's type.
use mathlib.Core.Path.{ap, ◌∙◌}
use mathlib.Core.Bool.{◌&&◌}
use lib.Dec.{eqb}
use Rattle.recording.specs.Rows.{is_logged}
use Rattle.values.proofs.is_value_row.Goals as goal

pub returns : goal.returns
returns c =
    let r = c.args.row in
    ap (λ b. eqb r.tag 91 && (eqb r.a c.args.x && (b && eqb r.c 0))) (c.is_logged.ensures ∙ ap (λ n. is_logged n r.b) c.identifier_field-sort.ensures)

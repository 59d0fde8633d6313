-- From what the event is.
use mathlib.Core.Path.{ap, ap₂, ◌∙◌}
use mathlib.Core.Bool.{◌&&◌, beq}
use lib.Dec.{eqb}
use Rattle.table.specs.Rows.{rows_of, named}
use Rattle.values.proofs.is_step_row.Goals as goal

pub returns : goal.returns
returns c =
    let r = c.args.row in
    let others = eqb r.b 0 && eqb r.c 0 in
    ap (λ x. eqb r.tag 90 && ((x && (eqb c.event_field-machine.result 2 && beq c.is_initial-initial.result c.args.first)) && others)) c.named_event-named.ensures
    ∙ ap₂ (λ m i. eqb r.tag 90 && ((named (rows_of c.args.table.now.words.now) 40 r.a && (eqb m 2 && beq i c.args.first)) && others)) c.event_field-machine.ensures c.is_initial-initial.ensures

use native.Mathlib.Omega.{arith}
use Rattle.table.specs.Rows.{rows_of}
use Rattle.nodes.proofs.Stored.{actions_start, actions_end}
use Rattle.nodes.proofs.note_actions.Goals as goal

pub loop-i-init : goal.loop-i-init
loop-i-init c =
    (actions_start (rows_of c.args.words.now) c.args.spans.now c.span_at-actions.result c.span_at-actions.ensures c.requires).1

pub returns : goal.returns
returns c =
    actions_end (rows_of c.args.words.now) c.loop-i.spans c.span_at-actions.result c.span_at-actions.ensures
    c.loop-i.i
    (omega (arith, (actions_start (rows_of c.args.words.now) c.args.spans.now c.span_at-actions.result c.span_at-actions.ensures c.requires).0)) c.loop-i-test.false c.loop-i.invariant

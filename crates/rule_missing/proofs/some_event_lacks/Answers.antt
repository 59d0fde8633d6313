use mathlib.Core.Path.{sym, ◌∙◌}
use native.Mathlib.Omega.{arith}
use Rattle.lists.proofs.Below.{some_passes, some_fails}
use Rattle.table.specs.Rows.{rows_of}
use Rattle.rules.specs.Rules.{event_lacks}
use Rattle.scan.proofs.Within.{spans_none}
use Rattle.rule_missing.proofs.Tests.{events_span}
use Rattle.rule_missing.proofs.some_event_lacks.Goals as goal

pub loop-i-init : goal.loop-i-init
loop-i-init c =
    (events_span (rows_of c.args.scanned.now.table.words.now) c.span_at-events.ensures).below

pub event_lacks-requires : goal.event_lacks-requires
event_lacks-requires c = omega (arith, c.loop-i-test.true, (events_span (rows_of c.args.scanned.now.table.words.now) c.span_at-events.ensures).within)

pub returns-then-event_lacks : goal.returns-then-event_lacks
returns-then-event_lacks c =
    let t = rows_of c.args.scanned.now.table.words.now in
    sym (some_passes (event_lacks t) t.size c.loop-i.i (omega (arith, c.loop-i-test.true, (events_span t c.span_at-events.ensures).within)) (sym c.event_lacks.ensures ∙ c.if-event_lacks.true))

pub returns : goal.returns
returns c =
    let t = rows_of c.args.scanned.now.table.words.now in
    sym (some_fails (event_lacks t) t.size (spans_none (event_lacks t) t.size c.span_at-events.result (events_span t c.span_at-events.ensures) c.loop-i.i c.loop-i.invariant c.loop-i-test.false))

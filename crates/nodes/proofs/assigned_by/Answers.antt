-- Above the limit nothing is noted; else what the list holds.
use native.Mathlib.Omega.{arith}
use mathlib.Core.Path.{ap, ◌∙◌}
use lib.ListN.{get_or}
use Rattle.table.specs.Rows.{rows_of}
use Rattle.nodes.proofs.Stored.{event_above}
use Rattle.nodes.proofs.assigned_by.Goals as goal

pub returns-then-event-gt-EVENTS : goal.returns-then-event-gt-EVENTS
returns-then-event-gt-EVENTS c =
    let a = c.args in
    event_above (rows_of a.rows.now.words.now) a.event c.if-event-gt-EVENTS.true

pub offset_bounds-rows-at : goal.offset_bounds-rows-at
offset_bounds-rows-at c = omega (arith, c.event_at-at.ensures.upper_bound)

pub bounds-rows-at : goal.bounds-rows-at
bounds-rows-at c =
    omega (arith, c.event_at-at.ensures.upper_bound, c.args.rows.now.noted.spanned.tags.size)

pub returns : goal.returns
returns c =
    ap (λ k. get_or c.args.rows.now.spans.now k 0) c.event_at-at.ensures.value ∙ c.args.rows.now.noted.events c.args.event c.if-event-gt-EVENTS.false

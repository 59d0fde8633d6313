-- Where the action is noted within the limits (Actions), else by a search in the span of the actions.
use Prim.Native.Nat.{◌-◌}
use mathlib.Core.Path.{sym, ap, ap₂, subst, ◌∙◌}
use native.Mathlib.Omega.{arith}
use lib.Dec.{eqb}
use lib.ListN.{get_or}
use mathlib.Core.Bool.{true}
use Rattle.lists.specs.Choice.{pick}
use Rattle.table.specs.Rows.{rows_of}
use Rattle.scan.specs.declared.Query.TheVariants.{Assigns}
use Rattle.scan.specs.Query.{passes_of}
use Rattle.scan.specs.Span.{Spans}
use Rattle.scan.proofs.Actions.{noted_limits, noted_first, assigns_spans}
use Rattle.scan.proofs.action_row.Goals as goal

pub action_at-at-requires : goal.action_at-at-requires
action_at-at-requires c =
    let a = c.args in
    let l = noted_limits true a.event a.target c.if-event-target.true in
    (l.1, l.2)

pub offset_bounds-spans-at : goal.offset_bounds-spans-at
offset_bounds-spans-at c = omega (arith, c.action_at-at.ensures.upper_bound)

pub bounds-spans-at : goal.bounds-spans-at
bounds-spans-at c =
    omega (arith, c.action_at-at.ensures.upper_bound, c.requires.tags.size)

pub returns-then-event-target : goal.returns-then-event-target
returns-then-event-target c =
    let t = rows_of c.args.words.now in
    let l = noted_limits true c.args.event c.args.target c.if-event-target.true in
    c.noted_row.ensures
    ∙ ap₂ (λ m n. pick (eqb m 0) n (m - 1)) (ap (λ k. get_or c.args.spans.now k 0) c.action_at-at.ensures.value ∙ c.requires.actions c.args.event c.args.target l.1 l.2) c.size.ensures
    ∙ sym (noted_first (passes_of t (Assigns c.args.event c.args.target)) t.size)

pub find_within-requires : goal.find_within-requires
find_within-requires c =
    let t = rows_of c.args.words.now in
    subst (Spans (passes_of t (Assigns c.args.event c.args.target)) t.size) (sym c.span_at-actions.ensures) (assigns_spans t c.args.event c.args.target)

-- By whether the row is an action of an event up to the limit.
use Prim.Native.Nat.{◌+◌}
use mathlib.Core.Path.{sym, ap, ap₂, ◌∙◌, subst}
use mathlib.Core.List.{[], ◌∷◌}
use native.Mathlib.Omega.{arith}
use lib.Bits.{bit_or}
use lib.ListN.{get_or, set}
use Rattle.table.specs.Rows.{rows_of, is_action}
use Rattle.scan.specs.Spans.{events_at}
use Rattle.sets.specs.Set.{set_of}
use Rattle.nodes.specs.Steps.{NotedTo}
use Rattle.nodes.proofs.Stored.{noted_limit, action_passed, action_noted_lem}
use Rattle.nodes.proofs.note_action.Goals as goal

pub returns-then-not-is_noted : goal.returns-then-not-is_noted
returns-then-not-is_noted c =
    action_passed (rows_of c.args.words.now) c.args.spans.now 1 c.args.i
    (sym c.is_noted.ensures ∙ c.if-not-is_noted.true) c.requires

pub event_at-at-requires : goal.event_at-at-requires
event_at-at-requires c =
    let t = rows_of c.args.words.now in
    let l = noted_limit (is_action t c.args.i) (t.a c.args.i)
    (sym c.is_noted.ensures ∙ c.if-not-is_noted.false) in
    omega (arith, l.1, c.a_at.ensures)

pub offset_bounds-spans-at : goal.offset_bounds-spans-at
offset_bounds-spans-at c = omega (arith, c.event_at-at.ensures.upper_bound)

pub bounds-spans-at : goal.bounds-spans-at
bounds-spans-at c =
    omega (arith, c.event_at-at.ensures.upper_bound, c.requires.spanned.tags.size)

pub offset_bounds-spans-at-2 : goal.offset_bounds-spans-at-2
offset_bounds-spans-at-2 c = omega (arith, c.event_at-at.ensures.upper_bound)

pub bounds-spans-at-2 : goal.bounds-spans-at-2
bounds-spans-at-2 c =
    omega (arith, c.event_at-at.ensures.upper_bound, c.requires.spanned.tags.size)

pub returns : goal.returns
returns c =
    let t = rows_of c.args.words.now in
    let xs = c.args.spans.now in
    let l = noted_limit (is_action t c.args.i) (t.a c.args.i)
    (sym c.is_noted.ensures ∙ c.if-not-is_noted.false) in
    let target = c.single-target.ensures ∙ ap (λ x. set_of (x ∷ [])) c.b_at.ensures in
    let place = c.event_at-at.ensures.value ∙ ap (λ e. events_at + e) c.a_at.ensures in
    let same = ap₂ (λ k v. set xs k (bit_or (get_or xs k 0) v)) place target in
    subst (NotedTo t 1 (c.args.i + 1)) (sym same) (action_noted_lem t xs 1 c.args.i l.0 l.1 c.requires)

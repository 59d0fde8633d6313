-- By whether the row is noted (Actions).
use Prim.Native.Nat.{◌+◌}
use mathlib.Core.Path.{sym, ap, ap₂, ◌∙◌, subst}
use native.Mathlib.Omega.{arith}
use lib.Dec.{eqb}
use lib.ListN.{get_or, set}
use Rattle.lists.specs.Choice.{pick}
use Rattle.table.specs.Rows.{rows_of, is_action}
use Rattle.scan.specs.Spans.{action_at, SpannedTo, ActionsTo}
use Rattle.scan.proofs.Actions.{noted_limits, actions_passed, actions_noted, spans_kept}
use Rattle.scan.proofs.note_action.Goals as goal

pub returns-then-not-is_noted : goal.returns-then-not-is_noted
returns-then-not-is_noted c =
    let t = rows_of c.args.words.now in
    (c.requires.0, actions_passed t c.args.i c.args.spans.now (sym c.is_noted.ensures ∙ c.if-not-is_noted.true) c.requires.1)

pub action_at-at-requires : goal.action_at-at-requires
action_at-at-requires c =
    let t = rows_of c.args.words.now in
    let l = noted_limits (is_action t c.args.i) (t.a c.args.i) (t.b c.args.i) (sym c.is_noted.ensures ∙ c.if-not-is_noted.false) in
    (omega (arith, l.1, c.a_at.ensures), omega (arith, l.2, c.b_at.ensures))

pub offset_bounds-spans-at : goal.offset_bounds-spans-at
offset_bounds-spans-at c = omega (arith, c.action_at-at.ensures.upper_bound)

pub bounds-spans-at : goal.bounds-spans-at
bounds-spans-at c =
    omega (arith, c.action_at-at.ensures.upper_bound, c.requires.0.size)

pub offset_bounds-spans-at-2 : goal.offset_bounds-spans-at-2
offset_bounds-spans-at-2 c = omega (arith, c.action_at-at.ensures.upper_bound)

pub bounds-spans-at-2 : goal.bounds-spans-at-2
bounds-spans-at-2 c =
    omega (arith, c.action_at-at.ensures.upper_bound, c.requires.0.size)

pub returns : goal.returns
returns c =
    let t = rows_of c.args.words.now in
    let l = noted_limits (is_action t c.args.i) (t.a c.args.i) (t.b c.args.i) (sym c.is_noted.ensures ∙ c.if-not-is_noted.false) in
    let at = c.action_at-at.ensures.value ∙ ap₂ action_at c.a_at.ensures c.b_at.ensures in
    let stored = c.first_noted.ensures ∙ ap (λ k. pick (eqb (get_or c.args.spans.now k 0) 0) (c.args.i + 1) (get_or c.args.spans.now k 0)) at in
    let same = ap₂ (λ k v. set c.args.spans.now k v) at stored in
    subst (λ xs. SpannedTo t t.size xs × ActionsTo t (c.args.i + 1) xs) (sym same)
    (spans_kept t c.args.i c.args.spans.now c.requires.0.size l.0 l.1 l.2 c.requires.0, actions_noted t c.args.i c.args.spans.now c.requires.0.size l.0 l.1 l.2 c.requires.1)

-- Each kind by its row of the table.
use mathlib.Core.Path.{◌≡◌, sym, ap, ◌∙◌}
use native.Mathlib.Omega.{arith}
use Rattle.table.specs.Rows.{rows_of}
use Rattle.sequent.specs.Numbers.{numbers_of}
use Rattle.segments.specs.Segments.{goal_of}
use Rattle.segments.proofs.Tables.{goal_rest}
use borrow.Author.Rules.{rules}
use Rattle.segments.proofs.goal_of.Goals as goal

pub of_one-requires : goal.of_one-requires
unfolding goal_of
of_one-requires c = search rules

pub of_event-requires : goal.of_event-requires
unfolding goal_of
of_event-requires c = search rules

pub of_one-requires-in-4 : goal.of_one-requires-in-4
unfolding goal_of
of_one-requires-in-4 c = search rules

pub of_event-requires-in-6 : goal.of_event-requires-in-6
unfolding goal_of
of_event-requires-in-6 c = search rules

pub of_one-requires-in-7 : goal.of_one-requires-in-7
unfolding goal_of
of_one-requires-in-7 c = search rules

pub of_one-requires-in_default : goal.of_one-requires-in_default
unfolding goal_of
of_one-requires-in_default c = search rules

pub returns-in-2 : goal.returns-in-2
unfolding goal_of
returns-in-2 c =
    let a = c.args in
    let t = rows_of a.table.now.words.now in
    let e : a.kind ≡ 2 = omega arith in
    c.of_one.ensures ∙ ap (λ k. numbers_of (goal_of t k a.event a.item)) (sym e)

pub returns-in-3 : goal.returns-in-3
unfolding goal_of
returns-in-3 c =
    let a = c.args in
    let t = rows_of a.table.now.words.now in
    let e : a.kind ≡ 3 = omega arith in
    c.of_event.ensures ∙ ap (λ k. numbers_of (goal_of t k a.event a.item)) (sym e)

pub returns-in-4 : goal.returns-in-4
unfolding goal_of
returns-in-4 c =
    let a = c.args in
    let t = rows_of a.table.now.words.now in
    let e : a.kind ≡ 4 = omega arith in
    c.of_one-in-4.ensures ∙ ap (λ k. numbers_of (goal_of t k a.event a.item)) (sym e)

pub returns-in-5 : goal.returns-in-5
unfolding goal_of
returns-in-5 c =
    let a = c.args in
    let t = rows_of a.table.now.words.now in
    let e : a.kind ≡ 5 = omega arith in
    c.sim_goal.ensures ∙ ap (λ k. numbers_of (goal_of t k a.event a.item)) (sym e)

pub returns-in-6 : goal.returns-in-6
unfolding goal_of
returns-in-6 c =
    let a = c.args in
    let t = rows_of a.table.now.words.now in
    let e : a.kind ≡ 6 = omega arith in
    c.of_event-in-6.ensures ∙ ap (λ k. numbers_of (goal_of t k a.event a.item)) (sym e)

pub returns-in-7 : goal.returns-in-7
unfolding goal_of
returns-in-7 c =
    let a = c.args in
    let t = rows_of a.table.now.words.now in
    let e : a.kind ≡ 7 = omega arith in
    c.of_one-in-7.ensures ∙ ap (λ k. numbers_of (goal_of t k a.event a.item)) (sym e)

pub returns-in-8 : goal.returns-in-8
unfolding goal_of
returns-in-8 c =
    let a = c.args in
    let t = rows_of a.table.now.words.now in
    let e : a.kind ≡ 8 = omega arith in
    c.variant_goal.ensures ∙ ap (λ k. numbers_of (goal_of t k a.event a.item)) (sym e)

pub returns-in_default : goal.returns-in_default
unfolding goal_of
returns-in_default c =
    let a = c.args in
    let t = rows_of a.table.now.words.now in
    let o = c.in_default.in_default-own.rest in
    c.of_one-in_default.ensures ∙ ap numbers_of (goal_rest t a.kind a.event a.item (λ e. o.0.0.0.0.0.0.1 e) (λ e. o.0.0.0.0.0.1 e) (λ e. o.0.0.0.0.1 e) (λ e. o.0.0.0.1 e) (λ e. o.0.0.1 e) (λ e. o.0.1 e) (λ e. o.1 e))

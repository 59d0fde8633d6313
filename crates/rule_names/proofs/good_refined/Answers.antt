-- By the test of machine and class.
use mathlib.Core.Path.{◌∙◌, sym, ap, ap₂}
use mathlib.Core.Bool.{◌&&◌}
use lib.Dec.{eqb}
use Rattle.table.specs.Rows.{rows_of}
use Rattle.rules.specs.Rules.{abstract_ordinary_event}
use Rattle.rule_names.proofs.Names.{refined_ordinary, refined_none}
use Rattle.rule_names.proofs.good_refined.Goals as goal

pub returns-then-a_at-b_at : goal.returns-then-a_at-b_at
returns-then-a_at-b_at c =
    let a = c.args in
    let t = rows_of a.table.now.words.now in
    let test = ap₂ (λ m k. eqb m 2 && eqb k 1) (sym c.a_at.ensures) (sym c.b_at.ensures) ∙ c.if-a_at-b_at.true in
    c.abstract_ordinary_event.ensures ∙ ap (abstract_ordinary_event t) c.c_at-refined.ensures ∙ sym (refined_ordinary t a.i test)

pub returns : goal.returns
returns c =
    let a = c.args in
    let t = rows_of a.table.now.words.now in
    let test = ap₂ (λ m k. eqb m 2 && eqb k 1) (sym c.a_at.ensures) (sym c.b_at.ensures) ∙ c.if-a_at-b_at.false in
    ap (λ n. eqb n 0) c.c_at-refined.ensures ∙ sym (refined_none t a.i test)

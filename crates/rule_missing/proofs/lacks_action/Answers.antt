-- Where an action is wanted, the rows are searched for one.
use mathlib.Core.Path.{◌≡◌, ◌∙◌, sym, ap}
use mathlib.Core.Bool.{not, ◌&&◌}
use lib.Dec.{eqb}
use Rattle.lists.specs.Below.{some_below}
use Rattle.table.specs.Rows.{rows_of}
use Rattle.rules.specs.Rules.{action_wanted, assigned}
use Rattle.scan.specs.Query.{passes_of}
use Rattle.scan.specs.declared.Query.TheVariants.{Assigns}
use Rattle.rule_missing.proofs.Tests.{and_passed, and_failed}
use Rattle.rule_missing.proofs.lacks_action.Goals as goal

pub returns-then-b_at-variable : goal.returns-then-b_at-variable
returns-then-b_at-variable c =
    let a = c.args in
    let t = rows_of a.scanned.now.table.words.now in
    let same : (eqb c.b_at.result 0 && c.variable_kind-variable.result)
    ≡ action_wanted t a.i a.j
    = simp (c.variable_kind-variable.ensures, c.a_at-2.ensures, c.a_at.ensures, c.b_at.ensures) in
    let found = c.some_row.ensures ∙ ap (some_below (passes_of t (Assigns a.event a.target))) c.size.ensures in
    ap not found ∙ sym (and_passed (action_wanted t a.i a.j) (not (assigned t a.event a.target)) (sym same ∙ c.if-b_at-variable.true))

pub returns : goal.returns
returns c =
    let a = c.args in
    let t = rows_of a.scanned.now.table.words.now in
    let same : (eqb c.b_at.result 0 && c.variable_kind-variable.result)
    ≡ action_wanted t a.i a.j
    = simp (c.variable_kind-variable.ensures, c.a_at-2.ensures, c.a_at.ensures, c.b_at.ensures) in
    sym (and_failed (action_wanted t a.i a.j) (not (assigned t a.event a.target)) (sym same ∙ c.if-b_at-variable.false))

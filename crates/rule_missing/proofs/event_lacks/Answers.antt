use mathlib.Core.Path.{sym, ◌∙◌}
use native.Mathlib.Omega.{arith}
use borrow.Author.Tests.{eq-eqb}
use Rattle.lists.specs.Below.{some_below}
use Rattle.lists.proofs.Below.{some_passes, some_fails}
use Rattle.lists.proofs.First.{none_next}
use Rattle.table.specs.Rows.{rows_of, tagged}
use Rattle.rules.specs.Rules.{lacks_for}
use Rattle.scan.proofs.Within.{spans_none}
use Rattle.rule_missing.proofs.Tests.{and_passed, identifiers_span}
use Rattle.rule_missing.proofs.event_lacks.Goals as goal

pub loop-j-init : goal.loop-j-init
loop-j-init c =
    let a = c.args in
    (identifiers_span (rows_of a.scanned.now.table.words.now) a.i c.span_at-identifiers.ensures).below

pub lacks_for-requires : goal.lacks_for-requires
lacks_for-requires c = (c.requires, omega (arith, c.loop-j-test.true, (identifiers_span (rows_of c.args.scanned.now.table.words.now) c.args.i c.span_at-identifiers.ensures).within))

pub returns-then-lacks_for : goal.returns-then-lacks_for
returns-then-lacks_for c =
    let a = c.args in
    let t = rows_of a.scanned.now.table.words.now in
    let span = identifiers_span t a.i c.span_at-identifiers.ensures in
    let some = some_passes (lacks_for t a.i) t.size c.loop-j.j (omega (arith, c.loop-j-test.true, span.within)) (sym c.lacks_for.ensures ∙ c.if-lacks_for.true) in
    sym (and_passed (tagged t 40 a.i) (some_below (lacks_for t a.i) t.size) (eq-eqb (t.tag a.i) 40 (sym c.tag_at.ensures ∙ c.if-tag_at-ne-EVENT.false)) ∙ some)

pub loop-j-preserved : goal.loop-j-preserved
loop-j-preserved c =
    let a = c.args in
    none_next (lacks_for (rows_of a.scanned.now.table.words.now) a.i) c.loop-j.j c.loop-j.invariant (sym c.lacks_for.ensures ∙ c.if-lacks_for.false)

pub returns : goal.returns
returns c =
    let a = c.args in
    let t = rows_of a.scanned.now.table.words.now in
    let P = lacks_for t a.i in
    let none = some_fails P t.size (spans_none P t.size c.span_at-identifiers.result (identifiers_span t a.i c.span_at-identifiers.ensures) c.loop-j.j c.loop-j.invariant c.loop-j-test.false) in
    sym (and_passed (tagged t 40 a.i) (some_below P t.size) (eq-eqb (t.tag a.i) 40 (sym c.tag_at.ensures ∙ c.if-tag_at-ne-EVENT.false)) ∙ none)

-- A row of another tag is no identifier; the numbers of the rows in their sections are those of the table's definition.
use mathlib.Core.Path.{◌≡◌, ◌∙◌, sym, ap, ap₂}
use Prim.Native.Nat.{◌+◌, ◌-◌}
use mathlib.Core.Bool.{not, ◌&&◌, ◌||◌}
use borrow.Author.Tests.{eq-eqb, ne_eqb}
use Rattle.table.specs.Rows.{rows_of, tagged, number_in}
use Rattle.table.proofs.Counts.{starts_identifiers, starts_events}
use Rattle.rules.specs.Rules.{action_wanted, witness_wanted, assigned, has_witness, lacks_action, lacks_witness}
use Rattle.rule_missing.proofs.Tests.{and_passed, and_failed}
use Rattle.rule_missing.proofs.lacks_for.Goals as goal

pub returns-then-tag_at-ne-IDENTIFIER : goal.returns-then-tag_at-ne-IDENTIFIER
returns-then-tag_at-ne-IDENTIFIER c =
    let a = c.args in
    let t = rows_of a.scanned.now.table.words.now in
    sym (and_failed (tagged t 10 a.j) (lacks_action t a.i a.j || lacks_witness t a.i a.j)
    (ne_eqb (t.tag a.j) 10 (λ e. c.if-tag_at-ne-IDENTIFIER.true (c.tag_at.ensures ∙ e))))

pub returns : goal.returns
returns c =
    let a = c.args in
    let t = rows_of a.scanned.now.table.words.now in
    let event : c.number_in-event.result ≡ number_in t 40 a.i =
    c.number_in-event.ensures ∙ ap (λ c. a.i + 1 - c) (starts_events t a.scanned.now.table.counts c.args.scanned.now.table.counted) in
    let target : c.number_in-target.result ≡ number_in t 10 a.j =
    c.number_in-target.ensures ∙ ap (λ c. a.j + 1 - c) (starts_identifiers t a.scanned.now.table.counts c.args.scanned.now.table.counted) in
    let action = c.lacks_action.ensures ∙ ap₂ (λ e x. action_wanted t a.i a.j && not (assigned t e x)) event target in
    let witness = c.lacks_witness.ensures ∙ ap₂ (λ e x. witness_wanted t a.i a.j && not (has_witness t e x)) event target in
    ap₂ (λ x y. x || y) action witness
    ∙ sym (and_passed (tagged t 10 a.j) (lacks_action t a.i a.j || lacks_witness t a.i a.j)
    (eq-eqb (t.tag a.j) 10 (sym c.tag_at.ensures ∙ c.if-tag_at-ne-IDENTIFIER.false)))

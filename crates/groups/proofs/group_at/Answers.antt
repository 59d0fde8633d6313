-- Each group by its line of the table; another number has none.
use mathlib.Core.Path.{◌≡◌, sym, ap, ap₂, ◌∙◌}
use native.Mathlib.Omega.{arith}
use Rattle.lists.specs.All.{all_nil, all_cons}
use Rattle.lists.specs.Below.{numbers}
use Rattle.lists.proofs.Range.{table_rest}
use Rattle.table.specs.Rows.{rows_of}
use Rattle.sequent.specs.Sequent.{WD, INV, FIS, GRD, SIM, NAT, VAR}
use Rattle.select.specs.declared.Selection.TheVariants.{None, Tagged}
use Rattle.select.specs.declared.Item.TheVariants.{A, B, C, Action, Identifier}
use Rattle.select.specs.declared.Each.TheVariants.{Witness}
use Rattle.groups.specs.Groups.{group_of, defined_group, whole_group, when, of_event, group_table, group_at}
use Rattle.groups.proofs.Groups.{at_number}
use borrow.Author.Rules.{rules}
use Rattle.groups.proofs.group_at.Goals as goal

pub formulas-requires : goal.formulas-requires
unfolding group_at numbers
formulas-requires c = search rules

pub formulas-requires-in-1 : goal.formulas-requires-in-1
unfolding group_at numbers
formulas-requires-in-1 c = search rules

pub formulas-requires-in-2 : goal.formulas-requires-in-2
unfolding group_at numbers
formulas-requires-in-2 c = search rules

pub formulas-requires-in-3 : goal.formulas-requires-in-3
unfolding group_at numbers
formulas-requires-in-3 c = search rules

pub rows_of-requires : goal.rows_of-requires
unfolding group_at numbers
rows_of-requires c = search rules

pub defined-requires : goal.defined-requires
unfolding group_at numbers
defined-requires c = search rules

pub defined-requires-in-5 : goal.defined-requires-in-5
unfolding group_at numbers
defined-requires-in-5 c = search rules

pub whole-requires : goal.whole-requires
unfolding group_at numbers
whole-requires c = search rules

pub rows_of-requires-in-7 : goal.rows_of-requires-in-7
unfolding group_at numbers
rows_of-requires-in-7 c = search rules

pub new-requires : goal.new-requires
unfolding group_at numbers
new-requires c = search rules

pub whole-requires-in-8 : goal.whole-requires-in-8
unfolding group_at numbers
whole-requires-in-8 c = search rules

pub whole-requires-in-9 : goal.whole-requires-in-9
unfolding group_at numbers
whole-requires-in-9 c = search rules

pub new-requires-in-10 : goal.new-requires-in-10
unfolding group_at numbers
new-requires-in-10 c = search rules

pub variant_when-requires : goal.variant_when-requires
unfolding group_at numbers
variant_when-requires c = search rules

pub whole-requires-in-11 : goal.whole-requires-in-11
unfolding group_at numbers
whole-requires-in-11 c = search rules

pub variant_when-requires-in-12 : goal.variant_when-requires-in-12
unfolding group_at numbers
variant_when-requires-in-12 c = search rules

pub whole-requires-in-12 : goal.whole-requires-in-12
unfolding group_at numbers
whole-requires-in-12 c = search rules

pub whole-requires-in_default : goal.whole-requires-in_default
unfolding group_at numbers
whole-requires-in_default c = search rules

pub returns-in-0 : goal.returns-in-0
unfolding group_at numbers
returns-in-0 c =
    let a = c.args in
    let g : a.group ≡ 0 = omega arith in
    at_number (rows_of a.table.now.words.now) a.event 0 g c.formulas.ensures

pub returns-in-1 : goal.returns-in-1
unfolding group_at numbers
returns-in-1 c =
    let a = c.args in
    let g : a.group ≡ 1 = omega arith in
    at_number (rows_of a.table.now.words.now) a.event 1 g c.formulas-in-1.ensures

pub returns-in-2 : goal.returns-in-2
unfolding group_at numbers
returns-in-2 c =
    let a = c.args in
    let g : a.group ≡ 2 = omega arith in
    at_number (rows_of a.table.now.words.now) a.event 2 g c.formulas-in-2.ensures

pub returns-in-3 : goal.returns-in-3
unfolding group_at numbers
returns-in-3 c =
    let a = c.args in
    let g : a.group ≡ 3 = omega arith in
    at_number (rows_of a.table.now.words.now) a.event 3 g c.formulas-in-3.ensures

pub returns-in-4 : goal.returns-in-4
unfolding group_at numbers
returns-in-4 c =
    let a = c.args in
    let g : a.group ≡ 4 = omega arith in
    at_number (rows_of a.table.now.words.now) a.event 4 g (c.defined.ensures ∙ ap (λ r. defined_group r B a.event) c.rows_of.ensures)

pub returns-in-5 : goal.returns-in-5
unfolding group_at numbers
returns-in-5 c =
    let a = c.args in
    let g : a.group ≡ 5 = omega arith in
    at_number (rows_of a.table.now.words.now) a.event 5 g (c.defined-in-5.ensures ∙ ap (λ r. defined_group r Action a.event) c.assigned.ensures)

pub returns-in-6 : goal.returns-in-6
unfolding group_at numbers
returns-in-6 c =
    let a = c.args in
    let g : a.group ≡ 6 = omega arith in
    at_number (rows_of a.table.now.words.now) a.event 6 g (c.whole.ensures ∙ ap (λ r. whole_group FIS r Identifier) c.such_that.ensures)

pub returns-in-7 : goal.returns-in-7
unfolding group_at numbers
returns-in-7 c =
    let a = c.args in
    let g : a.group ≡ 7 = omega arith in
    at_number (rows_of a.table.now.words.now) a.event 7 g (c.new.ensures ∙ ap (λ r. group_of WD r C Witness) c.rows_of-in-7.ensures)

pub returns-in-8 : goal.returns-in-8
unfolding group_at numbers
returns-in-8 c =
    let a = c.args in
    let g : a.group ≡ 8 = omega arith in
    at_number (rows_of a.table.now.words.now) a.event 8 g (c.whole-in-8.ensures ∙ ap (λ r. whole_group GRD r B) c.refined_guards.ensures)

pub returns-in-9 : goal.returns-in-9
unfolding group_at numbers
returns-in-9 c =
    let a = c.args in
    let g : a.group ≡ 9 = omega arith in
    at_number (rows_of a.table.now.words.now) a.event 9 g (c.whole-in-9.ensures ∙ ap (λ r. whole_group SIM r Identifier) c.simulated.ensures)

pub returns-in-10 : goal.returns-in-10
unfolding group_at numbers
returns-in-10 c =
    let a = c.args in
    let g : a.group ≡ 10 = omega arith in
    at_number (rows_of a.table.now.words.now) a.event 10 g (c.new-in-10.ensures ∙ ap₂ (λ r n. group_of INV r A n) c.own_invariants.ensures c.invariant_each.ensures)

pub returns-in-11 : goal.returns-in-11
unfolding group_at numbers
returns-in-11 c =
    let a = c.args in
    let g : a.group ≡ 11 = omega arith in
    at_number (rows_of a.table.now.words.now) a.event 11 g (c.whole-in-11.ensures ∙ ap (λ r. whole_group NAT r A) (c.variant_when.ensures ∙ ap (λ b. of_event a.event (when b (Tagged 70))) c.is_convergent.ensures))

pub returns-in-12 : goal.returns-in-12
unfolding group_at numbers
returns-in-12 c =
    let a = c.args in
    let g : a.group ≡ 12 = omega arith in
    at_number (rows_of a.table.now.words.now) a.event 12 g (c.whole-in-12.ensures ∙ ap (λ r. whole_group VAR r A) (c.variant_when-in-12.ensures ∙ ap (λ b. of_event a.event (when b (Tagged 70))) c.is_new.ensures))

pub returns-in_default : goal.returns-in_default
unfolding group_at numbers
returns-in_default c =
    let a = c.args in
    let rest = c.in_default.in_default-own.rest in
    c.whole-in_default.ensures ∙ sym (table_rest (group_table (rows_of a.table.now.words.now) a.event) (whole_group WD None A) a.group
    (all_cons (λ p. absurd (rest.0.0.0.0.0.0.0.0.0.0.0.0.1 p)) (all_cons (λ p. absurd (rest.0.0.0.0.0.0.0.0.0.0.0.1 p)) (all_cons (λ p. absurd (rest.0.0.0.0.0.0.0.0.0.0.1 p)) (all_cons (λ p. absurd (rest.0.0.0.0.0.0.0.0.0.1 p)) (all_cons (λ p. absurd (rest.0.0.0.0.0.0.0.0.1 p)) (all_cons (λ p. absurd (rest.0.0.0.0.0.0.0.1 p)) (all_cons (λ p. absurd (rest.0.0.0.0.0.0.1 p)) (all_cons (λ p. absurd (rest.0.0.0.0.0.1 p)) (all_cons (λ p. absurd (rest.0.0.0.0.1 p)) (all_cons (λ p. absurd (rest.0.0.0.1 p)) (all_cons (λ p. absurd (rest.0.0.1 p)) (all_cons (λ p. absurd (rest.0.1 p)) (all_cons (λ p. absurd (rest.1 p)) all_nil))))))))))))))

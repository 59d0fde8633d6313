-- Each segment by its line of the table; another number has none.
use mathlib.Core.Path.{◌≡◌, sym, ap, ap₂, ◌∙◌}
use native.Mathlib.Omega.{arith}
use Rattle.lists.specs.All.{all_nil, all_cons}
use Rattle.lists.specs.Below.{numbers}
use Rattle.lists.proofs.Range.{table_rest}
use Rattle.table.specs.Rows.{rows_of}
use Rattle.select.specs.declared.Selection.TheVariants.{None, Tagged, Identifiers, Variables}
use Rattle.select.specs.declared.Item.TheVariants.{A, C, Identifier}
use Rattle.groups.specs.Groups.{when}
use Rattle.segments.specs.Segments.{segment_of, up_to, segment_table, segment_at}
use Rattle.segments.proofs.Tables.{at_number}
use borrow.Author.Rules.{rules}
use Rattle.segments.proofs.segment_at.Goals as goal

pub formulas-requires : goal.formulas-requires
unfolding segment_at numbers
formulas-requires c = search rules

pub formulas-requires-in-1 : goal.formulas-requires-in-1
unfolding segment_at numbers
formulas-requires-in-1 c = search rules

pub formulas-requires-in-2 : goal.formulas-requires-in-2
unfolding segment_at numbers
formulas-requires-in-2 c = search rules

pub guards-requires : goal.guards-requires
unfolding segment_at numbers
guards-requires c = search rules

pub moves-requires : goal.moves-requires
unfolding segment_at numbers
moves-requires c = search rules

pub size-requires : goal.size-requires
unfolding segment_at numbers
size-requires c = search rules

pub new-requires : goal.new-requires
unfolding segment_at numbers
new-requires c = search rules

pub moves-requires-in-6 : goal.moves-requires-in-6
unfolding segment_at numbers
moves-requires-in-6 c = search rules

pub new-requires-in_default : goal.new-requires-in_default
unfolding segment_at numbers
new-requires-in_default c = search rules

pub returns-in-0 : goal.returns-in-0
unfolding segment_at numbers
returns-in-0 c =
    let a = c.args in
    let t = rows_of a.table.now.words.now in
    let g : a.segment ≡ 0 = omega arith in
    at_number t a.slot 0 g c.formulas.ensures

pub returns-in-1 : goal.returns-in-1
unfolding segment_at numbers
returns-in-1 c =
    let a = c.args in
    let t = rows_of a.table.now.words.now in
    let g : a.segment ≡ 1 = omega arith in
    at_number t a.slot 1 g (c.formulas-in-1.ensures ∙ ap (λ b. segment_of (when b (Tagged 31)) (up_to t a.slot 1) 1 A) c.has_abstract.ensures)

pub returns-in-2 : goal.returns-in-2
unfolding segment_at numbers
returns-in-2 c =
    let a = c.args in
    let t = rows_of a.table.now.words.now in
    let g : a.segment ≡ 2 = omega arith in
    at_number t a.slot 2 g (c.formulas-in-2.ensures ∙ ap (λ b. segment_of (when b (Tagged 32)) (up_to t a.slot 2) 1 A) c.has_concrete.ensures)

pub returns-in-3 : goal.returns-in-3
unfolding segment_at numbers
returns-in-3 c =
    let a = c.args in
    let t = rows_of a.table.now.words.now in
    let g : a.segment ≡ 3 = omega arith in
    at_number t a.slot 3 g c.guards.ensures

pub returns-in-4 : goal.returns-in-4
unfolding segment_at numbers
returns-in-4 c =
    let a = c.args in
    let t = rows_of a.table.now.words.now in
    let g : a.segment ≡ 4 = omega arith in
    at_number t a.slot 4 g (c.moves.ensures ∙ ap₂ (λ b k. segment_of (when b (Variables k)) t.size 4 Identifier) c.has_moves.ensures c.own_kind.ensures)

pub returns-in-5 : goal.returns-in-5
unfolding segment_at numbers
returns-in-5 c =
    let a = c.args in
    let t = rows_of a.table.now.words.now in
    let g : a.segment ≡ 5 = omega arith in
    at_number t a.slot 5 g (c.new.ensures ∙ ap₂ (λ r n. segment_of r n 1 C) c.witness_rows.ensures c.size.ensures)

pub returns-in-6 : goal.returns-in-6
unfolding segment_at numbers
returns-in-6 c =
    let a = c.args in
    let t = rows_of a.table.now.words.now in
    let g : a.segment ≡ 6 = omega arith in
    at_number t a.slot 6 g (c.moves-in-6.ensures ∙ ap (λ b. segment_of (when b (Identifiers 2)) t.size 4 Identifier) c.has_abstract_moves.ensures)

pub returns-in_default : goal.returns-in_default
unfolding segment_at numbers
returns-in_default c =
    let a = c.args in
    let rest = c.in_default.in_default-own.rest in
    c.new-in_default.ensures ∙ sym (table_rest (segment_table (rows_of a.table.now.words.now) a.slot) (segment_of None 0 1 A) a.segment
    (all_cons (λ p. absurd (rest.0.0.0.0.0.0.1 p)) (all_cons (λ p. absurd (rest.0.0.0.0.0.1 p)) (all_cons (λ p. absurd (rest.0.0.0.0.1 p)) (all_cons (λ p. absurd (rest.0.0.0.1 p)) (all_cons (λ p. absurd (rest.0.0.1 p)) (all_cons (λ p. absurd (rest.0.1 p)) (all_cons (λ p. absurd (rest.1 p)) all_nil))))))))

-- By the form.
use native.Mathlib.Omega.{arith}
use Rattle.table.specs.Rows.{rows_of}
use Rattle.spell.proofs.Entries.{written_rows, primed_rows, defined_rows_lem, moves_rows_lem, feasible_rows, witnessed_rows, natural_rows_lem, decreases_rows}
use Rattle.spell.proofs.Entries.{not_increased_rows, unchanged_rows_lem}
use Rattle.spell.proofs.Written.{spelled_as}
use Rattle.spell.proofs.spell.Goals as goal

pub returns-in-2 : goal.returns-in-2
returns-in-2 c =
    let a = c.args in
    spelled_as (primed_rows (rows_of a.table.now.words.now) a.entry c.in-2.is) c.spell_expression.ensures

pub returns-in-3 : goal.returns-in-3
returns-in-3 c =
    let a = c.args in
    spelled_as (defined_rows_lem (rows_of a.table.now.words.now) a.entry c.in-3.is) c.spell_defined.ensures

pub returns-in-4 : goal.returns-in-4
returns-in-4 c =
    let a = c.args in
    spelled_as (moves_rows_lem (rows_of a.table.now.words.now) a.entry c.in-4.is) c.spell_moves.ensures

pub returns-in-5 : goal.returns-in-5
returns-in-5 c =
    let a = c.args in
    spelled_as (feasible_rows (rows_of a.table.now.words.now) a.entry c.in-5.is) c.spell_feasible.ensures

pub returns-in-6 : goal.returns-in-6
returns-in-6 c =
    let a = c.args in
    spelled_as (witnessed_rows (rows_of a.table.now.words.now) a.entry c.in-6.is) c.spell_witnessed.ensures

pub returns-in-7 : goal.returns-in-7
returns-in-7 c =
    let a = c.args in
    spelled_as (natural_rows_lem (rows_of a.table.now.words.now) a.entry c.in-7.is) c.spell_comparison.ensures

pub returns-in-8 : goal.returns-in-8
returns-in-8 c =
    let a = c.args in
    spelled_as (decreases_rows (rows_of a.table.now.words.now) a.entry c.in-8.is) c.spell_variants.ensures

pub returns-in-9 : goal.returns-in-9
returns-in-9 c =
    let a = c.args in
    spelled_as (not_increased_rows (rows_of a.table.now.words.now) a.entry c.in-9.is) c.spell_variants-in-9.ensures

pub returns-in-10 : goal.returns-in-10
returns-in-10 c =
    let a = c.args in
    spelled_as (unchanged_rows_lem (rows_of a.table.now.words.now) a.entry c.in-10.is) c.spell_unchanged.ensures

pub returns-in_default : goal.returns-in_default
returns-in_default c =
    let a = c.args in
    spelled_as (written_rows (rows_of a.table.now.words.now) a.entry (λ g. omega arith)) c.spell_expression-in_default.ensures

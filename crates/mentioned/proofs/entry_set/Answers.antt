-- By the form (Forms).
use mathlib.Core.Path.{ap, ap₂, ◌∙◌}
use native.Mathlib.Omega.{arith}
use lib.Bits.{bit_or}
use Rattle.table.specs.Rows.{rows_of}
use Rattle.mentioned.proofs.Forms.{set_numbered, set_rooted}
use Rattle.mentioned.proofs.entry_set.Goals as goal

pub returns-in-3 : goal.returns-in-3
returns-in-3 c =
    let a = c.args in
    ap (λ n. n.defined) c.note_at.ensures ∙ set_numbered (rows_of a.rows.now.words.now) a.entry 3 c.in-3.is

pub returns-in-4 : goal.returns-in-4
returns-in-4 c =
    let a = c.args in
    c.action_set.ensures ∙ set_numbered (rows_of a.rows.now.words.now) a.entry 4 c.in-4.is

pub returns-in-5 : goal.returns-in-5
returns-in-5 c =
    let a = c.args in
    ap₂ bit_or c.single.ensures c.action_set-in-5.ensures ∙ set_numbered (rows_of a.rows.now.words.now) a.entry 5 c.in-5.is

pub returns-in-6 : goal.returns-in-6
returns-in-6 c =
    let a = c.args in
    c.witness_set.ensures ∙ set_numbered (rows_of a.rows.now.words.now) a.entry 6 c.in-6.is

pub returns-in-10 : goal.returns-in-10
returns-in-10 c =
    let a = c.args in
    c.single-in-10.ensures ∙ set_numbered (rows_of a.rows.now.words.now) a.entry 10 c.in-10.is

pub returns-in_default : goal.returns-in_default
returns-in_default c =
    let a = c.args in
    ap (λ n. n.mentioned) c.note_at-in_default.ensures
    ∙ set_rooted (rows_of a.rows.now.words.now) a.entry (λ e. omega arith) (λ e. omega arith) (λ e. omega arith) (λ e. omega arith) (λ e. omega arith)

-- A node's number is at most the number of its row, counted from 1, so that its uses are among those counted.
use Prim.Native.Nat.{◌+◌, ◌-◌}
use mathlib.Core.Path.{◌≡◌, ap, sym, ◌∙◌}
use mathlib.Core.Bool.{not}
use native.Mathlib.Omega.{arith}
use borrow.Author.Tests.{eq-eqb, ne_eqb}
use lib.Dec.{eqb}
use Rattle.table.specs.Rows.{rows_of, number_in}
use Rattle.table.proofs.Counts.{starts_nodes}
use Rattle.rules.specs.Rules.{uses_to, use_offends}
use borrow.Author.Rules.{rules}
use Rattle.rule_sorts.proofs.use_offends.Goals as goal

pub tag_at-requires : goal.tag_at-requires
unfolding use_offends
tag_at-requires c = search rules

pub returns-then-tag_at-ne-NODE : goal.returns-then-tag_at-ne-NODE
unfolding use_offends
returns-then-tag_at-ne-NODE c =
    let a = c.args in
    rw (ne_eqb ((rows_of a.table.now.words.now).tag a.i) 20 (λ e. c.if-tag_at-ne-NODE.true (c.tag_at.ensures ∙ e)))

pub number_in-n-requires : goal.number_in-n-requires
unfolding use_offends
number_in-n-requires c = search rules

pub offset_bounds-uses-n : goal.offset_bounds-uses-n
unfolding use_offends
offset_bounds-uses-n c = search rules

pub bounds-uses-n : goal.bounds-uses-n
unfolding use_offends
bounds-uses-n c =
    omega (arith, c.requires.0.size, c.number_in-n.ensures, c.requires.1)

pub returns : goal.returns
unfolding use_offends
returns c =
    let t = rows_of c.args.table.now.words.now in
    let number : c.number_in-n.result ≡ number_in t 20 c.args.i = c.number_in-n.ensures ∙ ap (λ x. c.args.i + 1 - x) (starts_nodes t c.args.table.now.counts c.args.table.now.counted) in
    let uses = c.requires.0.counts c.number_in-n.result (omega (arith, c.number_in-n.ensures, c.requires.1)) ∙ ap (λ n. uses_to t n t.size) number in
    rw (eq-eqb (t.tag c.args.i) 20 (sym c.tag_at.ensures ∙ c.if-tag_at-ne-NODE.false)) (ap (λ n. not (eqb n 1)) uses)

-- Where a witness is wanted, the rows are searched for one.
use mathlib.Core.Path.{◌≡◌, ◌∙◌, sym, ap}
use mathlib.Core.Bool.{not, ◌&&◌, ◌||◌}
use lib.Dec.{ltb, eqb}
use Rattle.lists.specs.Below.{some_below}
use Rattle.table.specs.Rows.{rows_of}
use Rattle.rules.specs.Rules.{witness_wanted, has_witness}
use Rattle.scan.specs.Query.{passes_of}
use Rattle.scan.specs.declared.Query.TheVariants.{Witnesses}
use Rattle.rule_missing.proofs.Tests.{and_passed, and_failed}
use Rattle.rule_missing.proofs.lacks_witness.Goals as goal

pub returns-then-refining-kind : goal.returns-then-refining-kind
returns-then-refining-kind c =
    let a = c.args in
    let t = rows_of a.scanned.now.table.words.now in
    let same : ((eqb c.a_at.result 2 && ltb c.b_at.result 2) && (eqb c.a_at-kind.result 2 || (eqb c.a_at-kind.result 4 && eqb c.c_at.result c.c_at-2.result)))
    ≡ witness_wanted t a.i a.j
    = simp (c.c_at-2.ensures, c.c_at.ensures, c.b_at.ensures, c.a_at.ensures, c.a_at-kind.ensures) in
    let found = c.some_row.ensures ∙ ap (some_below (passes_of t (Witnesses a.event a.target))) c.size.ensures in
    ap not found ∙ sym (and_passed (witness_wanted t a.i a.j) (not (has_witness t a.event a.target)) (sym same ∙ c.if-refining-kind.true))

pub returns : goal.returns
returns c =
    let a = c.args in
    let t = rows_of a.scanned.now.table.words.now in
    let same : ((eqb c.a_at.result 2 && ltb c.b_at.result 2) && (eqb c.a_at-kind.result 2 || (eqb c.a_at-kind.result 4 && eqb c.c_at.result c.c_at-2.result)))
    ≡ witness_wanted t a.i a.j
    = simp (c.c_at-2.ensures, c.c_at.ensures, c.b_at.ensures, c.a_at.ensures, c.a_at-kind.ensures) in
    sym (and_failed (witness_wanted t a.i a.j) (not (has_witness t a.event a.target)) (sym same ∙ c.if-refining-kind.false))

use mathlib.Core.Path.{◌≡◌, sym, ◌∙◌}
use native.Mathlib.Omega.{arith}
use Rattle.lists.proofs.First.{first_at, first_none}
use Rattle.table.specs.Rows.{rows_of}
use Rattle.scan.specs.Query.{passes_of}
use Rattle.scan.proofs.Within.{spans_none}
use Rattle.scan.proofs.find_within.Goals as goal

pub returns-then-passes : goal.returns-then-passes
returns-then-passes c =
    let t = rows_of c.args.words.now in
    let passes : c.passes.result ≡ passes_of t c.args.query c.loop-i.i = simp (c.passes.ensures, c.b_at.ensures, c.a_at.ensures, c.tag_at.ensures) in
    first_at (passes_of t c.args.query) t.size c.loop-i.i c.loop-i.invariant (omega (arith, c.requires.within, c.loop-i-test.true)) (sym passes ∙ c.if-passes.true)

pub returns : goal.returns
returns c =
    let t = rows_of c.args.words.now in
    c.size.ensures ∙ first_none (passes_of t c.args.query) t.size (spans_none (passes_of t c.args.query) t.size c.args.span c.requires c.loop-i.i c.loop-i.invariant c.loop-i-test.false)

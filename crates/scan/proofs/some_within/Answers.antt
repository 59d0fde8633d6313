use mathlib.Core.Path.{◌≡◌, sym, ◌∙◌}
use native.Mathlib.Omega.{arith}
use Rattle.lists.proofs.Below.{some_passes, some_fails}
use Rattle.lists.proofs.First.{none_next}
use Rattle.table.specs.Rows.{rows_of}
use Rattle.scan.specs.Query.{passes_of}
use Rattle.scan.proofs.some_within.Goals as goal

pub returns-then-passes : goal.returns-then-passes
returns-then-passes c =
    let t = rows_of c.args.words.now in
    let passes : c.passes.result ≡ passes_of t c.args.query c.loop-i.i = simp (c.passes.ensures, c.b_at.ensures, c.a_at.ensures, c.tag_at.ensures) in
    sym (some_passes (passes_of t c.args.query) c.args.span.to c.loop-i.i c.loop-i-test.true (sym passes ∙ c.if-passes.true))

pub loop-i-preserved : goal.loop-i-preserved
loop-i-preserved c =
    let t = rows_of c.args.words.now in
    let passes : c.passes.result ≡ passes_of t c.args.query c.loop-i.i = simp (c.passes.ensures, c.b_at.ensures, c.a_at.ensures, c.tag_at.ensures) in
    none_next (passes_of t c.args.query) c.loop-i.i c.loop-i.invariant (sym passes ∙ c.if-passes.false)

pub returns : goal.returns
returns c =
    let t = rows_of c.args.words.now in
    sym (some_fails (passes_of t c.args.query) c.args.span.to (λ j l. c.loop-i.invariant j (omega (arith, c.loop-i-test.false))))

use mathlib.Core.Path.{◌≡◌, refl, sym, ◌∙◌}
use native.Mathlib.Omega.{arith}
use borrow.Author.Tests.{lt-ltb, le-ltb}
use lib.Dec.{ltb}
use Rattle.lists.proofs.First.{first_here, first_next, first_end}
use Rattle.table.specs.Rows.{rows_of}
use Rattle.rules.specs.Verdict.{first_row, first_check}
use Rattle.rules.proofs.Cases.{passed_next}
use Rattle.fault.proofs.first_check.Goals as goal

pub loop-check-init : goal.loop-check-init
unfolding first_check
loop-check-init c =
    (λ k i low high l. absurd (omega arith), refl)

pub returns-then-first_row-rows : goal.returns-then-first_row-rows
unfolding first_check
returns-then-first_row-rows c =
    let t = rows_of c.args.scanned.now.table.words.now in
    let k = c.loop-check.check in
    sym (first_here (λ k. ltb (first_row t k) t.size) 12 k c.loop-check-test.true
    (lt-ltb (first_row t k) t.size (omega (arith, c.first_row.ensures, c.size-rows.ensures, c.if-first_row-rows.true)))) ∙ c.loop-check.invariant.1

pub loop-check-preserved : goal.loop-check-preserved
unfolding first_check
loop-check-preserved c = (
  let t = rows_of c.args.scanned.now.table.words.now in
      passed_next t c.loop-check.check c.loop-check.invariant.0 (omega (arith, c.first_row.ensures, c.size-rows.ensures, c.if-first_row-rows.false)),
  let t = rows_of c.args.scanned.now.table.words.now in
      let k = c.loop-check.check in
      sym (first_next (λ k. ltb (first_row t k) t.size) 12 k c.loop-check-test.true
      (le-ltb (first_row t k) t.size (omega (arith, c.first_row.ensures, c.size-rows.ensures, c.if-first_row-rows.false)))) ∙ c.loop-check.invariant.1,
)

pub returns : goal.returns
unfolding first_check
returns c =
    let t = rows_of c.args.scanned.now.table.words.now in
    let end : 12 ≡ c.loop-check.check = omega arith in
    end ∙ sym (first_end (λ k. ltb (first_row t k) t.size) 12 c.loop-check.check c.loop-check-test.false) ∙ c.loop-check.invariant.1

use mathlib.Core.Path.{◌≡◌, sym, ◌∙◌}
use native.Mathlib.Omega.{arith}
use Rattle.lists.proofs.First.{first_here, first_next, first_end}
use Rattle.table.specs.Rows.{rows_of}
use Rattle.rules.specs.Rules.{offends}
use Rattle.fault.proofs.first_row.Goals as goal

pub returns-then-row_offends : goal.returns-then-row_offends
returns-then-row_offends c =
    let a = c.args in
    let t = rows_of a.scanned.now.table.words.now in
    sym (first_here (offends t a.check) c.size-rows.result c.loop-i.i c.loop-i-test.true (sym c.row_offends.ensures ∙ c.if-row_offends.true)) ∙ c.loop-i.invariant

pub loop-i-preserved : goal.loop-i-preserved
loop-i-preserved c =
    let a = c.args in
    let t = rows_of a.scanned.now.table.words.now in
    sym (first_next (offends t a.check) c.size-rows.result c.loop-i.i c.loop-i-test.true (sym c.row_offends.ensures ∙ c.if-row_offends.false)) ∙ c.loop-i.invariant

pub returns : goal.returns
returns c =
    let a = c.args in
    let t = rows_of a.scanned.now.table.words.now in
    let end : c.size-rows.result ≡ c.loop-i.i = omega arith in
    end ∙ sym (first_end (offends t a.check) c.size-rows.result c.loop-i.i c.loop-i-test.false) ∙ c.loop-i.invariant

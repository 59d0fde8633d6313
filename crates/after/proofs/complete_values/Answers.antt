use mathlib.Core.Path.{◌≡◌, refl, ◌∙◌}
use native.Mathlib.Omega.{arith}
use lib.ListN.{length}
use borrow.Author.Rules.{rules}
use Rattle.table.specs.Rows.{rows_of}
use Rattle.table.proofs.Counts.{counts_identifiers}
use Rattle.values.specs.Values.{values_of}
use Rattle.after.proofs.Completed.{complete_start, complete_next, complete_end}
use Rattle.after.proofs.complete_values.Goals as goal

pub loop-x-init : goal.loop-x-init
loop-x-init c =
    (refl, complete_start (rows_of c.args.scanned.now.table.words.now) c.args.e (values_of c.args.present.now c.args.after.now))

pub loop-x-preserved : goal.loop-x-preserved
loop-x-preserved c =
    let t = rows_of c.args.scanned.now.table.words.now in
    let size : length c.complete_value.new.after ≡ length c.loop-x.after = search rules in (
      size ∙ c.loop-x.invariant.0,
      complete_next t c.args.e c.loop-x.x (omega (arith, c.loop-x-test.true, counts_identifiers t c.args.scanned.now.table.counts c.args.scanned.now.table.counted)) c.args.present.now c.loop-x.after _ c.complete_value.ensures
          ∙ c.loop-x.invariant.1,
    )

pub returns : goal.returns
returns c =
    let t = rows_of c.args.scanned.now.table.words.now in
    complete_end t c.args.e c.loop-x.x (omega (arith, c.loop-x-test.false, counts_identifiers t c.args.scanned.now.table.counts c.args.scanned.now.table.counted)) (values_of c.args.present.now c.loop-x.after) ∙ c.loop-x.invariant.1

use mathlib.Core.Path.{◌≡◌, refl, ◌∙◌}
use native.Mathlib.Omega.{arith}
use lib.ListN.{length}
use borrow.Author.Rules.{rules}
use Rattle.table.specs.Rows.{rows_of}
use Rattle.table.proofs.Counts.{counts_identifiers}
use Rattle.values.specs.Values.{values_of}
use Rattle.values.proofs.Moving.{move_start, move_next, move_end}
use Rattle.values.proofs.move_values.Goals as goal

pub loop-x-init : goal.loop-x-init
loop-x-init c =
    (refl, move_start (rows_of c.args.table.now.words.now) (values_of c.args.present.now c.args.after.now))

pub loop-x-preserved : goal.loop-x-preserved
loop-x-preserved c =
    let t = rows_of c.args.table.now.words.now in
    let size : length c.move_value.new.present ≡ length c.loop-x.present = search rules in (
      size ∙ c.loop-x.invariant.0,
      move_next t c.loop-x.x (omega (arith, c.loop-x-test.true, counts_identifiers t c.args.table.now.counts c.args.table.now.counted)) c.loop-x.present c.args.after.now _ c.move_value.ensures ∙ c.loop-x.invariant.1,
    )

pub shape_of-present : goal.shape_of-present
shape_of-present c = c.loop-x.invariant.0

pub returns : goal.returns
returns c =
    let t = rows_of c.args.table.now.words.now in
    move_end t c.loop-x.x (omega (arith, c.loop-x-test.false, counts_identifiers t c.args.table.now.counts c.args.table.now.counted)) (values_of c.loop-x.present c.args.after.now) ∙ c.loop-x.invariant.1

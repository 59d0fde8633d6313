use mathlib.Core.Path.{◌≡◌, refl, ◌∙◌}
use native.Mathlib.Omega.{arith}
use Rattle.std.proofs.lemmas.Result.{err_from_is_err_and}
use lib.ListN.{length}
use borrow.Author.Rules.{rules}
use Rattle.table.specs.Rows.{rows_of}
use Rattle.table.proofs.Counts.{counts_identifiers}
use Rattle.values.specs.Values.{values_of}
use Rattle.values.proofs.Reading.{rest_start_lem, rest_next, rest_bad, rest_end}
use Rattle.values.proofs.read_values.Goals as goal

pub loop-x-init : goal.loop-x-init
loop-x-init c =
    (refl, refl, rest_start_lem (rows_of c.args.scanned.now.table.words.now) c.args.pressing c.args.e c.args.run.now c.args.place.at (values_of c.args.present.now c.args.after.now) c.requires)

pub loop-x-preserved : goal.loop-x-preserved
loop-x-preserved c =
    let t = rows_of c.args.scanned.now.table.words.now in
    let present : length c.read_identifier.new.present ≡ length c.loop-x.present = search rules in
    let after : length c.read_identifier.new.after ≡ length c.loop-x.after = search rules in
    let inside = c.loop-x-test.true in (
      present ∙ c.loop-x.invariant.0,
      after ∙ c.loop-x.invariant.1,
      rest_next t c.args.pressing c.args.e c.args.run.now c.loop-x.x (omega (arith, inside, counts_identifiers t c.args.scanned.now.table.counts c.args.scanned.now.table.counted)) c.loop-x.place.at (values_of c.loop-x.present c.loop-x.after) c.loop-x.invariant.2 _ _
          c.read_identifier.ensures.reads_identifier c.read_identifier.ensures.reaches c.in_ok-place.place c.in_ok-place.was,
    )

pub returns-in_err-place-clause-reads_values : goal.returns-in_err-place-clause-reads_values
returns-in_err-place-clause-reads_values c =
    let t = rows_of c.args.scanned.now.table.words.now in
    let inside = c.loop-x-test.true in
    let p = err_from_is_err_and c.from_residual.result c.from_residual.ensures.1 in
    rw (p.1, p.2)
    (rest_bad t c.args.pressing c.args.e c.args.run.now c.loop-x.x (omega (arith, inside, counts_identifiers t c.args.scanned.now.table.counts c.args.scanned.now.table.counted)) c.loop-x.place.at (values_of c.loop-x.present c.loop-x.after) c.loop-x.invariant.2 _ _
    c.read_identifier.ensures.reads_identifier c.read_identifier.ensures.reaches c.in_err-place.field-0.0 c.in_err-place.was)

pub returns-in_err-place-clause-reaches : goal.returns-in_err-place-clause-reaches
returns-in_err-place-clause-reaches c =
    let p = err_from_is_err_and c.from_residual.result c.from_residual.ensures.1 in rw p.1 tt

pub shape_of-present : goal.shape_of-present
shape_of-present c = c.loop-x.invariant.0

pub shape_of-after : goal.shape_of-after
shape_of-after c = c.loop-x.invariant.1

pub returns : goal.returns
returns c =
    let t = rows_of c.args.scanned.now.table.words.now in
    let past = counts_identifiers t c.args.scanned.now.table.counts c.args.scanned.now.table.counted in
    let both = rest_end t c.args.pressing c.args.e c.args.run.now c.loop-x.x c.loop-x.place (values_of c.loop-x.present c.loop-x.after) (omega (arith, past, c.loop-x-test.false)) c.loop-x.invariant.2 in
    record { reads_values = both.0; reaches = both.1 }

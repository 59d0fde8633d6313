use mathlib.Core.Path.{◌≡◌, refl, ap, ◌∙◌}
use native.Mathlib.Omega.{arith}
use lib.ListN.{length}
use Rattle.std.specs.Prelude.{Ok}
use borrow.Author.Rules.{rules}
use Rattle.table.specs.Rows.{rows_of}
use Rattle.values.specs.Values.{values_of}
use Rattle.steps.proofs.Parts.{taken_none, enough_is, taken_next, taken_further, part_more, part_ended, refused_within, part_refused, not_last}
use Rattle.steps.proofs.replay_part.Goals as goal

pub loop-place-init : goal.loop-place-init
loop-place-init c =
    (refl, refl, taken_none (rows_of c.args.scanned.now.table.words.now) c.args.before c.args.part.now c.args.last c.args.n (values_of c.args.present.now c.args.after.now) c.start-place.ensures)

pub overflow_sub-part : goal.overflow_sub-part
overflow_sub-part c = c.loop-place.invariant.2.within

pub shape_of-present-in-Ok-Ended : goal.shape_of-present-in-Ok-Ended
shape_of-present-in-Ok-Ended c =
    let present : length c.replay_step.new.present ≡ length c.loop-place.present = search rules in
    present ∙ c.loop-place.invariant.0

pub shape_of-after-in-Ok-Ended : goal.shape_of-after-in-Ok-Ended
shape_of-after-in-Ok-Ended c =
    let after : length c.replay_step.new.after ≡ length c.loop-place.after = search rules in
    after ∙ c.loop-place.invariant.1

pub returns-in-Ok-Ended : goal.returns-in-Ok-Ended
returns-in-Ok-Ended c =
    let t = rows_of c.args.scanned.now.table.words.now in
    record {
      replays_part = part_ended t c.args.before c.args.part.now c.args.last c.args.n (values_of c.args.present.now c.args.after.now) c.loop-place.invariant.2
          (enough_is t c.args.scanned.now.table.counts c.args.scanned.now.table.counted c.args.last _ c.loop-place-test.true) c.replay_step.result (values_of c.replay_step.new.present c.replay_step.new.after) c.replay_step.ensures.replays_step c.replay_step.ensures.begins_within c.in-Ok-Ended.steps (c.in-Ok-Ended.is ∙ ap Ok c.in-Ok-Ended.field-0-is);
      stops = tt;
    }

pub later_row-requires : goal.later_row-requires
later_row-requires c =
    let t = rows_of c.args.scanned.now.table.words.now in
    let within = refused_within t c.args.before c.args.part.now c.args.last c.args.n (values_of c.args.present.now c.args.after.now) c.loop-place.invariant.2
    (enough_is t c.args.scanned.now.table.counts c.args.scanned.now.table.counted c.args.last _ c.loop-place-test.true) c.replay_step.result (values_of c.replay_step.new.present c.replay_step.new.after) c.replay_step.ensures.replays_step c.replay_step.ensures.begins_within c.in-Err.refusal c.in-Err.is in
    let small = c.requires.1 in
    omega (arith, within, small)

pub shape_of-present-in-Err : goal.shape_of-present-in-Err
shape_of-present-in-Err c =
    let present : length c.replay_step.new.present ≡ length c.loop-place.present = search rules in
    present ∙ c.loop-place.invariant.0

pub shape_of-after-in-Err : goal.shape_of-after-in-Err
shape_of-after-in-Err c =
    let after : length c.replay_step.new.after ≡ length c.loop-place.after = search rules in
    after ∙ c.loop-place.invariant.1

pub returns-in-Err : goal.returns-in-Err
returns-in-Err c =
    let t = rows_of c.args.scanned.now.table.words.now in
    record {
      replays_part = part_refused t c.args.before c.args.part.now c.args.last c.args.n (values_of c.args.present.now c.args.after.now) c.loop-place.invariant.2
          (enough_is t c.args.scanned.now.table.counts c.args.scanned.now.table.counted c.args.last _ c.loop-place-test.true) c.replay_step.result (values_of c.replay_step.new.present c.replay_step.new.after) c.replay_step.ensures.replays_step c.replay_step.ensures.begins_within c.in-Err.refusal c.in-Err.is c.later_row.ensures;
      stops = tt;
    }

pub overflow_add-n : goal.overflow_add-n
overflow_add-n c =
    let t = rows_of c.args.scanned.now.table.words.now in
    let next = taken_next t c.args.before c.args.part.now c.args.last c.args.n (values_of c.args.present.now c.args.after.now) c.loop-place.invariant.2
    (enough_is t c.args.scanned.now.table.counts c.args.scanned.now.table.counted c.args.last _ c.loop-place-test.true) c.replay_step.result (values_of c.replay_step.new.present c.replay_step.new.after) c.replay_step.ensures.replays_step c.replay_step.ensures.begins_within c.in-Ok-Going.next (c.in-Ok-Going.is ∙ ap Ok c.in-Ok-Going.field-0-is) in
    let small = c.requires.0 in
    let few = next.few in
    let within = next.within in
    omega (arith, small, few, within)

pub loop-place-smaller : goal.loop-place-smaller
loop-place-smaller c =
    let t = rows_of c.args.scanned.now.table.words.now in
    let further = taken_further t c.args.before c.args.part.now c.args.last c.args.n (values_of c.args.present.now c.args.after.now) c.loop-place.invariant.2
    (enough_is t c.args.scanned.now.table.counts c.args.scanned.now.table.counted c.args.last _ c.loop-place-test.true) c.replay_step.result (values_of c.replay_step.new.present c.replay_step.new.after) c.replay_step.ensures.replays_step c.replay_step.ensures.begins_within c.in-Ok-Going.next (c.in-Ok-Going.is ∙ ap Ok c.in-Ok-Going.field-0-is) in
    let next = taken_next t c.args.before c.args.part.now c.args.last c.args.n (values_of c.args.present.now c.args.after.now) c.loop-place.invariant.2
    (enough_is t c.args.scanned.now.table.counts c.args.scanned.now.table.counted c.args.last _ c.loop-place-test.true) c.replay_step.result (values_of c.replay_step.new.present c.replay_step.new.after) c.replay_step.ensures.replays_step c.replay_step.ensures.begins_within c.in-Ok-Going.next (c.in-Ok-Going.is ∙ ap Ok c.in-Ok-Going.field-0-is) in
    let within = next.within in
    omega (arith, further, within)

pub loop-place-preserved : goal.loop-place-preserved
loop-place-preserved c =
    let t = rows_of c.args.scanned.now.table.words.now in
    let present : length c.replay_step.new.present ≡ length c.loop-place.present = search rules in
    let after : length c.replay_step.new.after ≡ length c.loop-place.after = search rules in (
      present ∙ c.loop-place.invariant.0,
      after ∙ c.loop-place.invariant.1,
      taken_next t c.args.before c.args.part.now c.args.last c.args.n (values_of c.args.present.now c.args.after.now) c.loop-place.invariant.2
          (enough_is t c.args.scanned.now.table.counts c.args.scanned.now.table.counted c.args.last _ c.loop-place-test.true) c.replay_step.result (values_of c.replay_step.new.present c.replay_step.new.after) c.replay_step.ensures.replays_step c.replay_step.ensures.begins_within c.in-Ok-Going.next (c.in-Ok-Going.is ∙ ap Ok c.in-Ok-Going.field-0-is),
    )

pub shape_of-present : goal.shape_of-present
shape_of-present c = c.loop-place.invariant.0

pub shape_of-after : goal.shape_of-after
shape_of-after c = c.loop-place.invariant.1

pub returns : goal.returns
returns c =
    let both = part_more (rows_of c.args.scanned.now.table.words.now) c.args.before c.args.part.now c.args.last c.args.n (values_of c.args.present.now c.args.after.now) c.loop-place.invariant.2 c.loop-place.place refl (not_last c.args.last _ c.loop-place-test.false) in
    record { replays_part = both.0; stops = both.1 }

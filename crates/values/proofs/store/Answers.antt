-- By whether the value is given.
use mathlib.Core.Path.{refl, sym, ap, ◌∙◌}
use lib.ListN.{set}
use Rattle.signed.proofs.Numbers.{seen_is}
use Rattle.recording.specs.Replay.{store_by}
use Rattle.values.specs.Values.{values_of}
use Rattle.values.proofs.store.Goals as goal

pub returns-then-given : goal.returns-then-given
returns-then-given c =
    let present = c.args.present.now in
    let after = c.args.after.now in
    ap (λ p. values_of p after) (c.put.ensures ∙ ap (set present c.args.x) (seen_is c.args.value c.ranges.value.sfits refl))
    ∙ sym (ap (λ b. store_by b c.args.x c.args.value (values_of present after)) c.if-given.true)

pub returns-else-given : goal.returns-else-given
returns-else-given c =
    let present = c.args.present.now in
    let after = c.args.after.now in
    ap (values_of present) (c.put-else-given.ensures ∙ ap (set after c.args.x) (seen_is c.args.value c.ranges.value.sfits refl))
    ∙ sym (ap (λ b. store_by b c.args.x c.args.value (values_of present after)) c.if-given.false)

use Prim.Native.Nat.{◌≤◌, ◌<◌}
use mathlib.Core.Path.{refl, sym, ap, ◌∙◌, subst}
use mathlib.Core.Logic.{inl, inr}
use native.Mathlib.Omega.{arith}
use Rattle.table.specs.Rows.{rows_of}
use Rattle.table.proofs.Counts.{counts_events}
use Rattle.walk.specs.Slots.{position, Holds}
use Rattle.walk.proofs.Slots.{within, at_end, events_within, passed_position, passed_holds, next_kept, next_fewer}
use Rattle.walk.proofs.seek.Goals as goal

pub loop-slot-init : goal.loop-slot-init
loop-slot-init c = (c.requires, refl)

pub seek_in_group-found-requires : goal.seek_in_group-found-requires
seek_in_group-found-requires c = let t = rows_of c.args.index.now.table.words.now in
    let w = within t c.loop-slot.slot c.loop-slot.invariant.0 (omega (arith, counts_events t c.args.index.now.table.counts c.args.index.now.table.counted)) in
    w.row

pub returns-then-found-rows : goal.returns-then-found-rows
returns-then-found-rows c =
    let t = rows_of c.args.index.now.table.words.now in
    let w = within t c.loop-slot.slot c.loop-slot.invariant.0 (omega (arith, counts_events t c.args.index.now.table.counts c.args.index.now.table.counted)) in
    let p = c.seek_in_group-found.ensures in
    let inside : c.seek_in_group-found.result.row < t.size = omega (arith, c.size-rows.ensures, c.if-found-rows.true) in
    (ap (position t) c.at.ensures ∙ passed_position t w p ∙ c.loop-slot.invariant.1, inl (subst (Holds t) (sym c.at.ensures) (passed_holds t w p inside)))

pub next_group-slot-requires : goal.next_group-slot-requires
next_group-slot-requires c =
    let t = rows_of c.args.index.now.table.words.now in
    let w = within t c.loop-slot.slot c.loop-slot.invariant.0 (omega (arith, counts_events t c.args.index.now.table.counts c.args.index.now.table.counted)) in
    (omega (arith, w.event, events_within t), w.group)

pub loop-slot-smaller : goal.loop-slot-smaller
loop-slot-smaller c =
    let t = rows_of c.args.index.now.table.words.now in
    let w = within t c.loop-slot.slot c.loop-slot.invariant.0 (omega (arith, counts_events t c.args.index.now.table.counts c.args.index.now.table.counted)) in
    let last : t.size ≤ c.seek_in_group-found.result.row = omega (arith, c.size-rows.ensures, c.if-found-rows.false) in
    next_fewer t w c.seek_in_group-found.ensures last c.next_group-slot.ensures

pub loop-slot-preserved : goal.loop-slot-preserved
loop-slot-preserved c =
    let t = rows_of c.args.index.now.table.words.now in
    let w = within t c.loop-slot.slot c.loop-slot.invariant.0 (omega (arith, counts_events t c.args.index.now.table.counts c.args.index.now.table.counted)) in
    let last : t.size ≤ c.seek_in_group-found.result.row = omega (arith, c.size-rows.ensures, c.if-found-rows.false) in
    next_kept t w c.seek_in_group-found.ensures last c.next_group-slot.ensures (position t c.args.from) c.loop-slot.invariant.1

pub returns : goal.returns
returns c =
    let t = rows_of c.args.index.now.table.words.now in
    (c.loop-slot.invariant.1, inr (at_end t c.loop-slot.slot c.loop-slot.invariant.0 (omega (arith, counts_events t c.args.index.now.table.counts c.args.index.now.table.counted))))

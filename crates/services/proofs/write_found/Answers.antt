-- By whether there are as many rows of room as the sequent has (Slots).
use Prim.Native.Nat.{◌+◌}
use mathlib.Core.Path.{◌≡◌, ap₂, sym, ◌∙◌}
use native.Mathlib.Omega.{arith}
use lib.ListN.{length}
use Rattle.std.specs.Prelude.{Ok}
use Rattle.table.specs.Rows.{rows_of}
use Rattle.machine.specs.Described.{machine_of}
use Rattle.reply.specs.Printed.{sequent_rows}
use Rattle.entries.specs.Sequent.{slot_sequent}
use Rattle.entries.proofs.Seek.{at_most}
use Rattle.services.specs.Found.{outcome}
use Rattle.services.proofs.Slots.{rows_count, no_room, room}
use Rattle.services.proofs.write_found.Goals as goal

pub overflow_add-wanted : goal.overflow_add-wanted
overflow_add-wanted c =
    let t = rows_of c.args.index.now.table.words.now in
    omega (arith, c.count_entries-wanted.ensures, at_most t c.args.slot c.requires.table_value, c.well_formed)

pub returns-then-out-wanted : goal.returns-then-out-wanted
returns-then-out-wanted c =
    let t = rows_of c.args.index.now.table.words.now in
    sym (no_room (sequent_rows (machine_of t) (slot_sequent t c.args.slot)) c.args.out.now (omega (arith, rows_count t c.args.slot, c.count_entries-wanted.ensures, c.if-out-wanted.true)))

pub write_slot-requires : goal.write_slot-requires
write_slot-requires c = record { table_value = c.requires.table_value; listed_slot = (c.requires.listed_slot, omega (arith, c.count_entries-wanted.ensures, c.if-out-wanted.false)) }

pub returns : goal.returns
returns c =
    let t = rows_of c.args.index.now.table.words.now in
    let rows : c.count_entries-wanted.result + 2 ≡ length (sequent_rows (machine_of t) (slot_sequent t c.args.slot)) = omega (arith, rows_count t c.args.slot, c.count_entries-wanted.ensures) in
    ap₂ (λ n out. outcome (Ok n) out) rows c.write_slot.ensures.out_after
    ∙ sym (room (sequent_rows (machine_of t) (slot_sequent t c.args.slot)) c.args.out.now (omega (arith, rows, c.if-out-wanted.false)))

-- A sequent has at most one hypothesis for each segment and row, so the buffer has room behind what is held; what was written behind it waits with it (Held).
use Rattle.std.proofs.Common.{◌≡◌, ◌+◌, ◌<◌, length, sym, ◌∙◌, arith}
use Rattle.std.proofs.lemmas.Result.{IfOk-weaker}
use lib.ListN.{length-take, length-drop}
use Rattle.table.specs.Rows.{rows_of}
use Rattle.entries.proofs.Seek.{at_most}
use Rattle.obligations.specs.Output.{slot_bytes}
use Rattle.obligations.specs.Held.{Waits, written_to, enough}
use Rattle.obligations.proofs.Held.{behind_waits}
use Rattle.obligations.proofs.Walk.{slot_length}
use Rattle.obligations.proofs.print_slot.Goals as goal

pub write_slot-requires-clause-listed_slot : goal.write_slot-requires-clause-listed_slot
write_slot-requires-clause-listed_slot c =
    let t = rows_of c.args.index.now.table.words.now in
    (c.requires.stands_at.1, simp (length-take, length-drop) (omega (arith, at_most t c.args.slot c.requires.table_value, c.requires.waits.1)))

pub overflow_add-held : goal.overflow_add-held
overflow_add-held c =
    omega (arith, c.write_slot.ensures.value, at_most (rows_of c.args.index.now.table.words.now) c.args.slot c.requires.table_value, c.requires.waits.1)

pub pass_on-requires : goal.pass_on-requires
pass_on-requires c =
    let t = rows_of c.args.index.now.table.words.now in
    behind_waits c.args.bytes.now c.requires.waits.0 c.requires.stands_at.0 (slot_length t c.args.slot ∙ sym c.write_slot.ensures.value)
    (omega (arith, c.write_slot.ensures.value, at_most t c.args.slot c.requires.table_value, c.requires.waits.1)) c.write_slot.ensures.out_after

pub returns : goal.returns
returns c =
    let wrote : c.args.batch.printer.at + (c.args.batch.held + c.write_slot.result) ≡ written_to c.args.batch + length (slot_bytes (rows_of c.args.index.now.table.words.now) c.args.slot) =
    omega (arith, c.write_slot.ensures.value, slot_length (rows_of c.args.index.now.table.words.now) c.args.slot) in
    IfOk-weaker _ _ (λ after. Waits c.args.bytes.now after _ × (after.held < enough) × (written_to after ≡ written_to c.args.batch + length (slot_bytes (rows_of c.args.index.now.table.words.now) c.args.slot))) (λ after h. (h.0, h.1, h.2 ∙ wrote)) c.pass_on.ensures

-- The header stands in front, and the rest is written into what is left (Slots).
use mathlib.Core.Path.{sym, ap, ◌∙◌}
use native.Mathlib.Omega.{arith}
use Rattle.lists.specs.Over.{over}
use Rattle.lists.proofs.Over.{over_tail}
use Rattle.row.specs.Row.{row_bytes, width}
use Rattle.row.proofs.Form.{row_length_lem}
use Rattle.table.specs.Rows.{rows_of}
use Rattle.reply.specs.Printed.{rows_bytes}
use Rattle.services.specs.Found.{header_row, rest_rows}
use Rattle.services.proofs.Slots.{slot_bytes_lem}
use borrow.Author.Rules.{rules}
use Rattle.services.proofs.write_slot.Goals as goal

pub write_rest-requires : goal.write_rest-requires
write_rest-requires c = record { table_value = c.requires.table_value; listed_slot = (c.requires.listed_slot.0, search rules) }

pub returns : goal.returns
returns c =
    let t = rows_of c.args.index.now.table.words.now in
    let slot = c.args.slot in
    let rest = c.write_rest.ensures in
    record {
      value = omega (arith, rest.value);
      out_after = over_tail (row_bytes width (header_row t slot)) (rows_bytes (rest_rows t slot)) c.args.out.now c.write.new.out
          c.write_rest.new.out 38 (row_length_lem width (header_row t slot))
          (c.write.ensures ∙ ap (λ r. over (row_bytes width r) c.args.out.now) c.header.ensures)
          rest.out_after ∙ ap (λ bs. over bs c.args.out.now) (sym (slot_bytes_lem t slot));
    }

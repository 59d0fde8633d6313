-- Row 84 stands in front, and the entries are written into what is left (Slots).
use mathlib.Core.Path.{sym, ap, ◌∙◌}
use native.Mathlib.Omega.{arith}
use Rattle.lists.specs.Over.{over}
use Rattle.lists.proofs.Over.{over_tail}
use Rattle.row.specs.Row.{row_bytes, width}
use Rattle.row.proofs.Form.{row_length_lem}
use Rattle.table.specs.Rows.{rows_of}
use Rattle.reply.specs.Printed.{rows_bytes}
use Rattle.entries.specs.Written.{entry_rows}
use Rattle.services.specs.Found.{goal_row}
use Rattle.services.proofs.Slots.{rest_bytes}
use Rattle.services.proofs.write_rest.Goals as goal

pub returns : goal.returns
returns c =
    let t = rows_of c.args.index.now.table.words.now in
    let slot = c.args.slot in
    let entries = c.write_entries.ensures in
    record {
      value = omega (arith, entries.value);
      out_after = over_tail (row_bytes width (goal_row t slot)) (rows_bytes (entry_rows t slot)) c.args.out.now c.write.new.out
          c.write_entries.new.out 38 (row_length_lem width (goal_row t slot))
          (c.write.ensures ∙ ap (λ r. over (row_bytes width r) c.args.out.now) c.mentioned.ensures)
          entries.out_after ∙ ap (λ bs. over bs c.args.out.now) (sym (rest_bytes t slot));
    }

-- The goal's row behind those of the hypotheses (Written).
use mathlib.Core.Path.{ap, ◌∙◌}
use native.Mathlib.Omega.{arith}
use Rattle.table.specs.Rows.{rows_of}
use Rattle.entries.specs.Written.{numbers_row}
use Rattle.entries.proofs.Written.{goal_written}
use Rattle.entries.proofs.write_entries.Goals as goal

pub returns : goal.returns
returns c =
    let done = c.write_hypotheses-at.ensures in
    record {
      value = omega (arith, done.value);
      out_after = goal_written (rows_of c.args.index.now.table.words.now) c.args.slot c.args.out.now done.out_after done.value c.requires.slot_in_bounds (c.entry_row.ensures ∙ ap (numbers_row 82) c.goal_at-goal.ensures) c.write.ensures;
    }

use mathlib.Core.Path.{ap, ◌∙◌}
use native.Mathlib.Omega.{arith}
use lib.ListN.{length-take, length-drop}
use Rattle.table.specs.Rows.{rows_of}
use Rattle.segments.proofs.Tables.{end_within}
use Rattle.entries.specs.Written.{numbers_row}
use Rattle.entries.proofs.Seek.{start_stands, passing_stands}
use Rattle.entries.proofs.Written.{progress_start, progress_end, progress_length, room, fewer, progress_next}
use Rattle.entries.proofs.write_hypotheses.Goals as goal

pub seek_entry-cursor-requires : goal.seek_entry-cursor-requires
seek_entry-cursor-requires c = record { table_value = c.requires.table_value; stands = start_stands (rows_of c.args.index.now.table.words.now) c.args.slot c.start.ensures }

pub loop-cursor-init : goal.loop-cursor-init
loop-cursor-init c =
    progress_start (rows_of c.args.index.now.table.words.now) c.args.slot c.args.out.now c.start.ensures c.seek_entry-cursor.ensures

pub segment_entry-entry-requires : goal.segment_entry-entry-requires
segment_entry-entry-requires c = let at = c.loop-cursor.invariant.found c.loop-cursor-test.true in
    omega (arith, at.row, end_within (rows_of c.args.index.now.table.words.now) c.args.slot c.requires.table_value c.loop-cursor.cursor.segment)

pub slice_bounds-write-count : goal.slice_bounds-write-count
slice_bounds-write-count c =
    omega (arith, room c.loop-cursor.invariant c.loop-cursor-test.true c.requires.slot_in_bounds)

pub slice_bounds-write-start : goal.slice_bounds-write-start
slice_bounds-write-start c =
    omega (arith, room c.loop-cursor.invariant c.loop-cursor-test.true c.requires.slot_in_bounds)

pub slice_bounds-write-end : goal.slice_bounds-write-end
slice_bounds-write-end c =
    omega (arith, room c.loop-cursor.invariant c.loop-cursor-test.true c.requires.slot_in_bounds)

pub write-requires : goal.write-requires
write-requires c =
    simp (length-take, length-drop) (omega (arith, room c.loop-cursor.invariant c.loop-cursor-test.true c.requires.slot_in_bounds))

pub seek_entry-cursor-requires-in-loop-cursor : goal.seek_entry-cursor-requires-in-loop-cursor
seek_entry-cursor-requires-in-loop-cursor c = record { table_value = c.requires.table_value; stands = passing_stands (rows_of c.args.index.now.table.words.now) c.args.slot c.passing.ensures c.loop-cursor.invariant.stands }

pub overflow_add-at : goal.overflow_add-at
overflow_add-at c =
    omega (arith, room c.loop-cursor.invariant c.loop-cursor-test.true c.requires.slot_in_bounds, c.loop-cursor.invariant.size, c.well_formed)

pub loop-cursor-smaller : goal.loop-cursor-smaller
loop-cursor-smaller c =
    fewer c.loop-cursor.invariant c.loop-cursor-test.true c.requires.slot_in_bounds c.passing.ensures c.seek_entry-cursor-in-loop-cursor.ensures

pub loop-cursor-preserved : goal.loop-cursor-preserved
loop-cursor-preserved c =
    progress_next c.loop-cursor.invariant c.loop-cursor-test.true c.requires.slot_in_bounds c.passing.ensures c.seek_entry-cursor-in-loop-cursor.ensures
    (c.entry_row.ensures ∙ ap (numbers_row 81) c.segment_entry-entry.ensures) c.write.ensures

pub shape_of-out : goal.shape_of-out
shape_of-out c = c.loop-cursor.invariant.size

pub returns : goal.returns
returns c =
    record {
      value = progress_length c.loop-cursor.invariant c.loop-cursor-test.false;
      out_after = progress_end c.loop-cursor.invariant c.loop-cursor-test.false;
    }

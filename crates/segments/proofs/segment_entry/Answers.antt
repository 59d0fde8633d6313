-- By whether the segment's entries are moves (Tables).
use mathlib.Core.Path.{◌∙◌}
use Rattle.table.specs.Rows.{rows_of}
use Rattle.segments.proofs.Tables.{entry_moves, entry_written}
use Rattle.segments.proofs.segment_entry.Goals as goal

pub returns-then-part-eq-MOVES : goal.returns-then-part-eq-MOVES
returns-then-part-eq-MOVES c =
    c.of_event.ensures ∙ entry_moves (rows_of c.args.index.now.table.words.now) c.args.slot c.args.segment c.args.j c.item_at-x.result c.segment_at-part.result c.segment_at-part.ensures c.item_at-x.ensures c.if-part-eq-MOVES.true

pub returns : goal.returns
returns c =
    c.of_one.ensures ∙ entry_written (rows_of c.args.index.now.table.words.now) c.args.slot c.args.segment c.args.j c.item_at-x.result c.segment_at-part.result c.segment_at-part.ensures c.item_at-x.ensures c.if-part-eq-MOVES.false

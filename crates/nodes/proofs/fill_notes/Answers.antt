-- One step after the other: the spans, nothing noted, the actions, the nodes.
use Rattle.table.specs.Rows.{rows_of}
use Rattle.nodes.proofs.Stored.{noted_none}
use Rattle.nodes.proofs.fill_notes.Goals as goal

pub note_actions-requires : goal.note_actions-requires
note_actions-requires c =
    noted_none (rows_of c.args.table.now.words.now) c.fill_spans.new.spans c.clear_notes.new.spans
    c.fill_spans.ensures c.clear_notes.ensures

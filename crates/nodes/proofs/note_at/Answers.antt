-- Above the limit nothing is noted; else what the list holds.
use mathlib.Core.Path.{◌∙◌}
use Rattle.table.specs.Rows.{rows_of}
use Rattle.nodes.proofs.Stored.{node_above}
use Rattle.nodes.proofs.note_at.Goals as goal

pub returns-then-n-gt-NODES : goal.returns-then-n-gt-NODES
returns-then-n-gt-NODES c =
    let a = c.args in
    c.empty_note.ensures ∙ node_above (rows_of a.rows.now.words.now) a.n c.if-n-gt-NODES.true

pub returns : goal.returns
returns c =
    c.load.ensures ∙ c.args.rows.now.noted.nodes c.args.n c.if-n-gt-NODES.false

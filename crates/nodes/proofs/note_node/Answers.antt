-- One note more is stored.
use Prim.Native.Nat.{◌+◌}
use mathlib.Core.Path.{sym, subst}
use Rattle.table.specs.Rows.{rows_of}
use Rattle.nodes.specs.Steps.{NotedTo}
use Rattle.nodes.proofs.Stored.{node_noted}
use Rattle.nodes.proofs.note_node.Goals as goal

pub returns : goal.returns
returns c =
    let t = rows_of c.args.table.now.words.now in
    subst (NotedTo t (c.args.n + 1) t.size) (sym c.store.ensures)
    (node_noted t c.args.spans.now c.args.n t.size c.make_note-made.result c.requires.1 c.make_note-made.ensures c.requires.2)

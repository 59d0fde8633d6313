use Prim.Native.Nat.{◌+◌}
use native.Mathlib.Omega.{arith}
use Rattle.table.specs.Rows.{rows_of}
use Rattle.nodes.proofs.Stored.{nodes_counted, noted_all}
use Rattle.nodes.proofs.note_nodes.Goals as goal

pub returns : goal.returns
returns c =
    let t = rows_of c.args.table.now.words.now in
    noted_all t c.loop-n.spans c.loop-n.n c.args.table.now.counts.nodes (nodes_counted t c.args.table.now.counts c.args.table.now.counted) (omega (arith, c.min-last.ensures)) c.loop-n.invariant.1

pub returns-2 : goal.returns-2
returns-2 c =
    let t = rows_of c.args.table.now.words.now in
    noted_all t c.note_node.new.spans (c.loop-n.n + 1) c.args.table.now.counts.nodes (nodes_counted t c.args.table.now.counts c.args.table.now.counted) (omega (arith, c.min-last.ensures)) c.note_node.ensures

-- The target, and what is noted of the root.
use mathlib.Core.Path.{ap, ap₂, ◌∙◌}
use lib.Bits.{bit_or}
use Rattle.table.specs.Rows.{rows_of}
use Rattle.notes.specs.Notes.{note_of}
use Rattle.nodes.specs.Notes.{noted_tree}
use Rattle.mentioned.proofs.witness_set.Goals as goal

pub returns : goal.returns
returns c =
    let t = rows_of c.args.rows.now.words.now in
    ap₂ bit_or c.single.ensures (ap (λ n. n.mentioned) (c.note_at-note.ensures ∙ ap (λ r. note_of (noted_tree t r)) c.witness_root.ensures))

-- One more than the hypotheses.
use native.Mathlib.Omega.{arith}
use Rattle.table.specs.Rows.{rows_of}
use Rattle.entries.proofs.Seek.{at_most}
use Rattle.entries.proofs.count_entries.Goals as goal

pub overflow_add-result : goal.overflow_add-result
overflow_add-result c =
    omega (arith, c.count_hypotheses.ensures, at_most (rows_of c.args.index.now.table.words.now) c.args.slot c.requires)

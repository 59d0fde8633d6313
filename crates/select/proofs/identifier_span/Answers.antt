-- As many as the counts say.
use mathlib.Core.Path.{ap}
use Rattle.table.specs.Rows.{rows_of}
use Rattle.table.proofs.Counts.{counts_identifiers}
use Rattle.select.specs.Selection.{between}
use Rattle.select.proofs.identifier_span.Goals as goal

pub returns : goal.returns
returns c =
    ap (between 0) (counts_identifiers (rows_of c.args.table.now.words.now) c.args.table.now.counts c.args.table.now.counted)

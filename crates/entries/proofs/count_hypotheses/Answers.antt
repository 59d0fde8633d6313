-- No hypothesis stands behind twice as many as there are words, so that the walk comes to the end, with what it did not pass left (Seek).
use native.Mathlib.Omega.{arith}
use Rattle.table.specs.Rows.{rows_of}
use Rattle.entries.proofs.Seek.{at_most, start_stands, counted}
use Rattle.entries.proofs.count_hypotheses.Goals as goal

pub seek_entry-end-requires : goal.seek_entry-end-requires
seek_entry-end-requires c = record { table_value = c.requires; stands = start_stands (rows_of c.args.index.now.table.words.now) c.args.slot c.start.ensures }

pub overflow_sub-result : goal.overflow_sub-result
overflow_sub-result c =
    omega (arith, counted c.start.ensures c.seek_entry-end.ensures (omega (arith, at_most (rows_of c.args.index.now.table.words.now) c.args.slot c.requires)))

pub returns : goal.returns
returns c =
    omega (arith, counted c.start.ensures c.seek_entry-end.ensures (omega (arith, at_most (rows_of c.args.index.now.table.words.now) c.args.slot c.requires)))

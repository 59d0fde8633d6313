-- The walk from the start comes to the hypothesis, or to the end, where the goal is (Seek).
use mathlib.Core.Path.{sym, ap, ◌∙◌}
use native.Mathlib.Omega.{arith}
use Rattle.table.specs.Rows.{rows_of}
use Rattle.sequent.specs.Numbers.{numbers_of}
use Rattle.segments.proofs.Tables.{end_within}
use Rattle.entries.proofs.Seek.{start_stands, hypothesis_found, goal_found}
use Rattle.entries.proofs.entry_at.Goals as goal

pub seek_entry-found-requires : goal.seek_entry-found-requires
seek_entry-found-requires c = record { table_value = c.requires.table_value; stands = start_stands (rows_of c.args.index.now.table.words.now) c.args.slot c.start.ensures }

pub segment_entry-requires : goal.segment_entry-requires
segment_entry-requires c = let t = rows_of c.args.index.now.table.words.now in
    let r = c.seek_entry-found.result in
    omega (arith, (c.seek_entry-found.ensures.found c.if-segment-lt-COUNT.true).row, end_within t c.args.slot c.requires.table_value r.segment)

pub returns-then-segment-lt-COUNT : goal.returns-then-segment-lt-COUNT
returns-then-segment-lt-COUNT c =
    c.segment_entry.ensures ∙ ap numbers_of (sym (hypothesis_found c.start.ensures c.seek_entry-found.ensures c.if-segment-lt-COUNT.true))

pub returns : goal.returns
returns c =
    c.goal_at.ensures ∙ ap numbers_of (sym (goal_found c.start.ensures c.seek_entry-found.ensures c.if-segment-lt-COUNT.false))

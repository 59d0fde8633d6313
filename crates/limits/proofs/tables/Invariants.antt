-- The loop's invariant: what is laid out lies within the table, whose length stays.
use Rattle.std.proofs.Common.{◌≡◌, ◌≤◌, length}
use Rattle.limits.proofs.tables.Given as goal

abbrev pub invariant-loop-i : goal.invariant-loop-i
invariant-loop-i g l = (l.layout.at ≤ length l.table) × (length l.table ≡ length l.initial.table)

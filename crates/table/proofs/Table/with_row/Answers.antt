-- Each count from its own test.
use Rattle.table.proofs.Table.with_row.Goals as goal

pub returns : goal.returns
returns c =
    simp (c.one_if-6.ensures.value, c.one_if-5.ensures.value, c.one_if-4.ensures.value, c.one_if-3.ensures.value, c.one_if-2.ensures.value, c.one_if.ensures.value)

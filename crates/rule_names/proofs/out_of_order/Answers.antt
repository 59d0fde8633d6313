-- Each part of the test from the rows that it reads.
use Rattle.rule_names.proofs.out_of_order.Goals as goal

pub returns : goal.returns
returns c =
    simp (c.some_row-2.ensures, c.b_at.ensures, c.some_row.ensures, c.a_at-machine.ensures)

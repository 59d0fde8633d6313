-- By whether the row stands for a variable.
use mathlib.Core.Path.{sym, ◌∙◌}
use native.Mathlib.Omega.{arith}
use Rattle.table.specs.Rows.{rows_of}
use Rattle.select.proofs.Selected.{identifier_within}
use Rattle.select.proofs.assigned_at.Goals as goal

pub overflow_add-j : goal.overflow_add-j
overflow_add-j c =
    let a = c.args in
    omega (arith, identifier_within (rows_of a.index.now.table.words.now) a.j _ (sym c.variable_at.ensures ∙ c.if-variable_at.true))

pub returns-then-variable_at : goal.returns-then-variable_at
returns-then-variable_at c =
    rw (sym c.variable_at.ensures ∙ c.if-variable_at.true) c.is_assigned.ensures

pub returns : goal.returns
returns c = rw (sym c.variable_at.ensures ∙ c.if-variable_at.false)

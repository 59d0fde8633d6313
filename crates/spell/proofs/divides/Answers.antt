-- By the condition.
use mathlib.Core.Path.{ap, sym, ◌∙◌}
use Rattle.spell.specs.Spell.{is_division}
use Rattle.spell.proofs.divides.Goals as goal

pub returns-in-Nothing : goal.returns-in-Nothing
returns-in-Nothing c =
    ap is_division (sym c.in-Nothing.is ∙ c.find_condition-condition.ensures)

pub returns-in-Divisor : goal.returns-in-Divisor
returns-in-Divisor c =
    ap is_division (sym c.in-Divisor.is ∙ c.find_condition-condition.ensures)

pub returns-in-Operands : goal.returns-in-Operands
returns-in-Operands c =
    ap is_division (sym c.in-Operands.is ∙ c.find_condition-condition.ensures)

pub returns-in-LeftTrue : goal.returns-in-LeftTrue
returns-in-LeftTrue c =
    ap is_division (sym c.in-LeftTrue.is ∙ c.find_condition-condition.ensures)

pub returns-in-LeftFalse : goal.returns-in-LeftFalse
returns-in-LeftFalse c =
    ap is_division (sym c.in-LeftFalse.is ∙ c.find_condition-condition.ensures)

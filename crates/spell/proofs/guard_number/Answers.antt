-- By the condition.
use mathlib.Core.Path.{ap, sym, ◌∙◌}
use Rattle.spell.specs.Spell.{guard_of}
use Rattle.spell.proofs.guard_number.Goals as goal

pub returns-in-Nothing : goal.returns-in-Nothing
returns-in-Nothing c =
    ap guard_of (sym c.in-Nothing.is ∙ c.find_condition-condition.ensures)

pub returns-in-Divisor : goal.returns-in-Divisor
returns-in-Divisor c =
    ap guard_of (sym c.in-Divisor.is ∙ c.find_condition-condition.ensures)

pub returns-in-Operands : goal.returns-in-Operands
returns-in-Operands c =
    ap guard_of (sym c.in-Operands.is ∙ c.find_condition-condition.ensures)

pub returns-in-LeftTrue : goal.returns-in-LeftTrue
returns-in-LeftTrue c =
    ap guard_of (sym c.in-LeftTrue.is ∙ c.find_condition-condition.ensures)

pub returns-in-LeftFalse : goal.returns-in-LeftFalse
returns-in-LeftFalse c =
    ap guard_of (sym c.in-LeftFalse.is ∙ c.find_condition-condition.ensures)

-- By the condition.
use mathlib.Core.Path.{sym, ◌∙◌}
use Rattle.spell.proofs.Defined.{closing_of_lem}
use Rattle.spell.proofs.Written.{spelled_none, spelled_as}
use Rattle.spell.proofs.spell_closing.Goals as goal

pub returns-in-Nothing : goal.returns-in-Nothing
returns-in-Nothing c =
    spelled_as (closing_of_lem c.args.operator _ _ (sym c.in-Nothing.is ∙ c.find_condition-condition.ensures)) (spelled_none c.args.out.now)

pub returns-in-Divisor : goal.returns-in-Divisor
returns-in-Divisor c =
    spelled_as (closing_of_lem c.args.operator _ _ (sym c.in-Divisor.is ∙ c.find_condition-condition.ensures)) c.spell_nonzero.ensures

pub returns-in-Operands : goal.returns-in-Operands
returns-in-Operands c =
    spelled_as (closing_of_lem c.args.operator _ _ (sym c.in-Operands.is ∙ c.find_condition-condition.ensures)) c.spell_natural.ensures

pub returns-in-LeftTrue : goal.returns-in-LeftTrue
returns-in-LeftTrue c =
    spelled_as (closing_of_lem c.args.operator _ _ (sym c.in-LeftTrue.is ∙ c.find_condition-condition.ensures)) (spelled_none c.args.out.now)

pub returns-in-LeftFalse : goal.returns-in-LeftFalse
returns-in-LeftFalse c =
    spelled_as (closing_of_lem c.args.operator _ _ (sym c.in-LeftFalse.is ∙ c.find_condition-condition.ensures)) (spelled_none c.args.out.now)

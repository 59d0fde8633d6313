-- By whether the identifier is a variable of the concrete machine.
use mathlib.Core.Path.{sym, ap, ◌∙◌}
use lib.IntN.{pos}
use lib.ListN.{get_or, set}
use Rattle.lists.specs.Choice.{pick}
use Rattle.signed.proofs.Numbers.{seen_is}
use Rattle.values.proofs.move_value.Goals as goal

pub returns-then-is_state_variable : goal.returns-then-is_state_variable
returns-then-is_state_variable c =
    let present = c.args.present.now in
    let moved = set present c.args.x (get_or c.args.after.now c.args.x (pos 0)) in
    c.put.ensures ∙ ap (set present c.args.x) (seen_is c.value_at.result c.value_at.type_inv c.value_at.ensures)
    ∙ sym (ap (λ b. pick b moved present) (sym c.is_state_variable.ensures ∙ c.if-is_state_variable.true))

pub returns-else-is_state_variable : goal.returns-else-is_state_variable
returns-else-is_state_variable c =
    let present = c.args.present.now in
    let moved = set present c.args.x (get_or c.args.after.now c.args.x (pos 0)) in
    sym (ap (λ b. pick b moved present) (sym c.is_state_variable.ensures ∙ c.if-is_state_variable.false))

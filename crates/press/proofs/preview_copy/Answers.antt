-- By whether the press was performed.
use mathlib.Core.Path.{sym, ◌∙◌}
use Rattle.press.proofs.Preview.{room_is, preview_kept, preview_made}
use Rattle.press.proofs.preview_copy.Goals as goal

pub returns-then-is_ok : goal.returns-then-is_ok
returns-then-is_ok c =
    let a = c.args in
    let room = c.room_of-room.ensures in
    let both = preview_made a.table.now a.step.now a.copy.now a.sorts.now a.second.now a.types.now (room ∙ room_is a.second.now a.types.now) c.press_to-reply.ensures.value c.press_to-reply.ensures.values_after
    (sym c.is_ok.ensures.value ∙ c.if-is_ok.true) c.copy_list.ensures c.copy_list-then-is_ok.ensures in
    record { value = both.0; second_after = both.1.0; types_after = both.1.1 }

pub returns-else-is_ok : goal.returns-else-is_ok
returns-else-is_ok c =
    let a = c.args in
    let room = c.room_of-room.ensures in
    let both = preview_kept a.table.now a.step.now a.copy.now a.sorts.now a.second.now a.types.now (room ∙ room_is a.second.now a.types.now) c.press_to-reply.ensures.value c.press_to-reply.ensures.values_after
    (sym c.is_ok.ensures.value ∙ c.if-is_ok.false) in
    record { value = both.0; second_after = both.1.0; types_after = both.1.1 }

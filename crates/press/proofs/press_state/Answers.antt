-- By whether it is a state, and there is room for it.
use Rattle.table.specs.Rows.{rows_of}
use Rattle.table.proofs.Counts.{counts_identifiers}
use Rattle.press.proofs.Press.{state_pressed, state_refused, state_length}
use Rattle.press.proofs.press_state.Goals as goal

pub press_values-requires : goal.press_values-requires
press_values-requires c = let a = c.args in
    let t = rows_of a.scanned.now.table.words.now in
    (c.requires, state_length t a.step.now a.values.now a.sorts.now a.room c.is_state.ensures (counts_identifiers t a.scanned.now.table.counts c.args.scanned.now.table.counted) c.if-is_state-room.true)

pub returns-then-is_state-room : goal.returns-then-is_state-room
returns-then-is_state-room c =
    let a = c.args in
    let t = rows_of a.scanned.now.table.words.now in
    let both = state_pressed t a.step.now a.values.now a.sorts.now a.room c.is_state.ensures (counts_identifiers t a.scanned.now.table.counts c.args.scanned.now.table.counted) c.if-is_state-room.true (c.press_values.ensures.value, c.press_values.ensures.values_after) in
    record { value = both.0; values_after = both.1 }

pub returns : goal.returns
returns c =
    let a = c.args in
    let t = rows_of a.scanned.now.table.words.now in
    let both = state_refused t a.step.now a.values.now a.sorts.now a.room c.is_state.ensures (counts_identifiers t a.scanned.now.table.counts c.args.scanned.now.table.counted) c.if-is_state-room.false in
    record { value = both.0; values_after = both.1 }

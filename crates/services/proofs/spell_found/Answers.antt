-- By whether there is such an entry (Slots), then by whether its rows have room (spell's Room).
use Prim.Native.Nat.{◌-◌, ◌≤◌}
use mathlib.Core.Path.{ap, ap₂, sym, ◌∙◌}
use native.Mathlib.Omega.{arith}
use lib.ListN.{length}
use Rattle.std.specs.Prelude.{Ok}
use Rattle.table.specs.Rows.{rows_of}
use Rattle.reply.specs.Replies.{write_rows}
use Rattle.spell.specs.Spell.{entry_rows}
use Rattle.spell.proofs.Written.{all_rows}
use Rattle.spell.proofs.Room.{rows_above, rows_within}
use Rattle.services.specs.Found.{outcome}
use Rattle.services.proofs.Slots.{no_entry, an_entry, spelled_entry_lem, among_low, among_high, no_room, room}
use Prim.Native.Nat.{◌-◌, ◌≤◌}
use Rattle.entries.specs.Sequent.{hypothesis_count}
use Rattle.services.proofs.spell_found.Goals as goal

pub returns-then-not-among : goal.returns-then-not-among
returns-then-not-among c =
    let t = rows_of c.args.index.now.table.words.now in
    sym (no_entry t c.args.slot c.args.j c.count_entries.result c.args.out.now c.count_entries.ensures (sym c.among.ensures ∙ c.if-not-among.true))

pub overflow_sub-j : goal.overflow_sub-j
overflow_sub-j c =
    among_low c.args.j c.count_entries.result (sym c.among.ensures ∙ c.if-not-among.false)

pub entry_at-entry-requires : goal.entry_at-entry-requires
entry_at-entry-requires c = record { table_value = c.requires; k_bound = omega (arith, c.count_entries.ensures, among_high c.args.j c.count_entries.result (sym c.among.ensures ∙ c.if-not-among.false)) }

pub returns-then-out-rows : goal.returns-then-out-rows
returns-then-out-rows c =
    let t = rows_of c.args.index.now.table.words.now in
    let entry = c.entry_at-entry in
    let named = sym c.among.ensures ∙ c.if-not-among.false in
    let inside : c.args.j - 1 ≤ hypothesis_count t c.args.slot = omega (arith, c.count_entries.ensures, among_high c.args.j c.count_entries.result named) in
    sym (an_entry t c.args.slot c.args.j c.count_entries.result c.args.out.now c.count_entries.ensures named
    ∙ ap (λ rs. write_rows rs c.args.out.now) (spelled_entry_lem t c.args.slot c.args.j entry.result inside entry.ensures)
    ∙ no_room (entry_rows t entry.result) c.args.out.now (rows_above (length c.args.out.now) (length (entry_rows t entry.result)) c.spell-rows.result (omega (arith, c.well_formed)) c.spell-rows.ensures.counted c.if-out-rows.true))

pub returns : goal.returns
returns c =
    let t = rows_of c.args.index.now.table.words.now in
    let entry = c.entry_at-entry in
    let named = sym c.among.ensures ∙ c.if-not-among.false in
    let inside : c.args.j - 1 ≤ hypothesis_count t c.args.slot = omega (arith, c.count_entries.ensures, among_high c.args.j c.count_entries.result named) in
    let fits = rows_within (length c.args.out.now) (length (entry_rows t entry.result)) c.spell-rows.result (omega (arith, c.well_formed)) c.spell-rows.ensures.counted c.if-out-rows.false in
    ap₂ (λ n out. outcome (Ok n) out) fits.1 (all_rows c.spell.ensures fits.0)
    ∙ sym (an_entry t c.args.slot c.args.j c.count_entries.result c.args.out.now c.count_entries.ensures named
    ∙ ap (λ rs. write_rows rs c.args.out.now) (spelled_entry_lem t c.args.slot c.args.j entry.result inside entry.ensures)
    ∙ room (entry_rows t entry.result) c.args.out.now fits.0)

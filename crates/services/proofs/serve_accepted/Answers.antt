-- By whether there is a sequent k; then it is the one that is found (Found).
use mathlib.Core.Path.{ap, sym, ◌∙◌}
use native.Mathlib.Omega.{arith}
use Rattle.table.specs.Rows.{rows_of}
use Rattle.machine.specs.Described.{machine_of}
use Rattle.reply.specs.Replies.{among}
use Rattle.lists.proofs.Choice.{chosen, not_chosen}
use Rattle.services.specs.Found.{serve_at}
use Rattle.rules.proofs.Cases.{judge_passes, judged_count}
use Rattle.services.proofs.Slots.{among_low, among_high}
use Rattle.services.proofs.serve_accepted.Goals as goal

pub returns-then-not-among : goal.returns-then-not-among
returns-then-not-among c =
    sym (not_chosen (among c.args.k c.args.count) _ _ (sym c.among.ensures ∙ c.if-not-among.true))

pub find_sequent-slot-requires : goal.find_sequent-slot-requires
find_sequent-slot-requires c =
    let t = rows_of c.args.index.now.table.words.now in
    let k = sym c.among.ensures ∙ c.if-not-among.false in (judge_passes t c.args.count c.requires, among_low c.args.k c.args.count k, omega (arith, among_high c.args.k c.args.count k, judged_count t c.args.count c.requires))

pub serve_found-requires : goal.serve_found-requires
serve_found-requires c = record { table_value = c.find_sequent-slot.ensures.row; listed_slot = c.find_sequent-slot.ensures.listed }

pub returns : goal.returns
returns c =
    let t = rows_of c.args.index.now.table.words.now in
    c.serve_found.ensures
    ∙ ap (serve_at (machine_of t) c.args.request c.args.out.now) (sym c.find_sequent-slot.ensures.holds)
    ∙ sym (chosen (among c.args.k c.args.count) _ _ (sym c.among.ensures ∙ c.if-not-among.false))

-- By what is asked.
use mathlib.Core.Path.{ap, sym, ◌∙◌}
use Rattle.table.specs.Rows.{rows_of}
use Rattle.machine.specs.Described.{machine_of}
use Rattle.services.specs.Found.{serve_at}
use Rattle.entries.specs.Sequent.{slot_sequent}
use Rattle.services.proofs.serve_found.Goals as goal

pub returns-in-Write : goal.returns-in-Write
returns-in-Write c =
    let t = rows_of c.args.index.now.table.words.now in
    c.write_found.ensures ∙ sym (ap (λ r. serve_at (machine_of t) r c.args.out.now (slot_sequent t c.args.slot)) c.in-Write.is)

pub returns-in-Spell : goal.returns-in-Spell
returns-in-Spell c =
    let t = rows_of c.args.index.now.table.words.now in
    c.spell_found.ensures ∙ sym (ap (λ r. serve_at (machine_of t) r c.args.out.now (slot_sequent t c.args.slot)) c.in-Spell.is)

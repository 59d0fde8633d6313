-- The search starts in the walk and ends in the slot that holds the sequent (Found).
use Prim.Native.Nat.{◌-◌}
use mathlib.Core.Path.{sym, subst}
use mathlib.Core.Logic.{inl}
use Rattle.table.specs.Rows.{rows_of}
use Rattle.walk.specs.Slots.{InWalk, position, SoughtSlot}
use Rattle.walk.proofs.Counts.{start_within}
use Rattle.services.proofs.Found.{located}
use Rattle.services.proofs.find_sequent.Goals as goal

pub seek-requires : goal.seek-requires
seek-requires c = let t = rows_of c.args.index.now.table.words.now in
    subst (InWalk t) (sym c.start.ensures) (inl (start_within t (c.args.k - 1)))

pub returns : goal.returns
returns c =
    let t = rows_of c.args.index.now.table.words.now in
    located t c.requires.0 c.args.k c.seek.result c.requires.1 c.requires.2 (subst (λ from. SoughtSlot t (position t from) c.seek.result) c.start.ensures c.seek.ensures)

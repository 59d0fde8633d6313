-- An entry whose formula is formed by the table's nodes: every root that it takes is a node with a formula (`Formed`), and a witness that it names is one of
-- the event's.
use Rattle.std.specs.Prelude.{◌≡◌, List, ℕ}
use Rattle.lists.specs.All.{In}
use Rattle.table.specs.Rows.{Rows}
use Rattle.machine.specs.Machine.{Action, unassigned, becomes_equal, becomes_such_that, Witness, Machine}
use Rattle.machine.specs.Node.{Formed}
use Rattle.sequent.specs.Entry.{Entry, written, primed, defined, moves, feasible, witnessed, natural, decreases, not_increased, unchanged, witness_root}

-- a property of the root of an action, where it has one
abbrev pub ActionRoot : (ℕ → Type 0) → Action → Type 0
ActionRoot P unassigned = Unit {0}
ActionRoot P (becomes_equal r) = P r
ActionRoot P (becomes_such_that r) = P r

-- the witness that a target's root is taken from
pub record WitnessFor (ws : List Witness) (x : ℕ) : Type 0 where
  pub witness : Witness
  pub listed : In witness ws
  pub target : witness.target ≡ x
  pub root : witness_root ws x ≡ witness.root

module _ (t : Rows) (m : Machine) where
  abbrev pub HasFormula : ℕ → Type 0
  HasFormula r = Formed t r (m.tree r)

  abbrev pub EntryFormed : Entry → Type 0
  EntryFormed (written r) = HasFormula r
  EntryFormed (primed r) = HasFormula r
  EntryFormed (defined r) = HasFormula r
  EntryFormed (moves e x) = ActionRoot HasFormula (m.action e x)
  EntryFormed (feasible e x) = ActionRoot HasFormula (m.action e x)
  EntryFormed (witnessed e x) = WitnessFor (m.witnesses e) x × HasFormula (witness_root (m.witnesses e) x)
  EntryFormed (natural r) = HasFormula r
  EntryFormed (decreases r) = HasFormula r
  EntryFormed (not_increased r) = HasFormula r
  EntryFormed (unchanged x) = Unit {0}

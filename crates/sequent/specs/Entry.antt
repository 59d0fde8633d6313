-- 01, Sequents: "An entry has a form and two numbers", and the formula that it spells.
use Rattle.std.specs.Prelude.{Bool, List, [], ◌∷◌, ℕ, eqb}
use Rattle.lists.specs.Choice.{pick}
use Rattle.formula.specs.Tree.{literal, equal, less, at_most, Tree, constant, identifier, after, binary}
use Rattle.formula.specs.WellDefined.{well_defined}
use Rattle.formula.specs.AfterValues.{at_after}
use Rattle.formula.specs.Formula.{Formula, plain, some_value, some_after_value}
use Rattle.machine.specs.Machine.{is_variable, Action, unassigned, becomes_equal, becomes_such_that, Witness, Machine}

-- forms 1 to 10
pub data Entry : Type 0 where
  -- "1 node as written"
  written : ℕ → Entry
  -- "2 node with every variable at its after value"
  primed : ℕ → Entry
  -- "3 WD of a node"
  defined : ℕ → Entry
  -- "4 event and variable: the action's equation or predicate, or "after equals before" if unassigned"
  moves : ℕ → ℕ → Entry
  -- "5 event and variable: some after value meets the action"
  feasible : ℕ → ℕ → Entry
  -- "6 event and identifier: some value meets the witness"
  witnessed : ℕ → ℕ → Entry
  -- "7 0 ≤ variant"
  natural : ℕ → Entry
  -- "8 variant after < variant"
  decreases : ℕ → Entry
  -- 02, request 1: "variant after ≤ variant (form 9, root, 0)"
  not_increased : ℕ → Entry
  -- 02, request 2: "form 10 (variable, 0), after equals before"
  unchanged : ℕ → Entry

-- the root of the witness for a target; 0, which is no node, where there is none
abbrev pub witness_root : List Witness → ℕ → ℕ
witness_root [] x = 0
witness_root (w ∷ ws) x = pick (eqb w.target x) w.root (witness_root ws x)

module _ (m : Machine) where
  abbrev pub variable : ℕ → Bool
  variable x = is_variable (m.kind x)

  -- "Forms 4 and 8 put the after side first.", and so do 9 and 10
  abbrev pub action_tree : Action → ℕ → Tree
  action_tree unassigned x = binary equal (after x) (identifier x)
  action_tree (becomes_equal r) x = binary equal (after x) (m.tree r)
  action_tree (becomes_such_that r) x = m.tree r

  abbrev pub witness_tree : ℕ → ℕ → Tree
  witness_tree e x = m.tree (witness_root (m.witnesses e) x)

  abbrev pub formula : Entry → Formula
  formula (written r) = plain (m.tree r)
  formula (primed r) = plain (at_after variable (m.tree r))
  formula (defined r) = plain (well_defined (m.tree r))
  formula (moves e x) = plain (action_tree (m.action e x) x)
  formula (feasible e x) = some_after_value x (action_tree (m.action e x) x)
  formula (witnessed e x) = pick (variable x) (some_after_value x (witness_tree e x)) (some_value x (witness_tree e x))
  formula (natural r) = plain (binary at_most (constant (literal 0)) (m.tree r))
  formula (decreases r) = plain (binary less (at_after variable (m.tree r)) (m.tree r))
  formula (not_increased r) = plain (binary at_most (at_after variable (m.tree r)) (m.tree r))
  formula (unchanged x) = plain (action_tree unassigned x)

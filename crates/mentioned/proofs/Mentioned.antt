-- In a table that meets every rule the set of a listed sequent's entry is that of the identifiers in its spelled rows: every root is a node, so that its formula is
-- noted, and a set has each identifier once.
use Prim.Native.Nat.{ℕ}
use mathlib.Core.Path.{◌≡◌, refl, sym, ap, ap₂, ◌∙◌}
use mathlib.Core.Bool.{Bool, true, false}
use mathlib.Core.Logic.{inl, inr}
use mathlib.Core.List.{List, [], ◌∷◌, ◌++◌}
use native.Mathlib.Omega.{arith}
use lib.Bits.{bit_or, or_self}
use Rattle.lists.specs.Choice.{pick}
use Rattle.formula.specs.AfterValues.{at_after}
use Rattle.formula.specs.WellDefined.{well_defined}
use Rattle.formula.specs.Identifiers.{identifiers}
use Rattle.formula.specs.Formula.{some_value, some_after_value}
use Rattle.formula.proofs.Identifiers.{identifiers_at_after}
use Rattle.sets.specs.Set.{set_of}
use Rattle.sets.proofs.Set.{set_join}
use Rattle.table.specs.Rows.{Rows, tagged}
use Rattle.table.proofs.Sections.{named_bounds}
use Rattle.machine.specs.Machine.{Action, unassigned, becomes_equal, becomes_such_that, Machine}
use Rattle.machine.specs.Described.{action_of, machine_of}
use Rattle.sequent.specs.Entry.{Entry, variable, action_tree, witness_tree, formula}
use Rattle.sequent.proofs.Entries.{Root, action_root, root_of_witness, witness_for}
use Rattle.sequent.proofs.Entries.{EntryOf, of_written, of_primed, of_defined, of_moves, of_feasible, of_witnessed, of_natural, of_decreases, of_not_increased, of_unchanged}
use Rattle.rules.proofs.Obeys.{Obeys}
use Rattle.rules.proofs.Formed.{root_named}
use Rattle.rules.proofs.Full.{few_nodes}
use Rattle.nodes.specs.Notes.{noted_tree}
use Rattle.nodes.proofs.Touched.{noted_tree_lem}
use Rattle.select.specs.Selection.{action_row, is_assigned}
use Rattle.reply.specs.Mentioned.{formula_identifiers}
use Rattle.spell.specs.Spell.{witness_node}
use Rattle.mentioned.specs.Mentioned.{node_set, action_set, witness_set, entry_set}

-- a list twice, and a member twice
set_twice : (xs : List ℕ) → set_of (xs ++ xs) ≡ set_of xs
set_twice xs = sym (set_join xs xs) ∙ or_self (set_of xs)

set_before : (x : ℕ) (xs : List ℕ) → bit_or (set_of (x ∷ [])) (set_of xs) ≡ set_of (x ∷ xs)
set_before x xs = set_join (x ∷ []) xs

module _ (t : Rows) (ok : Obeys t) where
  abbrev m : Machine
  m = machine_of t

  root_noted : {r : ℕ} → Root m r → noted_tree t r ≡ m.tree r
  unfolding machine_of
  root_noted {r} q =
      let b = named_bounds t 20 r (root_named t ok q) in
      noted_tree_lem t r (omega (arith, b.1, few_nodes t ok.full)) b.1

  root_set : {r : ℕ} → Root m r → node_set t r ≡ set_of (identifiers (m.tree r))
  root_set q = ap (λ f. set_of (identifiers f)) (root_noted q)

  after_set : {r : ℕ} → Root m r → node_set t r ≡ set_of (identifiers (at_after (variable m) (m.tree r)))
  after_set {r} q = root_set q ∙ ap set_of (sym (identifiers_at_after (variable m) (m.tree r)))

  twice_set : {r : ℕ} → Root m r → node_set t r ≡ set_of (identifiers (at_after (variable m) (m.tree r)) ++ identifiers (m.tree r))
  twice_set {r} q = root_set q ∙ sym (ap (λ xs. set_of (xs ++ identifiers (m.tree r))) (identifiers_at_after (variable m) (m.tree r)) ∙ set_twice (identifiers (m.tree r)))

  -- form 4, by the tests on the action's row
  action_set_lem : (e x : ℕ) → action_set t e x ≡ set_of (identifiers (action_tree m (m.action e x) x))
  unfolding action_set machine_of action_of action_row identifiers
  action_set_lem e x = go (is_assigned t e x) (tagged t 51 i) refl refl
    where
      i : ℕ
      i = action_row t e x

      rooted : (a : Action) → m.action e x ≡ a → (r : ℕ) → a ≡ becomes_equal r → node_set t r ≡ set_of (identifiers (m.tree r))
      rooted a p r q = root_set (action_root e x (inl (p ∙ q)))

      such : (a : Action) → m.action e x ≡ a → (r : ℕ) → a ≡ becomes_such_that r → node_set t r ≡ set_of (identifiers (m.tree r))
      such a p r q = root_set (action_root e x (inr (p ∙ q)))

      go : (b d : Bool) → is_assigned t e x ≡ b → tagged t 51 i ≡ d
          → pick b (pick d (bit_or (set_of (x ∷ [])) (node_set t (t.c i))) (node_set t (t.c i))) (set_of (x ∷ []))
          ≡ set_of (identifiers (action_tree m (pick b (pick d (becomes_equal (t.c i)) (becomes_such_that (t.c i))) unassigned) x))
      go true true p q =
          ap (bit_or (set_of (x ∷ []))) (rooted _ refl (t.c i) (ap₂ (λ b d. pick b (pick d (becomes_equal (t.c i)) (becomes_such_that (t.c i))) unassigned) p q))
          ∙ set_before x (identifiers (m.tree (t.c i)))
      go true false p q = such _ refl (t.c i) (ap₂ (λ b d. pick b (pick d (becomes_equal (t.c i)) (becomes_such_that (t.c i))) unassigned) p q)
      go false d p q = sym (set_twice (x ∷ []))

  pub entry_set_lem : (h : Entry) → EntryOf m h → entry_set t h ≡ set_of (formula_identifiers (formula m h))
  unfolding identifiers witness_node
  entry_set_lem h (of_written q) = root_set q
  entry_set_lem h (of_primed q) = after_set q
  entry_set_lem h (of_defined q) = ap (λ f. set_of (identifiers (well_defined f))) (root_noted q)
  entry_set_lem h (of_moves {e} {x} q v) = action_set_lem e x
  entry_set_lem h (of_feasible {e} {x} q v) = ap (bit_or (set_of (x ∷ []))) (action_set_lem e x) ∙ set_before x (identifiers (action_tree m (m.action e x) x))
  entry_set_lem h (of_witnessed {e} {w} q i) = go (variable m w.target)
    where
      x : ℕ
      x = w.target

      found : witness_set t e x ≡ set_of (x ∷ identifiers (witness_tree m e x))
      found =
          let f = witness_for (m.witnesses e) i in
          ap (bit_or (set_of (x ∷ [])))
          (ap (node_set t) f.root ∙ root_set (root_of_witness e f.listed) ∙ sym (ap (λ r. set_of (identifiers (m.tree r))) f.root))
          ∙ set_before x (identifiers (witness_tree m e x))

      go : (b : Bool) → witness_set t e x ≡ set_of (formula_identifiers (pick b (some_after_value x (witness_tree m e x)) (some_value x (witness_tree m e x))))
      go true = found
      go false = found
  entry_set_lem h (of_natural q) = root_set q
  entry_set_lem h (of_decreases q) = twice_set q
  entry_set_lem h (of_not_increased q) = twice_set q
  entry_set_lem h (of_unchanged {x} v) = sym (set_twice (x ∷ []))

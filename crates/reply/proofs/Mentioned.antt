-- What row 84 counts: the identifiers in the rows of a spelled formula are those of the formula, by induction on the tree; and in an accepted table those of a
-- listed sequent's entries are named, so that there are at most 64 of them.
use Prim.Native.Nat.{ℕ, ◌≤◌}
use mathlib.Core.Path.{◌≡◌, refl, sym, ap, ap₂, ◌∙◌, subst}
use mathlib.Core.Bool.{Bool, true, false}
use mathlib.Core.List.{List, [], ◌∷◌, ◌++◌, map, map-append}
use mathlib.Core.Logic.{inl, inr}
use native.Mathlib.Omega.{arith}
use native.Mathlib.Nat.{min-le_left, max-le}
use lib.Dec.{T}
use lib.Count.{ones-le}
use Rattle.lists.specs.All.{All, all_nil, all_cons, In}
use Rattle.lists.specs.Choice.{pick}
use Rattle.lists.specs.Below.{keep}
use Rattle.lists.specs.Different.{different, lowest, highest}
use Rattle.lists.proofs.All.{all_join, all_imp, all_head, all_tail}
use Rattle.lists.proofs.Flat.{keep_join}
use Rattle.sets.specs.Set.{Identifier, set_of}
use Rattle.sets.proofs.Set.{count_set, set_of_lt}
use Rattle.row.specs.declared.Row.{Row}
use Rattle.formula.specs.Tree.{Constant, literal, TRUE, FALSE, top, bottom, Unary, bool, negation, logicalNot, Binary, plus, minus, times, equal, less, at_most, iff}
use Rattle.formula.specs.Tree.{Division, quotient, remainder, Connective, and, or, implies, Tree, constant, identifier, after, unary, binary, division, connective}
use Rattle.formula.specs.AfterValues.{at_after}
use Rattle.formula.specs.Identifiers.{identifiers}
use Rattle.formula.specs.Formula.{Formula, plain, some_value, some_after_value}
use Rattle.formula.proofs.Identifiers.{identifiers_at_after, well_defined_identifiers}
use Rattle.table.specs.Rows.{Rows, named}
use Rattle.machine.specs.Machine.{Action, unassigned, becomes_equal, becomes_such_that, Machine}
use Rattle.machine.specs.Described.{machine_of}
use Rattle.sequent.specs.Entry.{Entry, variable}
use Rattle.sequent.specs.Entry.{action_tree, witness_tree, formula}
use Rattle.sequent.specs.Sequent.{Sequent}
use Rattle.sequent.specs.Listed.{sequents}
use Rattle.sequent.proofs.Entries.{Root, action_root, root_of_witness, witness_for, listed_made}
use Rattle.sequent.proofs.Entries.{EntryOf, of_written, of_primed, of_defined, of_moves, of_feasible, of_witnessed, of_natural, of_decreases, of_not_increased, of_unchanged}
use Rattle.rules.proofs.Obeys.{Obeys}
use Rattle.rules.proofs.Mentioned.{identifier_limit_lem, root_identifiers, variable_identifier, target_identifier}
use Rattle.reply.specs.Spelled.{spelled, constant_row, unary_number, binary_number, division_number, connective_number, spell_tree, spell}
use Rattle.reply.specs.Printed.{has_identifier, identifiers_in}
use Rattle.reply.specs.Mentioned.{formula_identifiers}

-- rows after one another, and a row without an identifier before others
in_join : (rs ss : List Row) → identifiers_in (rs ++ ss) ≡ identifiers_in rs ++ identifiers_in ss
unfolding identifiers_in
in_join rs ss = ap (map (λ r. r.b)) (keep_join has_identifier rs ss) ∙ map-append (λ r. r.b) (keep has_identifier rs) (keep has_identifier ss)

under_constant : (c : Constant) → identifiers_in (constant_row c ∷ []) ≡ []
unfolding identifiers_in keep
under_constant (literal w) = refl
under_constant TRUE = refl
under_constant FALSE = refl
under_constant top = refl
under_constant bottom = refl

under_unary : (o : Unary) (rs : List Row) → identifiers_in (spelled (unary_number o) 0 ∷ rs) ≡ identifiers_in rs
unfolding identifiers_in keep
under_unary bool rs = refl
under_unary negation rs = refl
under_unary logicalNot rs = refl

under_binary : (o : Binary) (rs : List Row) → identifiers_in (spelled (binary_number o) 0 ∷ rs) ≡ identifiers_in rs
unfolding identifiers_in keep
under_binary plus rs = refl
under_binary minus rs = refl
under_binary times rs = refl
under_binary equal rs = refl
under_binary less rs = refl
under_binary at_most rs = refl
under_binary iff rs = refl

under_division : (o : Division) (rs : List Row) → identifiers_in (spelled (division_number o) 0 ∷ rs) ≡ identifiers_in rs
unfolding identifiers_in keep
under_division quotient rs = refl
under_division remainder rs = refl

under_connective : (o : Connective) (rs : List Row) → identifiers_in (spelled (connective_number o) 0 ∷ rs) ≡ identifiers_in rs
unfolding identifiers_in keep
under_connective and rs = refl
under_connective or rs = refl
under_connective implies rs = refl

tree_spelled : (t : Tree) → identifiers_in (spell_tree t) ≡ identifiers t
unfolding spell_tree identifiers identifiers_in keep
tree_spelled (constant c) = under_constant c
tree_spelled (identifier x) = refl
tree_spelled (after x) = refl
tree_spelled (unary o t) = under_unary o (spell_tree t) ∙ tree_spelled t
tree_spelled (binary o t u) =
    under_binary o (spell_tree t ++ spell_tree u) ∙ in_join (spell_tree t) (spell_tree u) ∙ ap₂ (λ (xs ys : List ℕ). xs ++ ys) (tree_spelled t) (tree_spelled u)
tree_spelled (division o t u) =
    under_division o (spell_tree t ++ spell_tree u) ∙ in_join (spell_tree t) (spell_tree u) ∙ ap₂ (λ (xs ys : List ℕ). xs ++ ys) (tree_spelled t) (tree_spelled u)
tree_spelled (connective o t u) =
    under_connective o (spell_tree t ++ spell_tree u) ∙ in_join (spell_tree t) (spell_tree u) ∙ ap₂ (λ (xs ys : List ℕ). xs ++ ys) (tree_spelled t) (tree_spelled u)

pub identifiers_spelled : (f : Formula) → identifiers_in (spell f) ≡ formula_identifiers f
unfolding spell identifiers_in keep
identifiers_spelled (plain f) = tree_spelled f
identifiers_spelled (some_value x f) = ap (λ (xs : List ℕ). x ∷ xs) (tree_spelled f)
identifiers_spelled (some_after_value x f) = ap (λ (xs : List ℕ). x ∷ xs) (tree_spelled f)

-- the entries of a table that meets every rule
module _ (t : Rows) (ok : Obeys t) where
  abbrev m : Machine
  m = machine_of t

  abbrev Each : List ℕ → Type 0
  Each xs = All (λ x. T (named t 10 x)) xs

  root_each : {r : ℕ} → Root m r → Each (identifiers (m.tree r))
  unfolding machine_of
  root_each q = root_identifiers t ok q

  after_each : {r : ℕ} → Root m r → Each (identifiers (at_after (variable m) (m.tree r)))
  after_each {r} q = subst Each (sym (identifiers_at_after (variable m) (m.tree r))) (root_each q)

  action_each : (e x : ℕ) (a : Action) → m.action e x ≡ a → T (named t 10 x) → Each (identifiers (action_tree m a x))
  unfolding identifiers
  action_each e x unassigned p h = all_cons h (all_cons h all_nil)
  action_each e x (becomes_equal r) p h = all_cons h (root_each (action_root e x (inl p)))
  action_each e x (becomes_such_that r) p h = root_each (action_root e x (inr p))

  entry_each : (h : Entry) → EntryOf m h → Each (formula_identifiers (formula m h))
  unfolding identifiers
  entry_each h (of_written q) = root_each q
  entry_each h (of_primed q) = after_each q
  entry_each h (of_defined {r} q) = well_defined_identifiers (m.tree r) (root_each q)
  entry_each h (of_moves {e} {x} q v) = action_each e x (m.action e x) refl (variable_identifier t ok v)
  entry_each h (of_feasible {e} {x} q v) =
      let n = variable_identifier t ok v in all_cons n (action_each e x (m.action e x) refl n)
  entry_each h (of_witnessed {e} {w} q i) = go (variable m w.target)
    where
      named_each : Each (w.target ∷ identifiers (witness_tree m e w.target))
      named_each =
          let f = witness_for (m.witnesses e) i in
          all_cons (target_identifier t ok e i) (subst (λ r. Each (identifiers (m.tree r))) (sym f.root) (root_each (root_of_witness e f.listed)))

      go : (b : Bool) → Each (formula_identifiers (pick b (some_after_value w.target (witness_tree m e w.target)) (some_value w.target (witness_tree m e w.target))))
      go true = named_each
      go false = named_each
  entry_each h (of_natural q) = root_each q
  entry_each h (of_decreases q) = all_join (after_each q) (root_each q)
  entry_each h (of_not_increased q) = all_join (after_each q) (root_each q)
  entry_each h (of_unchanged v) = let n = variable_identifier t ok v in all_cons n (all_cons n all_nil)

  -- the identifiers of a listed sequent's goal, spelled out
  pub goal_identifiers : {s : Sequent} → In s (sequents m) → All Identifier (identifiers_in (spell (formula m s.goal)))
  goal_identifiers {s} i =
      subst (All Identifier) (sym (identifiers_spelled (formula m s.goal)))
      (all_imp (λ x h. identifier_limit_lem t ok x h) (entry_each s.goal (listed_made m i).goal))

-- at most 64 of them are different
pub different_few : (xs : List ℕ) → All Identifier xs → different xs ≤ 64
different_few xs h = omega (arith, count_set xs h, ones-le 64 (set_of xs) (set_of_lt xs))

pub lowest_few : (xs : List ℕ) → All Identifier xs → lowest xs ≤ 64
unfolding lowest
lowest_few [] h = omega arith
lowest_few (x ∷ []) h = (all_head h).1
lowest_few (x ∷ (y ∷ ys)) h = omega (arith, (all_head h).1, min-le_left x (lowest (y ∷ ys)))

pub highest_few : (xs : List ℕ) → All Identifier xs → highest xs ≤ 64
unfolding highest
highest_few [] h = omega arith
highest_few (x ∷ xs) h = max-le (all_head h).1 (highest_few xs (all_tail h))

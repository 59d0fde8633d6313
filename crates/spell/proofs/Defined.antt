-- The WD of a node's tree is spelled from its operands' trees and their WD, in prefix order: by the case of its operator, which its row shows.
use Prim.Native.Nat.{ℕ, zero, suc, ◌≤◌}
use mathlib.Core.Path.{◌≡◌, refl, sym, ap, ◌∙◌}
use mathlib.Core.Bool.{true, false}
use mathlib.Core.List.{List, [], ◌∷◌, ◌++◌, append_assoc, append-nil}
use native.Mathlib.Omega.{arith}
use lib.Dec.{eqb}
use borrow.Author.Tests.{eq-eqb, ne_eqb}
use Rattle.lists.specs.Choice.{pick}
use Rattle.row.specs.declared.Row.{Row}
use Rattle.formula.specs.Tree.{quotient, remainder, and, or, implies, Tree}
use Rattle.formula.specs.WellDefined.{well_defined}
use Rattle.table.specs.Rows.{Rows, operator_of, left_of, right_of}
use Rattle.table.specs.Lookups.{operand_node}
use Rattle.machine.specs.Operator as meaning
use Rattle.machine.specs.Operator.{Operator, literalOf, identifierOf, after_of, constant_of, unary_of, binary_of, division_of, connective_of, operator_numbered}
use Rattle.machine.specs.Described.{node, tree_to, tree_of}
use Rattle.machine.proofs.Described.{tree_step}
use Rattle.rules.specs.Sorts.{shape, shape_of, operand_count}
use Rattle.conditions.specs.declared.Condition.{Condition}
use Rattle.conditions.specs.declared.Condition.TheVariants.{Nothing, Divisor, Operands}
use Rattle.conditions.specs.Condition.{condition_of}
use Rattle.reply.specs.Spelled.{spelled, spell_tree}
use Rattle.spell.specs.declared.Node.{Node}
use Rattle.spell.specs.Spell.{is_division, divides, guard_of, guard_number, opening_rows, guard_rows, closing_of, closing_rows, node_by, node_of, shown_rows, defined_rows}
use Rattle.spell.proofs.Nodes.{node_from, node_none, node_from_lem}

-- the pieces by the operator's number
module _ (o : ℕ) where
  pub opening_division : divides o ≡ true → spelled 33 0 ∷ spelled 33 0 ∷ [] ≡ opening_rows o
  unfolding opening_rows
  opening_division e = rw e

  pub opening_other : divides o ≡ false → spelled 33 0 ∷ [] ≡ opening_rows o
  unfolding opening_rows
  opening_other e = rw e

  pub closing_of_lem : (left right : List Row) {c : Condition} → c ≡ condition_of (operator_numbered o) → closing_of c left right ≡ closing_rows o left right
  unfolding closing_rows
  closing_of_lem left right e = ap (λ c. closing_of c left right) e

  module _ (rows : List Row) where
    pub guard_none : guard_number o ≡ 0 → [] ≡ guard_rows o rows
    unfolding guard_rows
    guard_none e = rw (eq-eqb (guard_number o) 0 e)

    pub guard_some : (guard_number o ≡ 0 → ⊥) → spelled (guard_number o) 0 ∷ rows ≡ guard_rows o rows
    unfolding guard_rows
    guard_some f = rw (ne_eqb (guard_number o) 0 f)

-- The WD of a pair, from the rows of WD(a), a, WD(b) and b.
module _ (da a db b : List Row) where
  abbrev pub pair_rows : ℕ → List Row
  pair_rows o = (((opening_rows o ++ da) ++ guard_rows o a) ++ db) ++ closing_rows o a b

  -- the same by the condition
  abbrev pair_by : Condition → List Row
  pair_by c =
      (((pick (is_division c) (spelled 33 0 ∷ spelled 33 0 ∷ []) (spelled 33 0 ∷ []) ++ da) ++ pick (eqb (guard_of c) 0) [] (spelled (guard_of c) 0 ∷ a)) ++ db)
      ++ closing_of c a b

  pair_by_lem : (o : ℕ) → pair_rows o ≡ pair_by (condition_of (operator_numbered o))
  unfolding opening_rows guard_rows closing_rows
  pair_by_lem o = refl

  pair_plain : spelled 33 0 ∷ (da ++ db) ≡ pair_by Nothing
  pair_plain = sym (ap (λ rows. spelled 33 0 ∷ rows) (append-nil ((da ++ []) ++ db) ∙ ap (λ rows. rows ++ db) (append-nil da)))

  -- the operands' WD, and what their values must be
  pair_division : (closing : List Row) → spelled 33 0 ∷ ((spelled 33 0 ∷ (da ++ db)) ++ closing) ≡ ((((spelled 33 0 ∷ spelled 33 0 ∷ []) ++ da) ++ []) ++ db) ++ closing
  pair_division closing = simp append_assoc

  -- the left side again, under ⇒ or ∨
  pair_guarded : (k : ℕ) → spelled 33 0 ∷ (da ++ (spelled k 0 ∷ (a ++ db))) ≡ ((((spelled 33 0 ∷ []) ++ da) ++ (spelled k 0 ∷ a)) ++ db) ++ []
  pair_guarded k = simp (append-nil, append_assoc)

-- WD of a node by how many operands it has and its operator's condition
abbrev defined_by : ℕ → Condition → List Row → List Row → List Row → List Row → List Row
defined_by zero c da a db b = spelled 30 0 ∷ []
defined_by (suc zero) c da a db b = da
defined_by (suc (suc k)) c da a db b = pair_by da a db b c

abbrev defined_tree : Tree → List Row
defined_tree a = spell_tree (well_defined a)

defined_by_lem : (o : Operator) (b : ℕ) (l r : Tree)
    → defined_tree (node o b l r) ≡ defined_by (operand_count (shape o)) (condition_of o) (defined_tree l) (spell_tree l) (defined_tree r) (spell_tree r)
unfolding spell_tree well_defined
defined_by_lem literalOf b l r = refl
defined_by_lem identifierOf b l r = refl
defined_by_lem after_of b l r = refl
defined_by_lem (constant_of c) b l r = refl
defined_by_lem (unary_of o) b l r = refl
defined_by_lem (binary_of o) b l r = pair_plain (defined_tree l) (spell_tree l) (defined_tree r) (spell_tree r)
defined_by_lem (division_of quotient) b l r = pair_division (defined_tree l) (spell_tree l) (defined_tree r) (spell_tree r) (closing_of Divisor (spell_tree l) (spell_tree r))
defined_by_lem (division_of remainder) b l r = pair_division (defined_tree l) (spell_tree l) (defined_tree r) (spell_tree r) (closing_of Operands (spell_tree l) (spell_tree r))
defined_by_lem (connective_of and) b l r = pair_guarded (defined_tree l) (spell_tree l) (defined_tree r) (spell_tree r) 35
defined_by_lem (connective_of or) b l r = pair_guarded (defined_tree l) (spell_tree l) (defined_tree r) (spell_tree r) 34
defined_by_lem (connective_of implies) b l r = pair_guarded (defined_tree l) (spell_tree l) (defined_tree r) (spell_tree r) 35
defined_by_lem meaning.unknown b l r = refl

module _ (t : Rows) where
  abbrev defined_as : ℕ → Operator → ℕ → ℕ → List Row
  defined_as k o x y = defined_by k (condition_of o) (defined_rows t x) (shown_rows t false x) (defined_rows t y) (shown_rows t false y)

  -- of a node that is read as d
  abbrev defined_read : Node → List Row
  defined_read d = defined_as d.operands (operator_numbered d.operator) d.left d.right

  -- the row of a pair shows its operator
  defined_shown : (o : Operator) (m b x y : ℕ) → operator_numbered m ≡ o → defined_as (operand_count (shape o)) o x y ≡ defined_read (node_by (shape o) m false b x y)
  defined_shown literalOf m b x y e = refl
  defined_shown identifierOf m b x y e = refl
  defined_shown after_of m b x y e = refl
  defined_shown (constant_of c) m b x y e = refl
  defined_shown (unary_of o) m b x y e = refl
  defined_shown (binary_of o) m b x y e = ap (λ o. defined_as 2 o x y) (sym e)
  defined_shown (division_of o) m b x y e = ap (λ o. defined_as 2 o x y) (sym e)
  defined_shown (connective_of o) m b x y e = ap (λ o. defined_as 2 o x y) (sym e)
  defined_shown meaning.unknown m b x y e = refl

  defined_zero : defined_rows t 0 ≡ spelled 30 0 ∷ []
  unfolding defined_rows tree_of tree_to well_defined spell_tree
  defined_zero = refl

  defined_step : (n : ℕ) → 1 ≤ n → defined_rows t n ≡ defined_read (node_from t false n)
  unfolding defined_rows shown_rows shape_of
  defined_step n h =
      let m = operator_of t n in
      let b = left_of t n in
      let x = operand_node n b in
      let y = operand_node n (right_of t n) in
      ap defined_tree (tree_step t n h) ∙ defined_by_lem (operator_numbered m) b (tree_of t x) (tree_of t y) ∙ defined_shown (operator_numbered m) m b x y refl

  defined_node : (n : ℕ) → defined_rows t n ≡ defined_read (node_of t false n)
  defined_node zero = defined_zero ∙ ap defined_read (node_none t false 0 refl)
  defined_node (suc m) = defined_step (suc m) (omega arith) ∙ ap defined_read (node_from_lem t false (suc m) (λ e. omega arith))

-- Node n, read as d: the rows of its WD, by how many operands it has.
module _ (t : Rows) (n : ℕ) (d : Node) (e : d ≡ node_of t false n) where
  defined_read_lem : (k : ℕ) → d.operands ≡ k → defined_as t k (operator_numbered d.operator) d.left d.right ≡ defined_rows t n
  defined_read_lem k q = ap (λ k. defined_as t k (operator_numbered d.operator) d.left d.right) (sym q) ∙ ap (defined_read t) e ∙ sym (defined_node t n)

  pub defined_none : d.operands ≡ 0 → spelled 30 0 ∷ [] ≡ defined_rows t n
  defined_none q = defined_read_lem 0 q

  pub defined_one : d.operands ≡ 1 → defined_rows t d.left ≡ defined_rows t n
  defined_one q = defined_read_lem 1 q

  pub defined_two : (d.operands ≡ 0 → ⊥) → (d.operands ≡ 1 → ⊥)
      → pair_rows (defined_rows t d.left) (shown_rows t false d.left) (defined_rows t d.right) (shown_rows t false d.right) d.operator ≡ defined_rows t n
  defined_two f g = pair_by_lem _ _ _ _ d.operator ∙ go d.operands refl
    where
      go : (k : ℕ) → d.operands ≡ k → defined_as t 2 (operator_numbered d.operator) d.left d.right ≡ defined_rows t n
      go zero q = absurd (f q)
      go (suc zero) q = absurd (g q)
      go (suc (suc k)) q = defined_read_lem (suc (suc k)) q

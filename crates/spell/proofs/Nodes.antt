-- A node's tree, as written or with its variables at their after values, is spelled by its row and the rows of its operands: by the case of its operator, whose
-- number the row shows. Its operands have smaller numbers.
use Prim.Native.Nat.{ℕ, zero, suc, ◌-◌, ◌≤◌, ◌<◌, max}
use mathlib.Core.Path.{◌≡◌, refl, sym, ap, ◌∙◌, subst}
use mathlib.Core.Bool.{Bool, true, false, ◌&&◌}
use mathlib.Core.List.{List, [], ◌∷◌, ◌++◌}
use native.Mathlib.Omega.{arith}
use native.Mathlib.Nat.{le-max_left, le-max_right, max-le}
use lib.Dec.{T, eqb, eqb→eq}
use borrow.Author.Tests.{eq-eqb, ne_eqb}
use Rattle.lists.specs.Choice.{pick}
use Rattle.row.specs.declared.Row.{Row}
use Rattle.formula.specs.Tree.{Constant, literal, TRUE, FALSE, top, bottom, Tree, identifier, after}
use Rattle.formula.specs.AfterValues.{at_after}
use Rattle.table.specs.Rows.{Rows, operator_of, left_of, right_of}
use Rattle.table.specs.Lookups.{is_variable_number, operand_node}
use Rattle.machine.specs.Operator as meaning
use Rattle.machine.specs.Operator.{Operator, literalOf, identifierOf, after_of, constant_of, unary_of, binary_of, division_of, connective_of, operator_numbered}
use Rattle.machine.specs.Described.{node, tree_to, tree_of, machine_of}
use Rattle.machine.proofs.Described.{operand_falls, tree_step}
use Rattle.machine.proofs.Operator.{numbered_passes}
use Rattle.machine.proofs.Variables.{variable_numbered}
use Rattle.sequent.specs.Entry.{variable}
use Rattle.rules.specs.Sorts.{Shape, value, anIdentifier, a_variable, none, one, two, unknown, shape, shape_of}
use Rattle.reply.specs.Spelled.{spelled, constant_row, unary_number, binary_number, division_number, connective_number, spell_tree}
use Rattle.spell.specs.declared.Node.{Node}
use Rattle.spell.specs.Spell.{leaf, node_by, operand_rows, node_of, shown_rows}

-- the operator that a number names has that number in its row
abbrev constant_is : Constant → ℕ → Bool
constant_is (literal w) n = false
constant_is TRUE n = eqb 4 n
constant_is FALSE n = eqb 5 n
constant_is top n = eqb 30 n
constant_is bottom n = eqb 31 n

abbrev number_is_of : Operator → ℕ → Bool
number_is_of literalOf n = eqb 1 n
number_is_of identifierOf n = true
number_is_of after_of n = eqb 3 n
number_is_of (constant_of c) n = constant_is c n
number_is_of (unary_of o) n = eqb (unary_number o) n
number_is_of (binary_of o) n = eqb (binary_number o) n
number_is_of (division_of o) n = eqb (division_number o) n
number_is_of (connective_of o) n = eqb (connective_number o) n
number_is_of meaning.unknown n = true

operator_numbered_lem : (n : ℕ) → T (number_is_of (operator_numbered n) n)
unfolding operator_numbered
operator_numbered_lem n = numbered_passes (λ o. o.operator) number_is_of (λ n. tt) tt n

-- the rows of two operands
pub operands_two : (k : ℕ) (l r : List Row) → (k ≡ 0 → ⊥) → (k ≡ 1 → ⊥) → l ++ r ≡ operand_rows k l r
operands_two zero l r f g = absurd (f refl)
operands_two (suc zero) l r f g = absurd (g refl)
operands_two (suc (suc k)) l r f g = refl

abbrev rows_by : Node → List Row → List Row → List Row
rows_by d l r = spelled d.operator d.b ∷ operand_rows d.operands l r

-- the rows of as many operands as a node has
operands_same : (s : Shape) (o : ℕ) (primed : Bool) (b x y : ℕ) (rows : ℕ → List Row)
    → operand_rows (node_by s o primed b x y).operands (rows x) (rows y)
    ≡ operand_rows (node_by s o primed b x y).operands (rows (node_by s o primed b x y).left) (rows (node_by s o primed b x y).right)
operands_same value o primed b x y rows = refl
operands_same anIdentifier o primed b x y rows = refl
operands_same a_variable o primed b x y rows = refl
operands_same none o primed b x y rows = refl
operands_same one o primed b x y rows = refl
operands_same two o primed b x y rows = refl
operands_same unknown o primed b x y rows = refl

-- one more than the greater of a node's operands; 0 where it has none
abbrev pub above : Node → ℕ
above d = pick (eqb d.operands 0) 0 (suc (max d.left d.right))

pub left_below : (d : Node) → (d.operands ≡ 0 → ⊥) → d.left < above d
left_below d f = rw (ne_eqb d.operands 0 f) (omega (arith, le-max_left d.left d.right))

pub right_below : (d : Node) → (d.operands ≡ 0 → ⊥) → d.right < above d
right_below d f = rw (ne_eqb d.operands 0 f) (omega (arith, le-max_right d.left d.right))

operands_below : (s : Shape) (o : ℕ) (primed : Bool) (b x y n : ℕ) → x < n → y < n → above (node_by s o primed b x y) ≤ n
operands_below value o primed b x y n f g = omega arith
operands_below anIdentifier o primed b x y n f g = omega arith
operands_below a_variable o primed b x y n f g = omega arith
operands_below none o primed b x y n f g = omega arith
operands_below one o primed b x y n f g = omega (arith, max-le {a = x} {b = 0} {k = n - 1} (omega arith) (omega arith))
operands_below two o primed b x y n f g = omega (arith, max-le {a = x} {b = y} {k = n - 1} (omega arith) (omega arith))
operands_below unknown o primed b x y n f g = omega arith

module _ (v : ℕ → Bool) where
  -- a tree as it is spelled
  abbrev shown : Bool → Tree → List Row
  shown primed a = spell_tree (pick primed (at_after v a) a)

  shown_identifier : (primed : Bool) (b : ℕ) → shown primed (identifier b) ≡ spelled (pick (primed && v b) 3 2) b ∷ []
  unfolding spell_tree at_after
  shown_identifier true b = go (v b)
    where
      go : (p : Bool) → spell_tree (pick p (after b) (identifier b)) ≡ spelled (pick p 3 2) b ∷ []
      go true = refl
      go false = refl
  shown_identifier false b = refl

  constant_row_lem : (c : Constant) (n : ℕ) → T (constant_is c n) → constant_row c ≡ spelled n 0
  constant_row_lem (literal w) n h = absurd h
  constant_row_lem TRUE n h = ap (λ k. spelled k 0) (eqb→eq 4 n h)
  constant_row_lem FALSE n h = ap (λ k. spelled k 0) (eqb→eq 5 n h)
  constant_row_lem top n h = ap (λ k. spelled k 0) (eqb→eq 30 n h)
  constant_row_lem bottom n h = ap (λ k. spelled k 0) (eqb→eq 31 n h)

  -- a row of the number k is one of the number n
  headed : (k n b : ℕ) (rs ss : List Row) → T (eqb k n) → rs ≡ spelled k b ∷ ss → rs ≡ spelled n b ∷ ss
  headed k n b rs ss h e = e ∙ ap (λ k. spelled k b ∷ ss) (eqb→eq k n h)

  shown_by : (o : Operator) (n : ℕ) → T (number_is_of o n) → (primed : Bool) (b x y : ℕ) (l r : Tree)
      → shown primed (node o b l r) ≡ rows_by (node_by (shape o) n (primed && v b) b x y) (shown primed l) (shown primed r)
  unfolding spell_tree at_after
  shown_by literalOf n h true b x y l r = headed 1 n b _ [] h refl
  shown_by literalOf n h false b x y l r = headed 1 n b _ [] h refl
  shown_by identifierOf n h true b x y l r = shown_identifier true b
  shown_by identifierOf n h false b x y l r = shown_identifier false b
  shown_by after_of n h true b x y l r = headed 3 n b _ [] h refl
  shown_by after_of n h false b x y l r = headed 3 n b _ [] h refl
  shown_by (constant_of c) n h true b x y l r = ap (λ r. r ∷ []) (constant_row_lem c n h)
  shown_by (constant_of c) n h false b x y l r = ap (λ r. r ∷ []) (constant_row_lem c n h)
  shown_by (unary_of o) n h true b x y l r = headed (unary_number o) n 0 _ (shown true l) h refl
  shown_by (unary_of o) n h false b x y l r = headed (unary_number o) n 0 _ (shown false l) h refl
  shown_by (binary_of o) n h true b x y l r = headed (binary_number o) n 0 _ (shown true l ++ shown true r) h refl
  shown_by (binary_of o) n h false b x y l r = headed (binary_number o) n 0 _ (shown false l ++ shown false r) h refl
  shown_by (division_of o) n h true b x y l r = headed (division_number o) n 0 _ (shown true l ++ shown true r) h refl
  shown_by (division_of o) n h false b x y l r = headed (division_number o) n 0 _ (shown false l ++ shown false r) h refl
  shown_by (connective_of o) n h true b x y l r = headed (connective_number o) n 0 _ (shown true l ++ shown true r) h refl
  shown_by (connective_of o) n h false b x y l r = headed (connective_number o) n 0 _ (shown false l ++ shown false r) h refl
  shown_by meaning.unknown n h true b x y l r = refl
  shown_by meaning.unknown n h false b x y l r = refl

module _ (t : Rows) where
  -- the node that was read is the table's
  pub node_none : (primed : Bool) (n : ℕ) → n ≡ 0 → leaf 31 0 ≡ node_of t primed n
  unfolding node_of
  node_none primed n e = simp (eq-eqb n 0 e)

  abbrev pub node_from : Bool → ℕ → Node
  node_from primed n =
      node_by (shape_of (operator_of t n)) (operator_of t n) (primed && is_variable_number t (left_of t n)) (left_of t n) (operand_node n (left_of t n)) (operand_node n (right_of t n))

  pub node_from_lem : (primed : Bool) (n : ℕ) → (n ≡ 0 → ⊥) → node_from primed n ≡ node_of t primed n
  unfolding node_of
  node_from_lem primed n f = simp (ne_eqb n 0 f)

  shown_zero : (primed : Bool) → shown_rows t primed 0 ≡ spelled 31 0 ∷ []
  unfolding shown_rows tree_of tree_to spell_tree at_after
  shown_zero true = refl
  shown_zero false = refl

  shown_step : (primed : Bool) (n : ℕ) → 1 ≤ n
      → shown_rows t primed n ≡ rows_by (node_from primed n) (shown_rows t primed (operand_node n (left_of t n))) (shown_rows t primed (operand_node n (right_of t n)))
  unfolding shown_rows shape_of
  shown_step primed n h =
      let v = variable (machine_of t) in
      let m = operator_of t n in
      let b = left_of t n in
      let x = operand_node n b in
      let y = operand_node n (right_of t n) in
      ap (shown v primed) (tree_step t n h)
      ∙ shown_by v (operator_numbered m) m (operator_numbered_lem m) primed b x y (tree_of t x) (tree_of t y)
      ∙ ap (λ after. rows_by (node_by (shape_of m) m (primed && after) b x y) (shown v primed (tree_of t x)) (shown v primed (tree_of t y))) (variable_numbered t b)

  shown_node : (primed : Bool) (n : ℕ)
      → shown_rows t primed n ≡ rows_by (node_of t primed n) (shown_rows t primed (node_of t primed n).left) (shown_rows t primed (node_of t primed n).right)
  shown_node primed zero = shown_zero primed ∙ ap (λ d. rows_by d (shown_rows t primed d.left) (shown_rows t primed d.right)) (node_none primed 0 refl)
  shown_node primed (suc m) =
      let n = suc m in
      let b = left_of t n in
      shown_step primed n (omega arith)
      ∙ ap (λ rs. spelled (node_from primed n).operator (node_from primed n).b ∷ rs)
      (operands_same (shape_of (operator_of t n)) (operator_of t n) (primed && is_variable_number t b) b (operand_node n b) (operand_node n (right_of t n)) (shown_rows t primed))
      ∙ ap (λ d. rows_by d (shown_rows t primed d.left) (shown_rows t primed d.right)) (node_from_lem primed n (λ e. omega arith))

  operands_fall : (primed : Bool) (n : ℕ) → above (node_of t primed n) ≤ n
  operands_fall primed zero = subst (λ d. above d ≤ 0) (node_none primed 0 refl) (omega arith)
  operands_fall primed (suc m) =
      let n = suc m in
      let b = left_of t n in
      subst (λ d. above d ≤ n) (node_from_lem primed n (λ e. omega arith))
      (operands_below (shape_of (operator_of t n)) (operator_of t n) (primed && is_variable_number t b) b (operand_node n b) (operand_node n (right_of t n)) n (operand_falls n b (omega arith))
      (operand_falls n (right_of t n) (omega arith)))

-- Node n, read as d: its row, then the rows of its operands, which have smaller numbers.
module _ (t : Rows) (primed : Bool) (n : ℕ) (d : Node) (e : d ≡ node_of t primed n) where
  pub shown_read : (spelled d.operator d.b ∷ []) ++ operand_rows d.operands (shown_rows t primed d.left) (shown_rows t primed d.right) ≡ shown_rows t primed n
  shown_read = ap (λ d. rows_by d (shown_rows t primed d.left) (shown_rows t primed d.right)) e ∙ sym (shown_node t primed n)

  pub above_falls : above d ≤ n
  above_falls = subst (λ d. above d ≤ n) (sym e) (operands_fall t primed n)

-- What check 7 gives: a node has the columns of its operator, a row that names a root names a node, and its event and target fit.
use Prim.Native.Nat.{ℕ, zero, suc, ◌<◌}
use mathlib.Core.Path.{◌≡◌, refl, sym, subst}
use mathlib.Core.Bool.{Bool, true, false, not, ◌&&◌, ◌||◌}
use native.Mathlib.Omega.{arith}
use lib.Dec.{T, ltb, leb, eqb, eqb→eq, leb→le, ltb→lt}
use Rattle.lists.specs.Choice.{pick}
use Rattle.formula.specs.Tree.{bottom, Tree, constant}
use Rattle.formula.specs.Mentions.{mentions}
use Rattle.formula.proofs.Truth.{and_split, and_join, or_left, or_right, or_cases, or_neither, rule_met}
use Rattle.table.specs.Rows.{Rows, tagged, named, row_of, number_in, owner_of, operator_of, left_of, right_of, machine_number, class_of, refined_by}
use Rattle.table.proofs.Sections.{named_bounds, bounds_named, named_row, number_of_row}
use Rattle.machine.specs.Operator as meaning
use Rattle.machine.specs.Operator.{Operator, literalOf, identifierOf, after_of, constant_of, unary_of, binary_of, division_of, connective_of, operator_numbered}
use Rattle.machine.specs.Described.{node, earlier, tree_to, tree_of}
use Rattle.machine.proofs.Described.{operands_of}
use Rattle.rules.specs.Sorts.{shape, shape_of}
use Rattle.rules.specs.Sight.{has_kind}
use Rattle.rules.specs.Rules.{earlier_node, named_variable, good_columns, guard_event, action_target, witness_target, root_at, names_root, good_target, reference_offends}
use Rattle.rules.proofs.Obeys.{Obeys}
use Rattle.rules.proofs.Tags.{tagged_test, tags_rising}

-- the tags of rows that name a root; of axioms, invariants and the variant; of actions
abbrev pub root_tag : ℕ → Bool
root_tag k = ltb 20 k && not (eqb k 40)

abbrev formula_tag : ℕ → Bool
formula_tag k = eqb k 30 || (eqb k 31 || (eqb k 32 || eqb k 70))

abbrev action_tag : ℕ → Bool
action_tag k = eqb k 51 || eqb k 52

module _ (t : Rows) where
  -- the root that a row of a tag names: in column a of axioms, invariants and the variant, b of guards, c of actions and witnesses
  abbrev pub root_of : ℕ → ℕ → ℕ
  root_of k i =
      pick (formula_tag k) (t.a i) (pick (eqb k 50) (t.b i) (pick (action_tag k || eqb k 60) (t.c i) 0))

  -- what its event and its target have to meet
  abbrev pub target_test : ℕ → ℕ → Bool
  target_test k i =
      pick (eqb k 50) (guard_event t (t.a i))
      (pick (action_tag k) (action_target t (t.a i) (t.b i))
      (pick (eqb k 60) (witness_target t (t.a i) (t.b i)) true))

  pub names_root_lem : (k i : ℕ) → t.tag i ≡ k → T (root_tag k) → T (names_root t i)
  names_root_lem k i e h = subst (λ k. T (root_tag k)) (sym e) h

  pub root_at_lem : (k i : ℕ) → t.tag i ≡ k → root_at t i ≡ root_of k i
  unfolding root_at
  root_at_lem k i e = subst (λ k. root_at t i ≡ root_of k i) e refl

  module _ (ok : Obeys t) where
    -- what a row of a root tag refers to
    pub root_row_lem : (k i : ℕ) → i < t.size → t.tag i ≡ k → T (root_tag k) → T (target_test k i) × T (named t 20 (root_of k i))
    unfolding reference_offends root_at
    root_row_lem k i h e r =
        subst (λ k. T (target_test k i) × T (named t 20 (root_of k i))) e
        (and_split (good_target t i) (named t 20 (root_at t i))
        (rule_met (names_root t i) (good_target t i && named t 20 (root_at t i))
        (or_neither (tagged t 20 i && not (good_columns t (shape_of (t.a i)) i)) _ (ok.references i h)).1 (names_root_lem k i e r)))

    -- "witnesses: class 0 or 1, with an abstract variable or a parameter of the refined event", of a concrete event
    pub witness_row : (i : ℕ) → i < t.size → t.tag i ≡ 60
        → T (named t 40 (t.a i)) × (machine_number t (t.a i) ≡ 2) × T (has_kind t 2 (t.b i) || has_kind t 4 (t.b i))
    witness_row i h e =
        let f = t.a i in
        let x = t.b i in
        let event = eqb (machine_number t f) 2 && ltb (class_of t f) 2 in
        let owned = has_kind t 4 x && eqb (owner_of t x) (refined_by t f) in
        let s = and_split (named t 40 f && event) (named t 10 x && (has_kind t 2 x || owned)) (root_row_lem 60 i h e tt).0 in
        let u = and_split (named t 40 f) event s.0 in (
          u.0,
          eqb→eq (machine_number t f) 2 (and_split (eqb (machine_number t f) 2) (ltb (class_of t f) 2) u.1).0,
          or_cases (has_kind t 2 x) owned (and_split (named t 10 x) (has_kind t 2 x || owned) s.1).1 (or_left (has_kind t 2 x) (has_kind t 4 x))
              (λ p. or_right (has_kind t 2 x) (has_kind t 4 x) (and_split (has_kind t 4 x) (eqb (owner_of t x) (refined_by t f)) p).0),
        )

    -- the columns of a node fit its operator
    pub node_row : (n : ℕ) → T (named t 20 n) → T (good_columns t (shape (operator_numbered (operator_of t n))) (row_of t 20 n))
    unfolding reference_offends shape_of
    node_row n h =
        let i = row_of t 20 n in
        let r = named_row t (tags_rising t ok) 20 n h in
        rule_met (tagged t 20 i) (good_columns t (shape_of (t.a i)) i)
        (or_neither (tagged t 20 i && not (good_columns t (shape_of (t.a i)) i)) _ (ok.references i r.0)).0 (tagged_test t 20 i r.1)

    -- "operands: an earlier node"
    pub earlier_operand : (n m : ℕ) → T (named t 20 n) → T (earlier_node t (row_of t 20 n) m) → T (named t 20 m) × (m < n)
    earlier_operand n m h e =
        let i = row_of t 20 n in
        let s = and_split (leb 1 m) (ltb m (number_in t 20 i)) e in
        let low : m < n = omega (arith, ltb→lt m (number_in t 20 i) s.1, number_of_row t (tags_rising t ok) 20 n h) in
        (bounds_named t 20 m (leb→le 1 m s.0) (omega (arith, (named_bounds t 20 n h).1)), low)

    two_good : (i : ℕ) → T (earlier_node t i (t.b i) && earlier_node t i (t.c i))
        → (Unit {0} → T (earlier_node t i (t.b i))) × (Unit {0} → T (earlier_node t i (t.c i)))
    two_good i g = let s = and_split (earlier_node t i (t.b i)) (earlier_node t i (t.c i)) g in (λ u. s.0, λ u. s.1)

    -- the operands that a node's operator has are earlier nodes
    operands_good : (o : Operator) (i : ℕ) → T (good_columns t (shape o) i)
        → (T (ltb 0 (operands_of o)) → T (earlier_node t i (t.b i))) × (T (ltb 1 (operands_of o)) → T (earlier_node t i (t.c i)))
    operands_good literalOf i g = (absurd, absurd)
    operands_good identifierOf i g = (absurd, absurd)
    operands_good after_of i g = (absurd, absurd)
    operands_good (constant_of c) i g = (absurd, absurd)
    operands_good (unary_of o) i g = (λ u. (and_split (earlier_node t i (t.b i)) (eqb (t.c i) 0) g).0, absurd)
    operands_good (binary_of o) i g = two_good i g
    operands_good (division_of o) i g = two_good i g
    operands_good (connective_of o) i g = two_good i g
    operands_good meaning.unknown i g = absurd g

    -- a tree mentions only identifiers that are named, and after values only of named variables: by recursion on the depth
    abbrev names : Tree → Bool
    names u = mentions (named t 10) (named_variable t) u

    abbrev Named : Tree → Type 0
    Named u = T (names u)

    operand_named : (b : Bool) (u : Tree) → Named u → Named (pick b u (constant bottom))
    unfolding mentions
    operand_named true u h = h
    operand_named false u h = tt

    node_named : (o : Operator) (i : ℕ) (l r : Tree) → T (good_columns t (shape o) i)
        → (T (ltb 0 (operands_of o)) → Named l) → (T (ltb 1 (operands_of o)) → Named r) → Named (node o (t.b i) l r)
    unfolding mentions
    node_named literalOf i l r h f g = tt
    node_named identifierOf i l r h f g = (and_split (named t 10 (t.b i)) (eqb (t.c i) 0) h).0
    node_named after_of i l r h f g = (and_split (named_variable t (t.b i)) (eqb (t.c i) 0) h).0
    node_named (constant_of c) i l r h f g = tt
    node_named (unary_of o) i l r h f g = f tt
    node_named (binary_of o) i l r h f g = and_join (names l) (names r) (f tt) (g tt)
    node_named (division_of o) i l r h f g = and_join (names l) (names r) (f tt) (g tt)
    node_named (connective_of o) i l r h f g = and_join (names l) (names r) (f tt) (g tt)
    node_named meaning.unknown i l r h f g = tt

    tree_to_named : (d n : ℕ) → T (named t 20 n) → Named (tree_to t d n)
    unfolding tree_to mentions
    tree_to_named zero n h = tt
    tree_to_named (suc d) n h =
        let o = operands_good (operator_numbered (operator_of t n)) (row_of t 20 n) (node_row n h) in
        let operand : (m : ℕ) → T (earlier_node t (row_of t 20 n) m) → Named (pick (earlier n m) (tree_to t d m) (constant bottom)) = λ m e.
        operand_named (earlier n m) (tree_to t d m) (tree_to_named d m (earlier_operand n m h e).0) in
        node_named (operator_numbered (operator_of t n)) (row_of t 20 n) _ _ (node_row n h) (λ u. operand (left_of t n) (o.0 u)) (λ u. operand (right_of t n) (o.1 u))

    pub tree_named : (n : ℕ) → T (named t 20 n) → T (mentions (named t 10) (named_variable t) (tree_of t n))
    unfolding tree_of
    tree_named n h = tree_to_named n n h

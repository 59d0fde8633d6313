-- What a row's formula may mention, by the row's tag; and what the tree of a node mentions, from its operator's shape and the trees of its operands.
use Prim.Native.Nat.{ℕ, ◌≤◌}
use mathlib.Core.Path.{◌≡◌, refl, sym, ap, ◌∙◌, subst}
use mathlib.Core.Bool.{Bool, true, ◌&&◌}
use native.Mathlib.Omega.{arith}
use Rattle.formula.specs.Tree.{Tree}
use Rattle.formula.specs.Mentions.{mentions}
use Rattle.table.specs.Rows.{Rows, operator_of, left_of, right_of}
use Rattle.table.specs.Lookups.{operand_node}
use Rattle.machine.specs.Operator as meaning
use Rattle.machine.specs.Operator.{Operator, literalOf, identifierOf, after_of, constant_of, unary_of, binary_of, division_of, connective_of, operator_numbered}
use Rattle.machine.specs.Described.{node, tree_to, tree_of}
use Rattle.machine.proofs.Described.{tree_step}
use Rattle.rules.specs.Sorts.{Shape, value, anIdentifier, a_variable, none, one, two, unknown, shape, shape_of}
use Rattle.rules.specs.Sight.{may_mention, may_mention_after, sees_only}
use Rattle.rules.proofs.Sight.{seen, seen_after}
use Rattle.operators.specs.declared.Operator as found
use Rattle.operators.specs.declared.Shape as held
use Rattle.operators.specs.Operator.{usage_of, meant, meant_shape}
use Rattle.operators.proofs.Found.{shape_found}

module _ (P Q : ℕ → Bool) where
  abbrev pub mentions_by : Shape → ℕ → Bool → Bool → Bool
  mentions_by value b l r = true
  mentions_by anIdentifier b l r = P b
  mentions_by a_variable b l r = Q b
  mentions_by none b l r = true
  mentions_by one b l r = l
  mentions_by two b l r = l && r
  mentions_by unknown b l r = true

  mentions_node : (o : Operator) (b : ℕ) (l r : Tree) → mentions_by (shape o) b (mentions P Q l) (mentions P Q r) ≡ mentions P Q (node o b l r)
  unfolding mentions
  mentions_node literalOf b l r = refl
  mentions_node identifierOf b l r = refl
  mentions_node after_of b l r = refl
  mentions_node (constant_of c) b l r = refl
  mentions_node (unary_of o) b l r = refl
  mentions_node (binary_of o) b l r = refl
  mentions_node (division_of o) b l r = refl
  mentions_node (connective_of o) b l r = refl
  mentions_node meaning.unknown b l r = refl

module _ (t : Rows) (i : ℕ) where
  pub mention_when : (x tag : ℕ) (r : Bool) → tag ≡ t.tag i → r ≡ seen t tag i x → r ≡ may_mention t i x
  unfolding may_mention
  mention_when x tag r e h = subst (λ k. r ≡ seen t k i x) e h

  pub after_when : (x tag : ℕ) (r : Bool) → tag ≡ t.tag i → r ≡ seen_after t tag i x → r ≡ may_mention_after t i x
  unfolding may_mention_after
  after_when x tag r e h = subst (λ k. r ≡ seen_after t k i x) e h

  pub sees_none : true ≡ sees_only t i 0
  unfolding sees_only tree_of tree_to mentions
  sees_none = refl

  abbrev pub sees_by : Shape → ℕ → Bool
  sees_by s n =
      mentions_by (may_mention t i) (may_mention_after t i) s (left_of t n) (sees_only t i (operand_node n (left_of t n)))
      (sees_only t i (operand_node n (right_of t n)))

  pub sees_step : (n : ℕ) → 1 ≤ n → sees_by (shape_of (operator_of t n)) n ≡ sees_only t i n
  unfolding sees_only shape_of
  sees_step n h =
      let P = may_mention t i in
      let Q = may_mention_after t i in
      mentions_node P Q (operator_numbered (operator_of t n)) (left_of t n) (tree_of t (operand_node n (left_of t n))) (tree_of t (operand_node n (right_of t n)))
      ∙ ap (mentions P Q) (sym (tree_step t n h))

  -- the same from the operator that was found, by its shape's case
  pub sees_found : (n : ℕ) (r : Bool) → (n ≡ 0 → ⊥) → (o : found.Operator) (m : ℕ) → meant o ≡ usage_of m → m ≡ operator_of t n
      → (s : held.Shape) → o.shape ≡ s → r ≡ sees_by (meant_shape s) n → r ≡ sees_only t i n
  sees_found n r f o m e q s told h =
      h ∙ ap (λ s. sees_by s n) (sym (ap meant_shape told) ∙ shape_found o m e ∙ ap shape_of q) ∙ sees_step n (omega arith)

  -- an operand as the walk of its node reads it: the number x that was looked up is the node's y
  pub operand_seen : (n : ℕ) {x y o : ℕ} {r : Bool} → r ≡ sees_only t i o → o ≡ operand_node n x → x ≡ y → r ≡ sees_only t i (operand_node n y)
  operand_seen n h e q = h ∙ ap (sees_only t i) (e ∙ ap (operand_node n) q)

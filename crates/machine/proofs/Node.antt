-- The formula of a node is its tree: by recursion on how it is formed, as the tree of a node comes from the trees of its operands (`tree_step`).
use Prim.Native.Nat.{ℕ, ◌≤◌, ◌<◌}
use mathlib.Core.Path.{◌≡◌, ap, ap₂, ◌∙◌}
use lib.Dec.{T, ltb, lt→ltb}
use Rattle.table.specs.Rows.{Rows, named, left_of, right_of}
use Rattle.table.specs.Lookups.{operand_node}
use Rattle.table.proofs.Sections.{named_bounds}
use Rattle.lists.proofs.Choice.{chosen}
use Rattle.formula.specs.Tree.{Tree, unary, binary, division, connective}
use Rattle.formula.proofs.Truth.{and_join, test_true}
use Rattle.machine.specs.Operator.{Operator}
use Rattle.machine.specs.Described.{node, earlier, tree_of}
use Rattle.machine.specs.Node.{NodeOf, Formed, of_literal, of_identifier, of_after, of_constant, of_unary, of_binary, of_division, of_connective}
use Rattle.machine.proofs.Described.{tree_step}

-- an earlier node is the operand itself
pub operand_earlier : (n m : ℕ) → 1 ≤ m → m < n → operand_node n m ≡ m
operand_earlier n m l h = chosen (earlier n m) m 0 (test_true _ (and_join (ltb 0 m) (ltb m n) (lt→ltb 0 m l) (lt→ltb m n h)))

module _ (t : Rows) where
  -- a node's number is at least 1
  pub node_first : {n : ℕ} {u : Tree} → Formed t n u → 1 ≤ n
  node_first f = (named_bounds t 20 _ (named_of f)).0
    where
      named_of : {n : ℕ} {u : Tree} → Formed t n u → T (named t 20 n)
      named_of (of_literal h) = h.node
      named_of (of_identifier h) = h.node
      named_of (of_after h) = h.node
      named_of (of_constant h) = h.node
      named_of (of_unary h l f) = h.node
      named_of (of_binary h l f k g) = h.node
      named_of (of_division h l f k g) = h.node
      named_of (of_connective h l f k g) = h.node

  -- the tree of a node whose operator is known
  node_tree : (n : ℕ) (o : Operator) → NodeOf t o n → tree_of t n ≡ node o (left_of t n) (tree_of t (operand_node n (left_of t n))) (tree_of t (operand_node n (right_of t n)))
  node_tree n o h =
      tree_step t n (named_bounds t 20 n h.node).0
      ∙ ap (λ p. node p (left_of t n) (tree_of t (operand_node n (left_of t n))) (tree_of t (operand_node n (right_of t n)))) h.operator

  operand : (n m : ℕ) {u : Tree} → m < n → Formed t m u → tree_of t m ≡ u → tree_of t (operand_node n m) ≡ u
  operand n m l f e = ap (tree_of t) (operand_earlier n m (node_first f) l) ∙ e

  pub formed_tree : {n : ℕ} {u : Tree} → Formed t n u → tree_of t n ≡ u
  formed_tree (of_literal {n} h) = node_tree n _ h
  formed_tree (of_identifier {n} h) = node_tree n _ h
  formed_tree (of_after {n} h) = node_tree n _ h
  formed_tree (of_constant {n} h) = node_tree n _ h
  formed_tree (of_unary {n} {o} h l f) = node_tree n _ h ∙ ap (unary o) (operand n (left_of t n) l f (formed_tree f))
  formed_tree (of_binary {n} {o} h l f k g) =
      node_tree n _ h ∙ ap₂ (binary o) (operand n (left_of t n) l f (formed_tree f)) (operand n (right_of t n) k g (formed_tree g))
  formed_tree (of_division {n} {o} h l f k g) =
      node_tree n _ h ∙ ap₂ (division o) (operand n (left_of t n) l f (formed_tree f)) (operand n (right_of t n) k g (formed_tree g))
  formed_tree (of_connective {n} {o} h l f k g) =
      node_tree n _ h ∙ ap₂ (connective o) (operand n (left_of t n) l f (formed_tree f)) (operand n (right_of t n) k g (formed_tree g))

-- What check 8 gives of a root, and how a node's sort stands to the type of its tree: a sort that is a type is the type of the tree, by the operators'
-- tables and cases on how the operator is read.
use Prim.Native.Nat.{ℕ, zero, suc, ◌≤◌, ◌<◌}
use mathlib.Core.Path.{◌≡◌, refl, sym, ◌∙◌, subst}
use mathlib.Core.Bool.{not, ◌&&◌}
use native.Mathlib.Omega.{arith}
use lib.Dec.{T, eqb, eqb→eq}
use Rattle.lists.specs.Choice.{pick}
use Rattle.formula.specs.Values.{ValueType}
use Rattle.formula.specs.Tree.{Tree}
use Rattle.formula.proofs.Sort.{tree_type}
use Rattle.formula.proofs.Truth.{or_cases, or_neither, rule_met}
use Rattle.table.specs.Rows.{Rows, tagged, type_of, operator_of, left_of}
use Rattle.machine.specs.Operator as meaning
use Rattle.machine.specs.Operator.{Operator, literalOf, identifierOf, after_of, constant_of, unary_of, binary_of, division_of, connective_of, operator_numbered, result_sort}
use Rattle.machine.specs.Described.{type_numbered, node, tree_to, tree_of}
use Rattle.machine.proofs.Operator.{operator_type, sort_type, type_agrees}
use Rattle.rules.specs.Sorts.{shape, shape_of, operand_count, names_identifier, sort_of}
use Rattle.rules.specs.Rules.{names_root, root_at, good_operands, root_sort, sort_offends}
use Rattle.rules.proofs.Obeys.{Obeys}
use Rattle.rules.proofs.Identifiers.{is_type}
use Rattle.rules.proofs.References.{root_tag, root_of, names_root_lem}

-- a type's number and a sort's number give one type
sort_numbered : (s : ℕ) → T (is_type s) → sort_type s ≡ type_numbered s
unfolding type_numbered
sort_numbered s h = or_cases (eqb s 1) (eqb s 2) h (λ e. same 1 (eqb→eq s 1 e) refl) (λ e. same 2 (eqb→eq s 2 e) refl)
  where
    same : (n : ℕ) → s ≡ n → sort_type n ≡ type_numbered n → sort_type s ≡ type_numbered s
    same n e q = subst (λ x. sort_type x ≡ type_numbered x) (sym e) q

module _ (t : Rows) where
  abbrev types : ℕ → ValueType
  types x = type_numbered (type_of t x)

  -- the sort of a node of an operator: its identifier's type, or the operator's own sort
  abbrev node_sort : Operator → ℕ → ℕ → ℕ
  node_sort o b s = pick (names_identifier (shape o)) (type_of t b) s

  node_type : (o : Operator) (b s : ℕ) (l r : Tree) → sort_type s ≡ operator_type o → T (is_type (node_sort o b s))
      → tree_type types (node o b l r) ≡ type_numbered (node_sort o b s)
  node_type literalOf b s l r e h = sym e ∙ sort_numbered s h
  node_type identifierOf b s l r e h = refl
  node_type after_of b s l r e h = refl
  node_type (constant_of c) b s l r e h = sym e ∙ sort_numbered s h
  node_type (unary_of o) b s l r e h = sym e ∙ sort_numbered s h
  node_type (binary_of o) b s l r e h = sym e ∙ sort_numbered s h
  node_type (division_of o) b s l r e h = sym e ∙ sort_numbered s h
  node_type (connective_of o) b s l r e h = sym e ∙ sort_numbered s h
  node_type meaning.unknown b s l r e h = sym e ∙ sort_numbered s h

  pub sort_type_lem : (n : ℕ) → 1 ≤ n → T (is_type (sort_of t n)) → tree_type (λ x. type_numbered (type_of t x)) (tree_of t n) ≡ type_numbered (sort_of t n)
  unfolding sort_of shape_of tree_of tree_to
  sort_type_lem zero l = absurd (omega arith)
  sort_type_lem (suc d) l =
      let n = suc d in
      node_type (operator_numbered (operator_of t n)) (left_of t n) (result_sort (operator_of t n)) _ _ (type_agrees (operator_of t n))

  -- "Roots are predicates, but 51 takes the variable's type and 70 an integer."
  abbrev pub root_sort_of : ℕ → ℕ → ℕ
  root_sort_of k i = pick (eqb k 51) (type_of t (t.b i)) (pick (eqb k 70) 1 3)

  pub root_sort_lem : Obeys t → (k i : ℕ) → i < t.size → t.tag i ≡ k → T (root_tag k) → sort_of t (root_of t k i) ≡ root_sort_of k i
  unfolding sort_offends root_at root_sort
  root_sort_lem ok k i h e r =
      subst (λ k. sort_of t (root_of t k i) ≡ root_sort_of k i) e
      (eqb→eq (sort_of t (root_at t i)) (root_sort t i)
      (rule_met (names_root t i) (eqb (sort_of t (root_at t i)) (root_sort t i))
      (or_neither (tagged t 20 i && not (good_operands t (operand_count (shape_of (t.a i))) i)) _ (ok.sorts i h)).1 (names_root_lem t k i e r)))

-- A node's answer by its operator: a leaf's, or what those of its operands give, which have smaller numbers; where the right one is not read, whatever stands for it.
use Prim.Native.Nat.{ℕ, zero, suc, ◌≤◌, ◌<◌}
use mathlib.Core.Path.{◌≡◌, refl, sym, ap, ap₂, ◌∙◌}
use mathlib.Core.Bool.{true, false, true≢false}
use native.Mathlib.Omega.{arith}
use borrow.Author.Tests.{ne_eqb}
use Rattle.lists.specs.Choice.{pick}
use Rattle.lists.proofs.Choice.{chosen, not_chosen}
use Rattle.table.specs.Rows.{Rows, operator_of, left_of, right_of}
use Rattle.table.specs.Lookups.{operand_node}
use Rattle.formula.specs.Values.{ValueType, AnyValue, number, truth, as_truth}
use Rattle.formula.specs.Tree.{plus, minus, times, equal, less, at_most, iff, Connective, Tree}
use Rattle.formula.specs.Evaluate.{Env, reads_right}
use Rattle.machine.specs.Operator.{Operator, literalOf, identifierOf, after_of, constant_of, unary_of, binary_of, division_of, connective_of, unknown, operator_numbered}
use Rattle.machine.specs.Described.{node, tree_to, tree_of}
use Rattle.machine.proofs.Described.{operand_falls, tree_step}
use Rattle.answer.specs.Answer.{Answer, answer, right_of as right_answer, operands, unary_answer, binary_answer, division_answer, connective_answer}
use Rattle.std.specs.Prelude.{Ok, Err}
use Rattle.std.specs.Result.{IsErrAnd}
use Rattle.signed.specs.Found.{Found, found_of, answer_of}
use Rattle.signed.proofs.Answers.{answer_found, found_answer, handed_on}
use Rattle.signed.specs.declared.Value.{Value}
use Rattle.signed.specs.declared.Value.TheVariants.{Number, Truth}
use Rattle.signed.specs.declared.Fault.{Fault}
use Rattle.signed.specs.declared.Fault.TheVariants.{Outside, Undefined}
use Rattle.evaluate.specs.Evaluate.{bottom_number, operator_at, is_leaf, leaf_answer, combined, reads_right_of}

-- a right side that is not read
unread : (o : Connective) (v : AnyValue) → reads_right o (as_truth v) ≡ false → (r s : Answer) → right_answer o v r ≡ right_answer o v s
unread o v e r s = not_chosen (reads_right o (as_truth v)) _ _ e ∙ sym (not_chosen (reads_right o (as_truth v)) _ _ e)

right_unread : (o : Operator) (l : Found) → reads_right_of o l ≡ false → (r s : Answer) → combined o (answer_of l) r ≡ combined o (answer_of l) s
unfolding binary_answer operands connective_answer
right_unread literalOf l e r s = refl
right_unread identifierOf l e r s = refl
right_unread after_of l e r s = refl
right_unread (constant_of c) l e r s = refl
right_unread (unary_of o) l e r s = refl
right_unread (binary_of plus) l e r s = absurd (true≢false e)
right_unread (binary_of minus) l e r s = absurd (true≢false e)
right_unread (binary_of times) l e r s = absurd (true≢false e)
right_unread (binary_of equal) l e r s = absurd (true≢false e)
right_unread (binary_of less) l e r s = absurd (true≢false e)
right_unread (binary_of at_most) l e r s = absurd (true≢false e)
right_unread (binary_of iff) (Ok (Number z)) e r s = absurd (true≢false e)
right_unread (binary_of iff) (Ok (Truth b)) e r s = absurd (true≢false e)
right_unread (binary_of iff) (Err Outside) e r s = refl
right_unread (binary_of iff) (Err Undefined) e r s = refl
right_unread (division_of o) l e r s = absurd (true≢false e)
right_unread (connective_of o) (Ok (Number z)) e r s = unread o (number z) e r s
right_unread (connective_of o) (Ok (Truth b)) e r s = unread o (truth b) e r s
right_unread (connective_of o) (Err Outside) e r s = refl
right_unread (connective_of o) (Err Undefined) e r s = refl
right_unread unknown l e r s = refl

-- the fault of a left side, and of a right side that is read, is the answer
left_faulty : (o : Operator) (e : Fault) (r : Answer) → is_leaf o ≡ false → combined o (answer_of (Err e)) r ≡ answer_of (Err e)
unfolding unary_answer binary_answer division_answer operands connective_answer
left_faulty literalOf e r h = absurd (true≢false h)
left_faulty identifierOf e r h = absurd (true≢false h)
left_faulty after_of e r h = absurd (true≢false h)
left_faulty (constant_of c) e r h = absurd (true≢false h)
left_faulty (unary_of o) Outside r h = refl
left_faulty (unary_of o) Undefined r h = refl
left_faulty (binary_of o) Outside r h = refl
left_faulty (binary_of o) Undefined r h = refl
left_faulty (division_of o) Outside r h = refl
left_faulty (division_of o) Undefined r h = refl
left_faulty (connective_of o) Outside r h = refl
left_faulty (connective_of o) Undefined r h = refl
left_faulty unknown e r h = absurd (true≢false h)

read_faulty : (o : Connective) (v : AnyValue) → reads_right o (as_truth v) ≡ true → (e : Fault) → right_answer o v (answer_of (Err e)) ≡ answer_of (Err e)
read_faulty o v h Outside = chosen (reads_right o (as_truth v)) _ _ h
read_faulty o v h Undefined = chosen (reads_right o (as_truth v)) _ _ h

right_faulty : (o : Operator) (v : Value) (e : Fault) → reads_right_of o (Ok v) ≡ true → combined o (answer_of (Ok v)) (answer_of (Err e)) ≡ answer_of (Err e)
unfolding binary_answer division_answer operands connective_answer
right_faulty literalOf v e h = absurd (true≢false (sym h))
right_faulty identifierOf v e h = absurd (true≢false (sym h))
right_faulty after_of v e h = absurd (true≢false (sym h))
right_faulty (constant_of c) v e h = absurd (true≢false (sym h))
right_faulty (unary_of o) v e h = absurd (true≢false (sym h))
right_faulty (binary_of o) (Number z) Outside h = refl
right_faulty (binary_of o) (Number z) Undefined h = refl
right_faulty (binary_of o) (Truth b) Outside h = refl
right_faulty (binary_of o) (Truth b) Undefined h = refl
right_faulty (division_of o) (Number z) Outside h = refl
right_faulty (division_of o) (Number z) Undefined h = refl
right_faulty (division_of o) (Truth b) Outside h = refl
right_faulty (division_of o) (Truth b) Undefined h = refl
right_faulty (connective_of o) (Number z) e h = read_faulty o (number z) h e
right_faulty (connective_of o) (Truth b) e h = read_faulty o (truth b) h e
right_faulty unknown v e h = absurd (true≢false (sym h))

module _ {type : ℕ → ValueType} (ρ : Env type) where
  abbrev by_operator : Operator → ℕ → Answer → Answer → Answer
  by_operator o b l r = pick (is_leaf o) (leaf_answer ρ o b) (combined o l r)

  node_by : (o : Operator) (b : ℕ) (l r : Tree) → answer ρ (node o b l r) ≡ by_operator o b (answer ρ l) (answer ρ r)
  unfolding answer
  node_by literalOf b l r = refl
  node_by identifierOf b l r = refl
  node_by after_of b l r = refl
  node_by (constant_of c) b l r = refl
  node_by (unary_of o) b l r = refl
  node_by (binary_of o) b l r = refl
  node_by (division_of o) b l r = refl
  node_by (connective_of o) b l r = refl
  node_by unknown b l r = refl

  module _ (t : Rows) where
    abbrev node_answer : ℕ → ℕ → Answer
    node_answer n operator = by_operator (operator_numbered operator) (left_of t n) (answer ρ (tree_of t (operand_node n (left_of t n)))) (answer ρ (tree_of t (operand_node n (right_of t n))))

    answer_none : answer ρ (tree_of t 0) ≡ node_answer 0 bottom_number
    unfolding tree_of tree_to operator_numbered
    answer_none = refl

    answer_some : (n : ℕ) → 1 ≤ n → answer ρ (tree_of t n) ≡ node_answer n (operator_of t n)
    answer_some n h = ap (answer ρ) (tree_step t n h) ∙ node_by (operator_numbered (operator_of t n)) (left_of t n) _ _

    answer_node : (n : ℕ) → answer ρ (tree_of t n) ≡ node_answer n (operator_at t n)
    answer_node zero = answer_none
    answer_node (suc m) = answer_some (suc m) (omega arith) ∙ sym (ap (λ b. node_answer (suc m) (pick b bottom_number (operator_of t (suc m)))) (ne_eqb (suc m) 0 (λ e. omega arith)))

-- Node n, whose operator and left operand were read.
module _ (t : Rows) (n operator b : ℕ) (so : operator ≡ operator_at t n) (sb : b ≡ left_of t n) where
  node_first : is_leaf (operator_numbered operator) ≡ false → 1 ≤ n
  unfolding operator_numbered
  node_first e = go n (ap (λ k. is_leaf (operator_numbered k)) (sym so) ∙ e)
    where
      go : (n : ℕ) → is_leaf (operator_numbered (operator_at t n)) ≡ false → 1 ≤ n
      go zero f = absurd (true≢false f)
      go (suc m) f = omega arith

  pub operand_below : (x k : ℕ) → x ≡ operand_node n k → is_leaf (operator_numbered operator) ≡ false → x < n
  operand_below x k e f = omega (arith, operand_falls n k (node_first f))

  module _ {type : ℕ → ValueType} (ρ : Env type) where
    node_read : answer ρ (tree_of t n) ≡ by_operator ρ (operator_numbered operator) b (answer ρ (tree_of t (operand_node n b))) (answer ρ (tree_of t (operand_node n (right_of t n))))
    node_read =
        answer_node ρ t n
        ∙ sym (ap₂ (λ k x. by_operator ρ (operator_numbered k) x (answer ρ (tree_of t (operand_node n x))) (answer ρ (tree_of t (operand_node n (right_of t n))))) so sb)

    pub leaf_is : is_leaf (operator_numbered operator) ≡ true → found_of (leaf_answer ρ (operator_numbered operator) b) ≡ found_of (answer ρ (tree_of t n))
    leaf_is e = sym (ap found_of (node_read ∙ chosen (is_leaf (operator_numbered operator)) _ _ e))

    module _ (e : is_leaf (operator_numbered operator) ≡ false) (x : ℕ) (sx : x ≡ operand_node n b) (l : Found) (sl : l ≡ found_of (answer ρ (tree_of t x))) where
      left_is : answer_of l ≡ answer ρ (tree_of t (operand_node n b))
      left_is = ap answer_of sl ∙ answer_found (answer ρ (tree_of t x)) ∙ ap (λ x. answer ρ (tree_of t x)) sx

      -- from any answer that gives what the right operand's does
      node_combined : (r : Answer)
          → combined (operator_numbered operator) (answer_of l) r ≡ combined (operator_numbered operator) (answer_of l) (answer ρ (tree_of t (operand_node n (right_of t n))))
          → found_of (combined (operator_numbered operator) (answer_of l) r) ≡ found_of (answer ρ (tree_of t n))
      node_combined r f =
          let o = operator_numbered operator in
          ap found_of
          (f
          ∙ ap (λ l. combined o l (answer ρ (tree_of t (operand_node n (right_of t n))))) left_is
          ∙ sym (node_read ∙ not_chosen (is_leaf o) (leaf_answer ρ o b) (combined o (answer ρ (tree_of t (operand_node n b))) (answer ρ (tree_of t (operand_node n (right_of t n))))) e))

      pub both_read : (c y : ℕ) → c ≡ right_of t n → y ≡ operand_node n c → (r : Found) → r ≡ found_of (answer ρ (tree_of t y))
          → found_of (combined (operator_numbered operator) (answer_of l) (answer_of r)) ≡ found_of (answer ρ (tree_of t n))
      both_read c y sc sy r sr =
          node_combined (answer_of r)
          (ap (combined (operator_numbered operator) (answer_of l))
          (ap answer_of sr ∙ answer_found (answer ρ (tree_of t y)) ∙ ap (λ y. answer ρ (tree_of t y)) (sy ∙ ap (operand_node n) sc)))

      pub left_is_faulty : {k : Fault} → l ≡ Err k → {f : Found} → IsErrAnd f (λ y. y ≡ k) → f ≡ found_of (answer ρ (tree_of t n))
      left_is_faulty {k} q p =
          let r = answer ρ (tree_of t (operand_node n (right_of t n))) in
          handed_on p ∙ sym (found_answer (Err k)) ∙ ap found_of (sym (left_faulty (operator_numbered operator) k r e) ∙ ap (λ l. combined (operator_numbered operator) (answer_of l) r) (sym q))
          ∙ node_combined r refl

      pub right_is_faulty : (v : Value) → l ≡ Ok v → reads_right_of (operator_numbered operator) (Ok v) ≡ true
          → (c y : ℕ) → c ≡ right_of t n → y ≡ operand_node n c → (r : Found) → r ≡ found_of (answer ρ (tree_of t y)) → {k : Fault} → r ≡ Err k
          → {f : Found} → IsErrAnd f (λ y. y ≡ k) → f ≡ found_of (answer ρ (tree_of t n))
      right_is_faulty v q reads c y sc sy r sr {k} fault p =
          handed_on p ∙ sym (found_answer (Err k))
          ∙ ap found_of (sym (right_faulty (operator_numbered operator) v k reads) ∙ ap (λ l. combined (operator_numbered operator) (answer_of l) (answer_of (Err k))) (sym q))
          ∙ both_read c y sc sy (Err k) (sym fault ∙ sr)

      pub left_read : reads_right_of (operator_numbered operator) l ≡ false → found_of (combined (operator_numbered operator) (answer_of l) (answer_of l)) ≡ found_of (answer ρ (tree_of t n))
      left_read f = node_combined (answer_of l) (right_unread (operator_numbered operator) l f _ _)

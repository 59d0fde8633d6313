-- The definitions of check 8 by their cases: an operator that names an identifier, a number of operands, operands of one type, a tag.
use Prim.Native.Nat.{ℕ, zero, suc}
use mathlib.Core.Path.{◌≡◌, refl, ap, ◌∙◌, subst}
use mathlib.Core.Bool.{Bool, true, false, not, ◌&&◌, ◌||◌}
use native.Mathlib.Omega.{arith}
use lib.Dec.{T, eqb, ltb}
use borrow.Author.Tests.{le-ltb}
use Rattle.lists.specs.Choice.{pick}
use Rattle.table.specs.Names.{node_tag}
use Rattle.table.specs.Rows.{Rows, type_of, operator_of, left_of}
use Rattle.machine.specs.Operator.{Numbered, operators, row_numbered, operator_numbered, operand_sort, result_sort}
use Rattle.machine.proofs.Operator.{numbered_passes}
use Rattle.rules.specs.Sorts.{shape, shape_of, operand_count, names_identifier, sort_of, fitting}
use Rattle.rules.specs.Rules.{good_operands, root_at, names_root, root_sort, sort_offends}
use Rattle.rules.proofs.Sorts.{root_sort_of}
use Rattle.rule_references.proofs.Parts.{node_part, root_part, no_part}

-- Of the operators with two operands = alone leaves their sort open.
same_test : (s e : Bool) → T (pick e s (not s)) → s ≡ e
same_test true true h = refl
same_test true false h = absurd h
same_test false true h = absurd h
same_test false false h = refl

abbrev open_pair : Numbered → ℕ → Bool
open_pair o n = pick (ltb (operand_count (shape o.operator)) 2) true (pick (eqb n 20) (eqb o.operands 0) (not (eqb o.operands 0)))

pair_open : (n : ℕ) → (operand_count (shape_of n) ≡ 0 → ⊥) → (operand_count (shape_of n) ≡ 1 → ⊥) → eqb (operand_sort n) 0 ≡ eqb n 20
unfolding shape_of operator_numbered operand_sort
pair_open n f g =
    let count = operand_count (shape (row_numbered operators n).operator) in
    let two : ltb count 2 ≡ false = le-ltb count 2 (omega arith) in
    same_test (eqb (row_numbered operators n).operands 0) (eqb n 20) (rw two at (numbered_passes (λ o. o) open_pair (λ n. tt) tt n))

module _ (t : Rows) where
  pub sort_when : (n r : ℕ) (b : Bool) → b ≡ names_identifier (shape_of (operator_of t n))
      → r ≡ pick b (type_of t (left_of t n)) (result_sort (operator_of t n)) → r ≡ sort_of t n
  unfolding sort_of
  sort_when n r b e h = subst (λ b. r ≡ pick b (type_of t (left_of t n)) (result_sort (operator_of t n))) e h

  pub operands_none : (n i : ℕ) → n ≡ 0 → true ≡ good_operands t n i
  operands_none zero i e = refl
  operands_none (suc n) i e = absurd (omega arith)

  pub operands_one : (n i : ℕ) → n ≡ 1 → fitting t (operand_sort (t.a i)) (t.b i) ≡ good_operands t n i
  operands_one zero i e = absurd (omega arith)
  operands_one (suc zero) i e = refl
  operands_one (suc (suc n)) i e = absurd (omega arith)

  operands_pair : (n i : ℕ) → (n ≡ 0 → ⊥) → (n ≡ 1 → ⊥)
      → fitting t (operand_sort (t.a i)) (t.b i)
      && (fitting t (operand_sort (t.a i)) (t.c i) && (not (eqb (t.a i) 20) || eqb (sort_of t (t.b i)) (sort_of t (t.c i)))) ≡ good_operands t n i
  operands_pair zero i f g = absurd (f refl)
  operands_pair (suc zero) i f g = absurd (g refl)
  operands_pair (suc (suc n)) i f g = refl

  pub operands_two : (i : ℕ) → (operand_count (shape_of (t.a i)) ≡ 0 → ⊥) → (operand_count (shape_of (t.a i)) ≡ 1 → ⊥)
      → fitting t (operand_sort (t.a i)) (t.b i)
      && (fitting t (operand_sort (t.a i)) (t.c i) && (not (eqb (operand_sort (t.a i)) 0) || eqb (sort_of t (t.b i)) (sort_of t (t.c i)))) ≡ good_operands t (operand_count (shape_of (t.a i))) i
  operands_two i f g =
      ap (λ either. fitting t (operand_sort (t.a i)) (t.b i) && (fitting t (operand_sort (t.a i)) (t.c i) && (not either || eqb (sort_of t (t.b i)) (sort_of t (t.c i))))) (pair_open (t.a i) f g)
      ∙ operands_pair (operand_count (shape_of (t.a i))) i f g

  pub root_sort_when : (i tag r : ℕ) → tag ≡ t.tag i → r ≡ root_sort_of t tag i → r ≡ root_sort t i
  unfolding root_sort
  root_sort_when i tag r e h = subst (λ k. r ≡ root_sort_of t k i) e h

  -- a node, a row that names a root, and another row
  pub sort_node : (i : ℕ) → t.tag i ≡ node_tag → sort_offends t i ≡ not (good_operands t (operand_count (shape_of (t.a i))) i)
  unfolding sort_offends
  sort_node i = node_part t i (good_operands t (operand_count (shape_of (t.a i))) i) (eqb (sort_of t (root_at t i)) (root_sort t i))

  pub sort_root : (i : ℕ) → (t.tag i ≡ node_tag → ⊥) → names_root t i ≡ true → sort_offends t i ≡ not (eqb (sort_of t (root_at t i)) (root_sort t i))
  unfolding sort_offends
  sort_root i = root_part t i (good_operands t (operand_count (shape_of (t.a i))) i) (eqb (sort_of t (root_at t i)) (root_sort t i))

  pub sort_none : (i : ℕ) → (t.tag i ≡ node_tag → ⊥) → names_root t i ≡ false → sort_offends t i ≡ false
  unfolding sort_offends
  sort_none i = no_part t i (good_operands t (operand_count (shape_of (t.a i))) i) (eqb (sort_of t (root_at t i)) (root_sort t i))

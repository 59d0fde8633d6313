-- What a match by an operator's number knows: in an arm, where the row of the operators' table is computed; behind its arms, where every row of another number passes a test.
use Prim.Native.Nat.{ℕ}
use mathlib.Core.Path.{◌≡◌, refl, sym, ap, ◌∙◌}
use mathlib.Core.Bool.{Bool, true, false, true≢false, not, ◌||◌, beq}
use mathlib.Core.List.{List, [], ◌∷◌}
use lib.Dec.{T, eqb}
use borrow.Author.Tests.{ne_eqb}
use Rattle.formula.specs.Values.{as_truth}
use Rattle.formula.specs.Tree.{and, or, implies}
use Rattle.formula.proofs.Truth.{or_left}
use Rattle.machine.specs.Operator.{Operator, literalOf, identifierOf, after_of, constant_of, unary_of, binary_of, division_of, connective_of, unknown, operators, row_numbered, operator_numbered}
use Rattle.machine.proofs.Operator.{all_pass, numbered_passes}
use Rattle.answer.specs.Answer.{Answer}
use Rattle.std.specs.Prelude.{Ok, Err}
use Rattle.signed.specs.Found.{Found, found_of}
use Rattle.signed.specs.declared.Value.TheVariants.{Truth}
use Rattle.operands.specs.Operands.{value_of}
use Rattle.evaluate.specs.Evaluate.{is_leaf, combined, has_truth, connective_reads_right, reads_right_of}

pub numbered_at : {A : Type 0} (f : Operator → A) (k : ℕ) {n : ℕ} {made : A} → n ≡ k → made ≡ f (row_numbered operators k).operator → made ≡ f (operator_numbered n)
unfolding operator_numbered
numbered_at f k e row = row ∙ ap (λ n. f (row_numbered operators n).operator) (sym e)

-- the number is none of the arms'
abbrev pub Behind : ℕ → List ℕ → Type 0 → Type 0
Behind n [] arms = arms
Behind n (k ∷ ks) arms = Behind n ks (arms × (n ≡ k → ⊥))

abbrev among : ℕ → List ℕ → Bool
among n [] = false
among n (k ∷ ks) = eqb n k || among n ks

behind_arms : (n : ℕ) (ks : List ℕ) (arms : Type 0) → Behind n ks arms → arms
behind_arms n [] arms h = h
behind_arms n (k ∷ ks) arms h = (behind_arms n ks (arms × (n ≡ k → ⊥)) h).0

behind_none : (n : ℕ) (ks : List ℕ) (arms : Type 0) → Behind n ks arms → among n ks ≡ false
behind_none n [] arms h = refl
behind_none n (k ∷ ks) arms h =
    let more = arms × (n ≡ k → ⊥) in
    rw (ne_eqb n k (behind_arms n ks more h).1) (behind_none n ks more h)

pub numbered_behind : (P : Operator → Bool) (ks : List ℕ) → T (P unknown) → T (all_pass (λ o. P o.operator || among o.number ks) operators) → (n : ℕ) → Behind n ks Unit
    → P (operator_numbered n) ≡ true
unfolding operator_numbered
numbered_behind P ks other h n behind =
    alone (P (row_numbered operators n).operator) (among n ks) (behind_none n ks Unit behind)
    (numbered_passes (λ o. o.operator) (λ o k. P o || among k ks) (λ n. or_left (P unknown) (among n ks) other) h n)
  where
    alone : (a b : Bool) → b ≡ false → T (a || b) → a ≡ true
    alone true b e t = refl
    alone false b e t = absurd (rw e at t)

-- the numbers of the operators that take operands
abbrev pub with_operands : List ℕ
with_operands = 6 ∷ 10 ∷ 11 ∷ 12 ∷ 13 ∷ 14 ∷ 15 ∷ 20 ∷ 21 ∷ 22 ∷ 32 ∷ 33 ∷ 34 ∷ 35 ∷ 36 ∷ []

pub leaf_behind : (n : ℕ) → Behind n with_operands Unit → is_leaf (operator_numbered n) ≡ true
leaf_behind n h = numbered_behind is_leaf with_operands tt tt n h

combined_leaf : (o : Operator) (l r : Answer) → is_leaf o ≡ true → Ok (Truth false) ≡ found_of (combined o l r)
combined_leaf literalOf l r e = refl
combined_leaf identifierOf l r e = refl
combined_leaf after_of l r e = refl
combined_leaf (constant_of c) l r e = refl
combined_leaf (unary_of o) l r e = absurd (true≢false (sym e))
combined_leaf (binary_of o) l r e = absurd (true≢false (sym e))
combined_leaf (division_of o) l r e = absurd (true≢false (sym e))
combined_leaf (connective_of o) l r e = absurd (true≢false (sym e))
combined_leaf unknown l r e = refl

pub combined_behind : (n : ℕ) (l r : Answer) → Behind n with_operands Unit → Ok (Truth false) ≡ found_of (combined (operator_numbered n) l r)
combined_behind n l r h = combined_leaf (operator_numbered n) l r (leaf_behind n h)

-- ---- whether the right operand is read

is_true : (b : Bool) → beq b true ≡ b
is_true true = refl
is_true false = refl

is_false : (b : Bool) → beq b false ≡ not b
is_false true = refl
is_false false = refl

pub reads_and : (l : Found) → has_truth l true ≡ connective_reads_right and l
reads_and (Ok v) = is_true (as_truth (value_of v))
reads_and (Err e) = refl

pub reads_or : (l : Found) → has_truth l false ≡ connective_reads_right or l
reads_or (Ok v) = is_false (as_truth (value_of v))
reads_or (Err e) = refl

pub reads_implies : (l : Found) → has_truth l true ≡ connective_reads_right implies l
reads_implies (Ok v) = is_true (as_truth (value_of v))
reads_implies (Err e) = refl

-- operators that have no right operand
abbrev one_side : Operator → Bool
one_side literalOf = true
one_side identifierOf = true
one_side after_of = true
one_side (constant_of c) = true
one_side (unary_of o) = true
one_side (binary_of o) = false
one_side (division_of o) = false
one_side (connective_of o) = false
one_side unknown = true

-- the numbers of the others
abbrev pub two_sides : List ℕ
two_sides = 10 ∷ 11 ∷ 12 ∷ 13 ∷ 14 ∷ 20 ∷ 21 ∷ 22 ∷ 33 ∷ 34 ∷ 35 ∷ 36 ∷ []

reads_none : (o : Operator) (l : Found) → one_side o ≡ true → false ≡ reads_right_of o l
reads_none literalOf l e = refl
reads_none identifierOf l e = refl
reads_none after_of l e = refl
reads_none (constant_of c) l e = refl
reads_none (unary_of o) l e = refl
reads_none (binary_of o) l e = absurd (true≢false (sym e))
reads_none (division_of o) l e = absurd (true≢false (sym e))
reads_none (connective_of o) l e = absurd (true≢false (sym e))
reads_none unknown l e = refl

pub reads_behind : (n : ℕ) (l : Found) → Behind n two_sides Unit → false ≡ reads_right_of (operator_numbered n) l
reads_behind n l h = reads_none (operator_numbered n) l (numbered_behind one_side two_sides tt tt n h)

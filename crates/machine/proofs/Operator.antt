-- A test that every row of the operators' table passes, which is computed, and a row for an unknown number too, is passed by the row that a number names;
-- and that row has the number. So in every row the operator's sort gives the type that its node has as a tree. A number of no row names the unknown one.
use Prim.Native.Nat.{ℕ}
use mathlib.Core.Path.{◌≡◌, refl, sym, subst}
use mathlib.Core.Bool.{Bool, true, false, ◌&&◌}
use mathlib.Core.List.{List, [], ◌∷◌}
use lib.Dec.{T, eqb}
use borrow.Author.Tests.{eqb-true, ne_eqb}
use Rattle.lists.specs.Choice.{pick}
use Rattle.formula.specs.Values.{ValueType, integer, boolean}
use Rattle.formula.proofs.Sort.{constant_type, unary_type_of, binary_type}
use Rattle.formula.proofs.Truth.{and_split}
use Rattle.machine.specs.Operator.{Operator, literalOf, identifierOf, after_of, constant_of, unary_of, binary_of, division_of, connective_of, unknown}
use Rattle.machine.specs.Operator.{Numbered, is, operators, row_numbered, operator_numbered, result_sort}

abbrev pub all_pass : (Numbered → Bool) → List Numbered → Bool
all_pass P [] = true
all_pass P (o ∷ os) = P o && all_pass P os

row_number : (os : List Numbered) (n : ℕ) → (row_numbered os n).number ≡ n
row_number [] n = refl
row_number (o ∷ os) n = either (eqb o.number n) refl (row_number os n)
  where
    either : (b : Bool) → eqb o.number n ≡ b → (row_numbered os n).number ≡ n → (pick b o (row_numbered os n)).number ≡ n
    either true e h = eqb-true o.number n e
    either false e h = h

-- what a match knows behind its arms, one a row: the number is none of theirs
abbrev pub Other : ℕ → List Numbered → Type 0 → Type 0
Other n [] arms = arms
Other n (o ∷ os) arms = Other n os (arms × (n ≡ o.number → ⊥))

other_arms : (n : ℕ) (os : List Numbered) (arms : Type 0) → Other n os arms → arms
other_arms n [] arms h = h
other_arms n (o ∷ os) arms h = (other_arms n os (arms × (n ≡ o.number → ⊥)) h).0

pub row_other : (n : ℕ) (os : List Numbered) (arms : Type 0) → Other n os arms → row_numbered [] n ≡ row_numbered os n
row_other n [] arms h = refl
row_other n (o ∷ os) arms h =
    let more = arms × (n ≡ o.number → ⊥) in
    rw (ne_eqb o.number n (λ e. (other_arms n os more h).1 (sym e)), row_numbered) (row_other n os more h)

module _ (P : Numbered → Bool) (other : (n : ℕ) → T (P (is n unknown 0 0))) where
  passes_in : (os : List Numbered) → T (all_pass P os) → (n : ℕ) → T (P (row_numbered os n))
  passes_in [] h n = other n
  passes_in (o ∷ os) h n = let p = and_split (P o) (all_pass P os) h in either (eqb o.number n) p.0 (passes_in os p.1 n)
    where
      either : (b : Bool) → T (P o) → T (P (row_numbered os n)) → T (P (pick b o (row_numbered os n)))
      either true p q = p
      either false p q = q

  pub row_passes : T (all_pass P operators) → (n : ℕ) → T (P (row_numbered operators n))
  row_passes h n = passes_in operators h n

-- of a test on the operator alone
pub operator_passes : (P : Operator → Bool) → T (P unknown) → T (all_pass (λ o. P o.operator) operators) → (n : ℕ) → T (P (operator_numbered n))
unfolding operator_numbered
operator_passes P other h n = row_passes (λ o. P o.operator) (λ n. other) h n

-- of a test by the number and something else of the row
pub numbered_passes : {A : Type 0} (f : Numbered → A) (P : A → ℕ → Bool) → ((n : ℕ) → T (P (f (is n unknown 0 0)) n)) → T (all_pass (λ o. P (f o) o.number) operators)
    → (n : ℕ) → T (P (f (row_numbered operators n)) n)
numbered_passes f P other h n =
    subst (λ k. T (P (f (row_numbered operators n)) k)) (row_number operators n) (row_passes (λ o. P (f o) o.number) other h n)

-- the type of a node by its operator, boolean where the operator leaves it to an identifier; and by its sort, boolean for a predicate
abbrev pub operator_type : Operator → ValueType
operator_type literalOf = integer
operator_type identifierOf = boolean
operator_type after_of = boolean
operator_type (constant_of c) = constant_type c
operator_type (unary_of o) = unary_type_of o
operator_type (binary_of o) = binary_type o
operator_type (division_of o) = integer
operator_type (connective_of o) = boolean
operator_type unknown = boolean

abbrev pub sort_type : ℕ → ValueType
sort_type s = pick (eqb s 1) integer boolean

abbrev same_type : ValueType → ValueType → Bool
same_type integer integer = true
same_type integer boolean = false
same_type boolean integer = false
same_type boolean boolean = true

same_type_lem : (a b : ValueType) → T (same_type a b) → a ≡ b
same_type_lem integer integer h = refl
same_type_lem integer boolean h = absurd h
same_type_lem boolean integer h = absurd h
same_type_lem boolean boolean h = refl

pub type_agrees : (n : ℕ) → sort_type (result_sort n) ≡ operator_type (operator_numbered n)
unfolding result_sort operator_numbered
type_agrees n = same_type_lem _ _ (row_passes (λ o. same_type (sort_type o.sort) (operator_type o.operator)) (λ n. tt) tt n)

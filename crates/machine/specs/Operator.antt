-- 01, Rows: the operators by their numbers, what a node of each is, the sort of its operands and its own.
use Rattle.std.specs.Prelude.{List, [], ◌∷◌, ℕ, eqb}
use Rattle.lists.specs.Choice.{pick}
use Rattle.formula.specs.Tree.{Constant, TRUE, FALSE, top, bottom, Unary, bool, negation, logicalNot, Binary, plus, minus, times, equal, less, at_most, iff}
use Rattle.formula.specs.Tree.{Division, quotient, remainder, Connective, and, or, implies}

-- what a node of an operator is, as the trees have it
pub data Operator : Type 0 where
  literalOf identifierOf after_of : Operator
  constant_of : Constant → Operator
  unary_of : Unary → Operator
  binary_of : Binary → Operator
  division_of : Division → Operator
  connective_of : Connective → Operator
  unknown : Operator

-- Sorts are 1 integer and 2 boolean, as types are, and 3 predicate. The sort of operators 2 and 3 is the identifier's type, here 0; the operands
-- of = are both integer or both boolean, here 0.
pub record Numbered : Type 0 where
  pub number : ℕ
  pub operator : Operator
  pub operands : ℕ
  pub sort : ℕ

abbrev pub is : ℕ → Operator → ℕ → ℕ → Numbered
is n o s r = record { number = n; operator = o; operands = s; sort = r }

-- "20 = (both integer or both boolean)", which takes operands of either type
abbrev pub equal_number : ℕ
equal_number = 20

-- "1 literal (b its value), 2 identifier (b), 3 after value of a variable (b), 4 TRUE, 5 FALSE, 6 bool; integers 10 plus, 11 minus, 12 times, 13 ÷,
-- 14 mod, 15 negation; predicates 20 = (both integer or both boolean), 21 <, 22 ≤, 30 ⊤, 31 ⊥, 32 ¬, 33 ∧, 34 ∨, 35 ⇒, 36 ⇔": number, what it is, the
-- sort of its operands, its own
abbrev pub operators : List Numbered
operators =
    is 1 literalOf 0 1
    ∷ is 2 identifierOf 0 0
    ∷ is 3 after_of 0 0
    ∷ is 4 (constant_of TRUE) 0 2
    ∷ is 5 (constant_of FALSE) 0 2
    ∷ is 6 (unary_of bool) 3 2
    ∷ is 10 (binary_of plus) 1 1
    ∷ is 11 (binary_of minus) 1 1
    ∷ is 12 (binary_of times) 1 1
    ∷ is 13 (division_of quotient) 1 1
    ∷ is 14 (division_of remainder) 1 1
    ∷ is 15 (unary_of negation) 1 1
    ∷ is equal_number (binary_of equal) 0 3
    ∷ is 21 (binary_of less) 1 3
    ∷ is 22 (binary_of at_most) 1 3
    ∷ is 30 (constant_of top) 0 3
    ∷ is 31 (constant_of bottom) 0 3
    ∷ is 32 (unary_of logicalNot) 3 3
    ∷ is 33 (connective_of and) 3 3
    ∷ is 34 (connective_of or) 3 3
    ∷ is 35 (connective_of implies) 3 3
    ∷ is 36 (binary_of iff) 3 3
    ∷ []

-- the row of a number
abbrev pub row_numbered : List Numbered → ℕ → Numbered
row_numbered [] n = is n unknown 0 0
row_numbered (o ∷ os) n = pick (eqb o.number n) o (row_numbered os n)

unfoldable pub operator_numbered : ℕ → Operator
operator_numbered n = (row_numbered operators n).operator

unfoldable pub operand_sort : ℕ → ℕ
operand_sort n = (row_numbered operators n).operands

unfoldable pub result_sort : ℕ → ℕ
result_sort n = (row_numbered operators n).sort

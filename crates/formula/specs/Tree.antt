-- Formulas as trees of nodes, the operators grouped by how they are read.
use Rattle.std.specs.Prelude.{ℕ}

-- 01, Rows: "1 literal (b its value)", here as the table has it, a word; "4 TRUE, 5 FALSE", "30 ⊤, 31 ⊥"
pub data Constant : Type 0 where
  literal : ℕ → Constant
  TRUE FALSE top bottom : Constant

-- 01, Rows: "6 bool", "15 negation", "32 ¬"
pub data Unary : Type 0 where
  bool negation logicalNot : Unary

-- 01, Rows: "10 plus, 11 minus, 12 times", "20 =", "21 <, 22 ≤", "36 ⇔": both sides are read, and nothing else can be undefined
pub data Binary : Type 0 where
  plus minus times equal less at_most iff : Binary

-- 01, Rows: "13 ÷, 14 mod": both sides are read, and the node itself may be undefined
pub data Division : Type 0 where
  quotient remainder : Division

-- 01, Rows: "33 ∧, 34 ∨, 35 ⇒": the left side decides whether the right one is read
pub data Connective : Type 0 where
  and or implies : Connective

-- 01, Rows: a node with its operands; "2 identifier (b), 3 after value of a variable (b)"
pub data Tree : Type 0 where
  constant : Constant → Tree
  identifier : ℕ → Tree
  after : ℕ → Tree
  unary : Unary → Tree → Tree
  binary : Binary → Tree → Tree → Tree
  division : Division → Tree → Tree → Tree
  connective : Connective → Tree → Tree → Tree

-- The values of formulas: whole numbers and truth values, their order, and division that rounds toward zero.
use Rattle.std.specs.Prelude.{Bool, true, false, not, ℕ, suc, ◌-◌, ◌/◌, ◌^◌, leb, ltb, eqb, ℤ, pos, negsuc, neg_ℤ, ◌-ℤ◌, ◌*ℤ◌}
use Rattle.std.specs.Bool.{beq}
use Rattle.lists.specs.Choice.{pick}

-- 01, Rows: "type: 1 integer, 2 boolean"
pub data ValueType : Type 0 where
  integer boolean : ValueType

-- 01, Rows: "Integers are unbounded"
abbrev pub Value : ValueType → Type 0
Value integer = ℤ
Value boolean = Bool

-- the whole number of a table's number, which is a word of 64 bits, a negative one in two's complement
abbrev pub whole_number : ℕ → ℤ
whole_number w = pick (ltb w (2 ^ 63)) (pos w) (neg_ℤ (pos (2 ^ 64 - w)))

-- the value of an integer expression, or the truth of a boolean expression or a predicate
pub data AnyValue : Type 0 where
  number : ℤ → AnyValue
  truth : Bool → AnyValue

abbrev pub wrap : (t : ValueType) → Value t → AnyValue
wrap integer z = number z
wrap boolean b = truth b

-- a value where a number is wanted; 0 of a truth value, which no sorted formula puts there
abbrev pub as_number : AnyValue → ℤ
as_number (number z) = z
as_number (truth b) = pos 0

-- a value where a truth value is wanted; false of a number, which no sorted formula puts there
abbrev pub as_truth : AnyValue → Bool
as_truth (number z) = false
as_truth (truth b) = b

abbrev pub as_value : (t : ValueType) → AnyValue → Value t
as_value integer v = as_number v
as_value boolean v = as_truth v

-- 01, Rows: "22 ≤"
abbrev pub at_mostℤ : ℤ → ℤ → Bool
at_mostℤ (pos a) (pos b) = leb a b
at_mostℤ (pos a) (negsuc b) = false
at_mostℤ (negsuc a) (pos b) = true
at_mostℤ (negsuc a) (negsuc b) = leb b a

-- 01, Rows: "21 <"
abbrev pub lessℤ : ℤ → ℤ → Bool
lessℤ a b = not (at_mostℤ b a)

abbrev pub equalℤ : ℤ → ℤ → Bool
equalℤ (pos a) (pos b) = eqb a b
equalℤ (pos a) (negsuc b) = false
equalℤ (negsuc a) (pos b) = false
equalℤ (negsuc a) (negsuc b) = eqb a b

-- 01, Rows: "20 = (both integer or both boolean)"
abbrev pub equal_value : AnyValue → AnyValue → Bool
equal_value (number a) (number b) = equalℤ a b
equal_value (number a) (truth b) = false
equal_value (truth a) (number b) = false
equal_value (truth a) (truth b) = beq a b

-- 01, Rows: "÷ rounds toward zero": the quotient of the magnitudes, negative where the signs differ
abbrev pub quotientℤ : ℤ → ℤ → ℤ
quotientℤ (pos a) (pos b) = pos (a / b)
quotientℤ (pos a) (negsuc b) = neg_ℤ (pos (a / suc b))
quotientℤ (negsuc a) (pos b) = neg_ℤ (pos (suc a / b))
quotientℤ (negsuc a) (negsuc b) = pos (suc a / suc b)

-- 01, Rows: "a mod b is a − b × (a ÷ b)"
abbrev pub remainderℤ : ℤ → ℤ → ℤ
remainderℤ a b = a -ℤ b *ℤ quotientℤ a b

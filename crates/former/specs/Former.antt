-- The order of 16 and 17 before 02's request 8, as requests 5 and 7 had it. It is kept only to say which replies changed (crates/former/proofs/Changed.antt); nothing that
-- evaluates uses it.
use Rattle.std.specs.Prelude.{Bool, ℕ, pos}
use Rattle.lists.specs.Choice.{pick}
use Rattle.formula.specs.Values.{ValueType, AnyValue, number, wrap}
use Rattle.formula.specs.Tree.{Binary, plus, minus, times, equal, less, at_most, iff, Division}
use Rattle.formula.specs.Tree.{Tree, constant, identifier, after, unary, binary, division, connective}
use Rattle.formula.specs.Evaluate.{Env, constant_value, binary_value, division_defined, division_value}
use Rattle.answer.specs.Answer.{Answer, value, outside, undefined, within, value_then, always, connective_answer, unary_answer}

-- a right operand beside one that is not undefined: "An operator whose divisor is outside, itself or in a part, is not undefined itself"
abbrev pub right_then : (AnyValue → Bool) → (AnyValue → Answer) → Answer → Answer
right_then defined f (value w) = pick (defined w) (f w) undefined
right_then defined f outside = outside
right_then defined f undefined = undefined

-- "a dividend outside 64 bits, itself or in a part, counting there as not negative"
abbrev pub not_negative : AnyValue
not_negative = number (pos 0)

-- + − × ÷ mod = < ≤ read both operands: "A term, or the two sides of a comparison taken together, that both leaves 64 bits and meets an undefined part counts as undefined."
unfoldable pub former_operands : (AnyValue → AnyValue → Bool) → (AnyValue → AnyValue → AnyValue) → Answer → Answer → Answer
former_operands defined f (value v) r = right_then (defined v) (λ w. within (f v w)) r
former_operands defined f outside r = right_then (defined not_negative) (λ w. outside) r
former_operands defined f undefined r = undefined

-- "∧, ∨, ⇒ and ⇔ stop at a faulty left side"
abbrev pub in_order : (AnyValue → AnyValue → AnyValue) → Answer → Answer → Answer
in_order f l r = value_then l (λ v. value_then r (λ w. value (f v w)))

unfoldable pub former_binary : Binary → Answer → Answer → Answer
former_binary plus = former_operands always (binary_value plus)
former_binary minus = former_operands always (binary_value minus)
former_binary times = former_operands always (binary_value times)
former_binary equal = former_operands always (binary_value equal)
former_binary less = former_operands always (binary_value less)
former_binary at_most = former_operands always (binary_value at_most)
former_binary iff = in_order (binary_value iff)

unfoldable pub former_division : Division → Answer → Answer → Answer
former_division o = former_operands (division_defined o) (division_value o)

module _ {type : ℕ → ValueType} (ρ : Env type) where
  unfoldable pub former_answer : Tree → Answer
  former_answer (constant c) = within (constant_value c)
  former_answer (identifier x) = within (wrap (type x) (ρ.present x))
  former_answer (after x) = within (wrap (type x) (ρ.after x))
  former_answer (unary o t) = unary_answer o (former_answer t)
  former_answer (binary o t u) = former_binary o (former_answer t) (former_answer u)
  former_answer (division o t u) = former_division o (former_answer t) (former_answer u)
  former_answer (connective o t u) = connective_answer o (former_answer t) (former_answer u)

-- 02, request 5: what evaluating a formula in signed 64 bits gives: its value, outside, or undefined.
use Rattle.std.specs.Prelude.{Bool, true, false, ℕ, ◌^◌, ltb, ℤ, pos, negsuc}
use Rattle.lists.specs.Choice.{pick}
use Rattle.formula.specs.Values.{ValueType, AnyValue, number, truth, wrap, as_truth}
use Rattle.formula.specs.Tree.{Unary, Binary, Division, Connective}
use Rattle.formula.specs.Tree.{Tree, constant, identifier, after, unary, binary, division, connective}
use Rattle.formula.specs.Evaluate.{Env, constant_value, unary_value, binary_value, division_defined, division_value, connective_value, reads_right}

-- "16 marks an evaluated term outside 64 bits and 17 an undefined one"
pub data Answer : Type 0 where
  value : AnyValue → Answer
  outside undefined : Answer

-- "signed 64 bits": −2 ^ 63 ≤ z < 2 ^ 63
abbrev pub fits : ℤ → Bool
fits (pos n) = ltb n (2 ^ 63)
fits (negsuc n) = ltb n (2 ^ 63)

abbrev pub fits_value : AnyValue → Bool
fits_value (number z) = fits z
fits_value (truth b) = true

-- a term by its exact value
unfoldable pub within : AnyValue → Answer
within v = pick (fits_value v) (value v) outside

-- a fault, or what follows from the value
abbrev pub value_then : Answer → (AnyValue → Answer) → Answer
value_then (value v) f = f v
value_then outside f = outside
value_then undefined f = undefined

-- 02, request 8: "the leftmost operand now decides, operands before their operator": the left operand's fault, else the right's, else the operator's own. The first test
-- says on which operands the operator is defined.
unfoldable pub operands : (AnyValue → AnyValue → Bool) → (AnyValue → AnyValue → AnyValue) → Answer → Answer → Answer
operands defined f l r = value_then l (λ v. value_then r (λ w. pick (defined v w) (within (f v w)) undefined))

-- operators that are defined on all operands; ⇔ is one of them, as its stopping at a faulty left side is the same order
abbrev pub always : AnyValue → AnyValue → Bool
always v w = true

unfoldable pub binary_answer : Binary → Answer → Answer → Answer
binary_answer o = operands always (binary_value o)

unfoldable pub division_answer : Division → Answer → Answer → Answer
division_answer o = operands (division_defined o) (division_value o)

-- 01, The run: "∧ and ⇒ read their right side only where the left is true, ∨ only where it is false"
abbrev pub right_of : Connective → AnyValue → Answer → Answer
right_of o v r =
    pick
    (reads_right o (as_truth v))
    (value_then r (λ w. value (truth (connective_value o (as_truth v) (as_truth w)))))
    (value (truth (connective_value o (as_truth v) false)))

-- "∧, ∨, ⇒ and ⇔ stop at a faulty left side"
unfoldable pub connective_answer : Connective → Answer → Answer → Answer
connective_answer o l r = value_then l (λ v. right_of o v r)

unfoldable pub unary_answer : Unary → Answer → Answer
unary_answer o l = value_then l (λ v. within (unary_value o v))

module _ {type : ℕ → ValueType} (ρ : Env type) where
  unfoldable pub answer : Tree → Answer
  answer (constant c) = within (constant_value c)
  answer (identifier x) = within (wrap (type x) (ρ.present x))
  answer (after x) = within (wrap (type x) (ρ.after x))
  answer (unary o t) = unary_answer o (answer t)
  answer (binary o t u) = binary_answer o (answer t) (answer u)
  answer (division o t u) = division_answer o (answer t) (answer u)
  answer (connective o t u) = connective_answer o (answer t) (answer u)

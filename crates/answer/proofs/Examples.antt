-- 02, requests 5, 7 and 8, evaluation in signed 64 bits by examples: at the bounds, where both faults are met, and what the connectives don't read. All are computed from the
-- definition.
use mathlib.Core.Path.{◌≡◌, refl}
use mathlib.Core.Bool.{true, false}
use mathlib.Core.List.{[], ◌∷◌}
use Prim.Native.Nat.{ℕ, ◌-◌, ◌^◌}
use lib.IntN.{pos, negsuc}
use Rattle.formula.specs.Values.{integer, number, truth}
use Rattle.formula.specs.Tree.{literal, top, bottom, bool, negation, logicalNot, plus, minus, times, equal, less, iff, quotient, remainder, and, or, implies}
use Rattle.formula.specs.Tree.{Tree, constant, unary, binary, division, connective}
use Rattle.formula.specs.Evaluate.{Env, read_tree}
use Rattle.answer.specs.Answer.{Answer, value, outside, undefined, within, operands, binary_answer, division_answer, connective_answer, unary_answer, answer}
use Rattle.answer.specs.Met.{terms}

-- no identifier is mentioned
abbrev pub env : Env (λ x. integer)
env = record { present = λ x. pos 0; after = λ x. pos 0 }

abbrev answered : Tree → Answer
answered t = answer env t

-- a literal by its word, a negative one in two's complement
abbrev pub word : ℕ → Tree
word w = constant (literal w)

abbrev pub minus_one : Tree
minus_one = word (2 ^ 64 - 1)

-- 2 ^ 62, 2 ^ 63 − 1 and −2 ^ 63
abbrev large : Tree
large = word (2 ^ 62)

abbrev greatest : Tree
greatest = word (2 ^ 63 - 1)

abbrev least : Tree
least = word (2 ^ 63)

-- ---- the bounds

greatest_fits : answered greatest ≡ value (number (pos (2 ^ 63 - 1)))
unfolding answer within
greatest_fits = refl

above_greatest : answered (binary plus greatest (word 1)) ≡ outside
unfolding answer within binary_answer operands
above_greatest = refl

least_fits : answered least ≡ value (number (negsuc (2 ^ 63 - 1)))
unfolding answer within
least_fits = refl

below_least : answered (binary minus least (word 1)) ≡ outside
unfolding answer within binary_answer operands
below_least = refl

-- 2 ^ 62 × −2 fits, 2 ^ 62 × 2 doesn't
products : (answered (binary times large (word (2 ^ 64 - 2))) ≡ value (number (negsuc (2 ^ 63 - 1)))) × (answered (binary times large (word 2)) ≡ outside)
unfolding answer within binary_answer operands
products = (refl, refl)

-- every node's exact value counts: (2 ^ 62 + 2 ^ 62) − 2 ^ 62
part_outside : answered (binary minus (binary plus large large) large) ≡ outside
unfolding answer within binary_answer operands
part_outside = refl

-- −2 ^ 63 ÷ −1 and −(−2 ^ 63) are 2 ^ 63
least_divided : answered (division quotient least minus_one) ≡ outside
unfolding answer within division_answer operands
least_divided = refl

least_negated : answered (unary negation least) ≡ outside
unfolding answer within unary_answer
least_negated = refl

-- ---- both faults

-- terms outside 64 bits, and an undefined one
abbrev pub too_large : Tree
too_large = binary plus greatest (word 1)

abbrev too_small : Tree
too_small = binary minus least (word 1)

abbrev pub divided_by_zero : Tree
divided_by_zero = division quotient (word 1) (word 0)

-- mod of a negative number, or by one: −1 mod 1, 1 mod −1, −2 ^ 63 mod −1
negative_mod :
    (answered (division remainder minus_one (word 1)) ≡ undefined) × (answered (division remainder (word 1) minus_one) ≡ undefined)
    × (answered (division remainder least minus_one) ≡ undefined)
unfolding answer within division_answer operands
negative_mod = (refl, refl, refl)

-- the greatest operands of mod: (2 ^ 63 − 1) mod (2 ^ 63 − 1), 2 ^ 62 mod (2 ^ 63 − 1)
greatest_mod :
    (answered (division remainder greatest greatest) ≡ value (number (pos 0))) × (answered (division remainder large greatest) ≡ value (number (pos (2 ^ 62))))
unfolding answer within division_answer operands
greatest_mod = (refl, refl)

by_zero : (answered divided_by_zero ≡ undefined) × (answered (division remainder (word 1) (word 0)) ≡ undefined)
unfolding answer within division_answer operands
by_zero = (refl, refl)

-- the left operand decides, of a term and of a comparison
left_of_sum : (answered (binary plus too_large divided_by_zero) ≡ outside) × (answered (binary plus divided_by_zero too_large) ≡ undefined)
unfolding answer within binary_answer division_answer operands
left_of_sum = (refl, refl)

left_of_less : (answered (binary less too_large divided_by_zero) ≡ outside) × (answered (binary less divided_by_zero too_large) ≡ undefined)
unfolding answer within binary_answer division_answer operands
left_of_less = (refl, refl)

-- operands before their operator: a dividend outside 64 bits by 0, one of mod by 0 and by −1; before the divisor too
dividend_first :
    (answered (division quotient too_large (word 0)) ≡ outside) × (answered (division remainder too_small (word 0)) ≡ outside)
    × (answered (division remainder too_large minus_one) ≡ outside) × (answered (division quotient too_large divided_by_zero) ≡ outside)
unfolding answer within binary_answer division_answer operands
dividend_first = (refl, refl, refl, refl)

-- a divisor outside 64 bits, or undefined, beside a negative dividend of mod
divisor_next : (answered (division remainder minus_one too_large) ≡ outside) × (answered (division remainder minus_one divided_by_zero) ≡ undefined)
unfolding answer within binary_answer division_answer operands
divisor_next = (refl, refl)

-- a divisor with a part outside 64 bits, whose exact value is 0: 1 ÷ ((2 ^ 63 − 1 + 1) − (2 ^ 63 − 1 + 1))
divisor_part : (answered (division quotient (word 1) (binary minus too_large too_large)) ≡ outside) × (answered (division quotient divided_by_zero too_large) ≡ undefined)
unfolding answer within binary_answer division_answer operands
divisor_part = (refl, refl)

-- the leftmost of three levels: ((2 ^ 63 − 1 + 1) + 1 ÷ 0) × (1 ÷ 0), and (1 ÷ 0 + (2 ^ 63 − 1 + 1)) × (2 ^ 63 − 1 + 1)
leftmost_of_parts :
    (answered (binary times (binary plus too_large divided_by_zero) divided_by_zero) ≡ outside) × (answered (binary times (binary plus divided_by_zero too_large) too_large) ≡ undefined)
unfolding answer within binary_answer division_answer operands
leftmost_of_parts = (refl, refl)

-- = of booleans is a comparison too: bool(2 ^ 63 = 0) = bool(1 ÷ 0 = 0)
abbrev pub outside_predicate : Tree
outside_predicate = binary equal too_large (word 0)

abbrev pub undefined_predicate : Tree
undefined_predicate = binary equal divided_by_zero (word 0)

left_of_equal :
    (answered (binary equal (unary bool outside_predicate) (unary bool undefined_predicate)) ≡ outside)
    × (answered (binary equal (unary bool undefined_predicate) (unary bool outside_predicate)) ≡ undefined)
unfolding answer within unary_answer binary_answer division_answer operands
left_of_equal = (refl, refl)

-- bool and ¬ of a faulty predicate
faulty_bool : (answered (unary bool outside_predicate) ≡ outside) × (answered (unary bool undefined_predicate) ≡ undefined)
unfolding answer within unary_answer binary_answer division_answer operands
faulty_bool = (refl, refl)

faulty_not : (answered (unary logicalNot outside_predicate) ≡ outside) × (answered (unary logicalNot undefined_predicate) ≡ undefined)
unfolding answer within unary_answer binary_answer division_answer operands
faulty_not = (refl, refl)

-- ---- connectives

abbrev ⊤ᵗ : Tree
⊤ᵗ = constant top

abbrev ⊥ᵗ : Tree
⊥ᵗ = constant bottom

-- a right side that isn't read
unread_right :
    (answered (connective and ⊥ᵗ undefined_predicate) ≡ value (truth false)) × (answered (connective or ⊤ᵗ outside_predicate) ≡ value (truth true))
    × (answered (connective implies ⊥ᵗ undefined_predicate) ≡ value (truth true))
unfolding answer within connective_answer
unread_right = (refl, refl, refl)

-- one that is
read_right :
    (answered (connective and ⊤ᵗ undefined_predicate) ≡ undefined) × (answered (connective or ⊥ᵗ outside_predicate) ≡ outside)
    × (answered (connective implies ⊤ᵗ outside_predicate) ≡ outside) × (answered (binary iff ⊥ᵗ undefined_predicate) ≡ undefined)
unfolding answer within binary_answer division_answer connective_answer operands
read_right = (refl, refl, refl, refl)

-- they stop at a faulty left side
faulty_left : (answered (connective and undefined_predicate ⊥ᵗ) ≡ undefined) × (answered (connective or outside_predicate undefined_predicate) ≡ outside)
unfolding answer within binary_answer division_answer connective_answer operands
faulty_left = (refl, refl)

faulty_iff : (answered (binary iff outside_predicate undefined_predicate) ≡ outside) × (answered (binary iff undefined_predicate outside_predicate) ≡ undefined)
unfolding answer within binary_answer division_answer operands
faulty_iff = (refl, refl)

-- ---- the order of terms: from the left, operands before their operator, and of ∧, ∨, ⇒ only what is read
terms_of_sum : terms env (binary plus (word 1) (word 2)) ≡ word 1 ∷ word 2 ∷ binary plus (word 1) (word 2) ∷ []
unfolding terms
terms_of_sum = refl

terms_of_quotient : terms env (division quotient (word 1) (word 2)) ≡ word 1 ∷ word 2 ∷ division quotient (word 1) (word 2) ∷ []
unfolding terms
terms_of_quotient = refl

terms_of_and :
    (terms env (connective and ⊤ᵗ ⊥ᵗ) ≡ ⊤ᵗ ∷ ⊥ᵗ ∷ connective and ⊤ᵗ ⊥ᵗ ∷ []) × (terms env (connective and ⊥ᵗ ⊤ᵗ) ≡ ⊥ᵗ ∷ connective and ⊥ᵗ ⊤ᵗ ∷ [])
unfolding terms read_tree
terms_of_and = (refl, refl)

-- What the code asks of a node's operator: whether it takes operands, what a leaf's answer is, whether the right operand is read, and what the operands' answers give.
use Rattle.std.specs.Prelude.{Bool, true, false, ℕ, eqb, Ok, Err}
use Rattle.std.specs.Bool.{beq}
use Rattle.std.specs.Result.{is_ok}
use Rattle.lists.specs.Choice.{pick}
use Rattle.table.specs.Rows.{Rows, operator_of}
use Rattle.formula.specs.Values.{ValueType, truth, as_truth}
use Rattle.formula.specs.Tree.{literal, bottom, Binary, plus, minus, times, equal, less, at_most, iff, Connective, constant, identifier, after}
use Rattle.formula.specs.Evaluate.{Env, reads_right}
use Rattle.machine.specs.Operator.{Operator, literalOf, identifierOf, after_of, constant_of, unary_of, binary_of, division_of, connective_of, unknown}
use Rattle.answer.specs.Answer.{Answer, value, answer, unary_answer, binary_answer, division_answer, connective_answer}
use Rattle.signed.specs.Found.{Found}
use Rattle.operands.specs.Operands.{value_of}

-- "31 ⊥"
abbrev pub bottom_number : ℕ
bottom_number = 31

-- the operator of a node; that of ⊥ for 0, which names none
abbrev pub operator_at : Rows → ℕ → ℕ
operator_at t n = pick (eqb n 0) bottom_number (operator_of t n)

abbrev pub is_leaf : Operator → Bool
is_leaf literalOf = true
is_leaf identifierOf = true
is_leaf after_of = true
is_leaf (constant_of c) = true
is_leaf (unary_of o) = false
is_leaf (binary_of o) = false
is_leaf (division_of o) = false
is_leaf (connective_of o) = false
is_leaf unknown = true

-- the answer of a leaf and its column b; that of ⊥ where the operator is unknown or takes operands
abbrev pub leaf_answer : {type : ℕ → ValueType} → Env type → Operator → ℕ → Answer
leaf_answer ρ literalOf b = answer ρ (constant (literal b))
leaf_answer ρ identifierOf b = answer ρ (identifier b)
leaf_answer ρ after_of b = answer ρ (after b)
leaf_answer ρ (constant_of c) b = answer ρ (constant c)
leaf_answer ρ (unary_of o) b = answer ρ (constant bottom)
leaf_answer ρ (binary_of o) b = answer ρ (constant bottom)
leaf_answer ρ (division_of o) b = answer ρ (constant bottom)
leaf_answer ρ (connective_of o) b = answer ρ (constant bottom)
leaf_answer ρ unknown b = answer ρ (constant bottom)

-- what the answers of an operator's operands give; false where it takes none
abbrev pub combined : Operator → Answer → Answer → Answer
combined literalOf l r = value (truth false)
combined identifierOf l r = value (truth false)
combined after_of l r = value (truth false)
combined (constant_of c) l r = value (truth false)
combined (unary_of o) l r = unary_answer o l
combined (binary_of o) l r = binary_answer o l r
combined (division_of o) l r = division_answer o l r
combined (connective_of o) l r = connective_answer o l r
combined unknown l r = value (truth false)

-- "∧, ∨, ⇒ and ⇔ stop at a faulty left side"; the others that have two operands read both
abbrev pub binary_reads_right : Binary → Found → Bool
binary_reads_right plus l = true
binary_reads_right minus l = true
binary_reads_right times l = true
binary_reads_right equal l = true
binary_reads_right less l = true
binary_reads_right at_most l = true
binary_reads_right iff l = is_ok l

-- a value where a truth value is wanted, of this truth
abbrev pub has_truth : Found → Bool → Bool
has_truth (Ok v) b = beq (as_truth (value_of v)) b
has_truth (Err e) b = false

abbrev pub connective_reads_right : Connective → Found → Bool
connective_reads_right o (Ok v) = reads_right o (as_truth (value_of v))
connective_reads_right o (Err e) = false

-- whether the right operand is read, by the answer of the left one
abbrev pub reads_right_of : Operator → Found → Bool
reads_right_of literalOf l = false
reads_right_of identifierOf l = false
reads_right_of after_of l = false
reads_right_of (constant_of c) l = false
reads_right_of (unary_of o) l = false
reads_right_of (binary_of o) l = binary_reads_right o l
reads_right_of (division_of o) l = true
reads_right_of (connective_of o) l = connective_reads_right o l
reads_right_of unknown l = false

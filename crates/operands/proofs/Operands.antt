-- How the code combines answers is how the definition has it: a faulty operand is the answer, of two the left one, and values are combined.
use mathlib.Core.Path.{◌≡◌, refl, sym, ap, ◌∙◌}
use mathlib.Core.Bool.{Bool, true, false, true≢false}
use Rattle.std.specs.Prelude.{Ok, Err}
use Rattle.std.specs.Result.{IsErrAnd}
use Rattle.lists.specs.Choice.{pick}
use Rattle.formula.specs.Values.{AnyValue, truth, as_truth}
use Rattle.formula.specs.Tree.{Unary, bool, Binary, Division, Connective, and, or, implies}
use Rattle.formula.specs.Evaluate.{unary_value, binary_value, division_defined, division_value}
use Rattle.answer.specs.Answer.{value, undefined, within, always, value_then, operands, unary_answer, binary_answer, division_answer, connective_answer}
use Rattle.signed.specs.Found.{Found, found_of, answer_of}
use Rattle.signed.specs.declared.Value.{Value}
use Rattle.signed.specs.declared.Value.TheVariants.{Number, Truth}
use Rattle.signed.specs.declared.Fault.{Fault}
use Rattle.signed.specs.declared.Fault.TheVariants.{Outside, Undefined}
use Rattle.signed.proofs.Answers.{handed_on}
use Rattle.operands.specs.Operands.{value_of}

-- a truth value is in range
truth_within : (b : Bool) → Ok (Truth b) ≡ found_of (within (truth b))
unfolding within
truth_within b = refl

-- ---- two operands
module _ (defined : AnyValue → AnyValue → Bool) (f : AnyValue → AnyValue → AnyValue) where
  left_decides : (e : Fault) (r : Found) → Err e ≡ found_of (operands defined f (answer_of (Err e)) (answer_of r))
  unfolding operands
  left_decides Outside r = refl
  left_decides Undefined r = refl

  right_decides : (v : Value) (e : Fault) → Err e ≡ found_of (operands defined f (answer_of (Ok v)) (answer_of (Err e)))
  unfolding operands
  right_decides (Number z) Outside = refl
  right_decides (Number z) Undefined = refl
  right_decides (Truth b) Outside = refl
  right_decides (Truth b) Undefined = refl

  of_values : (v w : Value) → found_of (pick (defined (value_of v) (value_of w)) (within (f (value_of v) (value_of w))) undefined) ≡ found_of (operands defined f (answer_of (Ok v)) (answer_of (Ok w)))
  unfolding operands
  of_values (Number a) (Number b) = refl
  of_values (Number a) (Truth b) = refl
  of_values (Truth a) (Number b) = refl
  of_values (Truth a) (Truth b) = refl

module _ {l : Found} (r : Found) {e : Fault} (h : l ≡ Err e) {k : Found} (p : IsErrAnd k (λ y. y ≡ e)) where
  pub left_fault : (o : Binary) → k ≡ found_of (binary_answer o (answer_of l) (answer_of r))
  unfolding binary_answer
  left_fault o = handed_on p ∙ rw h (left_decides always (binary_value o) e r)

  pub dividend_fault : (o : Division) → k ≡ found_of (division_answer o (answer_of l) (answer_of r))
  unfolding division_answer
  dividend_fault o = handed_on p ∙ rw h (left_decides (division_defined o) (division_value o) e r)

module _ {l r : Found} {v : Value} (g : l ≡ Ok v) where
  module _ {e : Fault} (h : r ≡ Err e) {k : Found} (p : IsErrAnd k (λ y. y ≡ e)) where
    pub right_fault : (o : Binary) → k ≡ found_of (binary_answer o (answer_of l) (answer_of r))
    unfolding binary_answer
    right_fault o = handed_on p ∙ rw (g, h) (right_decides always (binary_value o) v e)

    pub divisor_fault : (o : Division) → k ≡ found_of (division_answer o (answer_of l) (answer_of r))
    unfolding division_answer
    divisor_fault o = handed_on p ∙ rw (g, h) (right_decides (division_defined o) (division_value o) v e)

  module _ {w : Value} (h : r ≡ Ok w) where
    pub both_values : (o : Binary) {k : Found} → k ≡ found_of (within (binary_value o (value_of v) (value_of w))) → k ≡ found_of (binary_answer o (answer_of l) (answer_of r))
    unfolding binary_answer
    both_values o e = e ∙ rw (g, h) (of_values always (binary_value o) v w)

    -- of = < ≤ ⇔
    pub both_truths : (o : Binary) {b c : Bool} → binary_value o (value_of v) (value_of w) ≡ truth c → b ≡ c → Ok (Truth b) ≡ found_of (binary_answer o (answer_of l) (answer_of r))
    both_truths o {b} is e = both_values o (truth_within b ∙ ap (λ v. found_of (within v)) (ap truth e ∙ sym is))

    pub divided : (o : Division) {k : Found} → division_defined o (value_of v) (value_of w) ≡ true → k ≡ found_of (within (division_value o (value_of v) (value_of w))) → k ≡ found_of (division_answer o (answer_of l) (answer_of r))
    unfolding division_answer
    divided o d e =
        e ∙ sym (ap (λ b. found_of (pick b (within (division_value o (value_of v) (value_of w))) undefined)) d)
        ∙ rw (g, h) (of_values (division_defined o) (division_value o) v w)

    pub not_divided : (o : Division) → division_defined o (value_of v) (value_of w) ≡ false → Err Undefined ≡ found_of (division_answer o (answer_of l) (answer_of r))
    unfolding division_answer
    not_divided o d =
        sym (ap (λ b. found_of (pick b (within (division_value o (value_of v) (value_of w))) undefined)) d)
        ∙ rw (g, h) (of_values (division_defined o) (division_value o) v w)

-- ---- one operand
fault_stays : (o : Unary) (e : Fault) → Err e ≡ found_of (unary_answer o (answer_of (Err e)))
unfolding unary_answer
fault_stays o Outside = refl
fault_stays o Undefined = refl

of_value : (o : Unary) (v : Value) → found_of (within (unary_value o (value_of v))) ≡ found_of (unary_answer o (answer_of (Ok v)))
unfolding unary_answer
of_value o (Number z) = refl
of_value o (Truth b) = refl

module _ {l : Found} where
  pub operand_fault : (o : Unary) {e : Fault} → l ≡ Err e → {k : Found} → IsErrAnd k (λ y. y ≡ e) → k ≡ found_of (unary_answer o (answer_of l))
  operand_fault o {e} h p = handed_on p ∙ rw h (fault_stays o e)

  pub one_value : (o : Unary) {v : Value} → l ≡ Ok v → {k : Found} → k ≡ found_of (within (unary_value o (value_of v))) → k ≡ found_of (unary_answer o (answer_of l))
  one_value o {v} h e = e ∙ rw h (of_value o v)

  pub one_truth : (o : Unary) {v : Value} → l ≡ Ok v → {b c : Bool} → unary_value o (value_of v) ≡ truth c → b ≡ c → Ok (Truth b) ≡ found_of (unary_answer o (answer_of l))
  one_truth o h {b} is e = one_value o h (truth_within b ∙ ap (λ v. found_of (within v)) (ap truth e ∙ sym is))

-- ---- operators that stop at a faulty left side

stops : (o : Connective) (e : Fault) (r : Found) → Err e ≡ found_of (connective_answer o (answer_of (Err e)) (answer_of r))
unfolding connective_answer
stops o Outside r = refl
stops o Undefined r = refl

-- a right side that is read
right_read : (r : Found) → found_of (unary_answer bool (answer_of r)) ≡ found_of (value_then (answer_of r) (λ w. value (truth (as_truth w))))
unfolding unary_answer within
right_read (Ok (Number z)) = refl
right_read (Ok (Truth b)) = refl
right_read (Err Outside) = refl
right_read (Err Undefined) = refl

and_reads : (v : Value) (r : Found) → as_truth (value_of v) ≡ true → found_of (unary_answer bool (answer_of r)) ≡ found_of (connective_answer and (answer_of (Ok v)) (answer_of r))
unfolding connective_answer
and_reads (Number z) r e = absurd (true≢false (sym e))
and_reads (Truth true) r e = right_read r
and_reads (Truth false) r e = absurd (true≢false (sym e))

and_is_false : (v : Value) (r : Found) → as_truth (value_of v) ≡ false → Ok (Truth false) ≡ found_of (connective_answer and (answer_of (Ok v)) (answer_of r))
unfolding connective_answer
and_is_false (Number z) r e = refl
and_is_false (Truth true) r e = absurd (true≢false e)
and_is_false (Truth false) r e = refl

or_is_true : (v : Value) (r : Found) → as_truth (value_of v) ≡ true → Ok (Truth true) ≡ found_of (connective_answer or (answer_of (Ok v)) (answer_of r))
unfolding connective_answer
or_is_true (Number z) r e = absurd (true≢false (sym e))
or_is_true (Truth true) r e = refl
or_is_true (Truth false) r e = absurd (true≢false (sym e))

or_reads : (v : Value) (r : Found) → as_truth (value_of v) ≡ false → found_of (unary_answer bool (answer_of r)) ≡ found_of (connective_answer or (answer_of (Ok v)) (answer_of r))
unfolding connective_answer
or_reads (Number z) r e = right_read r
or_reads (Truth true) r e = absurd (true≢false e)
or_reads (Truth false) r e = right_read r

implies_reads : (v : Value) (r : Found) → as_truth (value_of v) ≡ true → found_of (unary_answer bool (answer_of r)) ≡ found_of (connective_answer implies (answer_of (Ok v)) (answer_of r))
unfolding connective_answer
implies_reads (Number z) r e = absurd (true≢false (sym e))
implies_reads (Truth true) r e = right_read r
implies_reads (Truth false) r e = absurd (true≢false (sym e))

implies_is_true : (v : Value) (r : Found) → as_truth (value_of v) ≡ false → Ok (Truth true) ≡ found_of (connective_answer implies (answer_of (Ok v)) (answer_of r))
unfolding connective_answer
implies_is_true (Number z) r e = refl
implies_is_true (Truth true) r e = absurd (true≢false e)
implies_is_true (Truth false) r e = refl

module _ {l : Found} (r : Found) where
  pub side_fault : (o : Connective) {e : Fault} → l ≡ Err e → {k : Found} → IsErrAnd k (λ y. y ≡ e) → k ≡ found_of (connective_answer o (answer_of l) (answer_of r))
  side_fault o {e} h p = handed_on p ∙ rw h (stops o e r)

  module _ {v : Value} (h : l ≡ Ok v) {b : Bool} (t : b ≡ as_truth (value_of v)) where
    pub and_true : b ≡ true → found_of (unary_answer bool (answer_of r)) ≡ found_of (connective_answer and (answer_of l) (answer_of r))
    and_true e = rw h (and_reads v r (sym t ∙ e))

    pub and_false : b ≡ false → Ok (Truth false) ≡ found_of (connective_answer and (answer_of l) (answer_of r))
    and_false e = rw h (and_is_false v r (sym t ∙ e))

    pub or_true : b ≡ true → Ok (Truth true) ≡ found_of (connective_answer or (answer_of l) (answer_of r))
    or_true e = rw h (or_is_true v r (sym t ∙ e))

    pub or_false : b ≡ false → found_of (unary_answer bool (answer_of r)) ≡ found_of (connective_answer or (answer_of l) (answer_of r))
    or_false e = rw h (or_reads v r (sym t ∙ e))

    pub implies_true : b ≡ true → found_of (unary_answer bool (answer_of r)) ≡ found_of (connective_answer implies (answer_of l) (answer_of r))
    implies_true e = rw h (implies_reads v r (sym t ∙ e))

    pub implies_false : b ≡ false → Ok (Truth true) ≡ found_of (connective_answer implies (answer_of l) (answer_of r))
    implies_false e = rw h (implies_is_true v r (sym t ∙ e))

-- 02, request 8, of one formula: its answer is the former one, or outside where that was undefined. By induction on the tree: so of what follows from an operand's value, and at an
-- operator by the cases of its operands.
use mathlib.Core.Path.{◌≡◌, refl, sym, ap, subst}
use mathlib.Core.Bool.{Bool, true, false}
use mathlib.Core.Logic.{◌⊎◌, inl, inr}
use Prim.Native.Nat.{ℕ}
use Rattle.lists.specs.Choice.{pick}
use Rattle.formula.specs.Values.{ValueType, AnyValue, truth, as_truth}
use Rattle.formula.specs.Tree.{Binary, plus, minus, times, equal, less, at_most, iff, Connective}
use Rattle.formula.specs.Tree.{Tree, constant, identifier, after, unary, binary, division, connective}
use Rattle.formula.specs.Evaluate.{Env, binary_value, division_defined, division_value, connective_value, reads_right}
use Rattle.answer.specs.Answer.{Answer, value, outside, undefined, within, value_then, operands, always, binary_answer, division_answer, right_of, connective_answer, unary_answer, answer}
use Rattle.former.specs.Former.{not_negative, former_operands, former_binary, former_division, former_answer}

-- one answer in the place of another: the same, or, where that is possible, outside for undefined
abbrev pub Instead : Type 0 → Answer → Answer → Type 0
Instead possible a b = (a ≡ b) ⊎ (possible × (a ≡ undefined) × (b ≡ outside))

abbrev Now : Answer → Answer → Type 0
Now a b = Instead (Unit {0}) a b

-- what follows from a value
then_now : (a b : Answer) (f g : AnyValue → Answer) → Now a b → ((v : AnyValue) → Now (f v) (g v)) → Now (value_then a f) (value_then b g)
then_now a b f g (inl e) k = subst (λ b. Now (value_then a f) (value_then b g)) e (go a)
  where
    go : (a : Answer) → Now (value_then a f) (value_then a g)
    go (value v) = k v
    go outside = inl refl
    go undefined = inl refl
then_now a b f g (inr (u, e, h)) k = inr (u, ap (λ a. value_then a f) e, ap (λ b. value_then b g) h)

-- two operands
module _ (defined : AnyValue → AnyValue → Bool) (f : AnyValue → AnyValue → AnyValue) where
  -- the right one is as it was
  right_same : (a b : Answer) → Now (former_operands defined f a b) (operands defined f a b)
  unfolding former_operands operands
  right_same (value v) (value w) = inl refl
  right_same (value v) outside = inl refl
  right_same (value v) undefined = inl refl
  right_same outside (value w) = go (defined not_negative w)
    where
      go : (d : Bool) → Now (pick d outside undefined) outside
      go true = inl refl
      go false = inr (tt, refl, refl)
  right_same outside outside = inl refl
  right_same outside undefined = inr (tt, refl, refl)
  right_same undefined b = inl refl

  -- the right one was undefined
  right_other : (a : Answer) → Now (former_operands defined f a undefined) (operands defined f a outside)
  unfolding former_operands operands
  right_other (value v) = inr (tt, refl, refl)
  right_other outside = inr (tt, refl, refl)
  right_other undefined = inl refl

  operands_now : (a a' b b' : Answer) → Now a a' → Now b b' → Now (former_operands defined f a b) (operands defined f a' b')
  unfolding former_operands operands
  operands_now a a' b b' (inr (u, e, h)) r =
      inr (u, ap (λ a. former_operands defined f a b) e, ap (λ a. operands defined f a b') h)
  operands_now a a' b b' (inl e) (inl h) = subst (λ a'. Now (former_operands defined f a b) (operands defined f a' b')) e (subst (λ b'. Now (former_operands defined f a b) (operands defined f a b')) h (right_same a b))
  operands_now a a' b b' (inl e) (inr (u, h, k)) =
      subst (λ a'. Now (former_operands defined f a b) (operands defined f a' b')) e
      (subst (λ b. Now (former_operands defined f a b) (operands defined f a b')) (sym h) (subst (λ b'. Now (former_operands defined f a undefined) (operands defined f a b')) (sym k) (right_other a)))

-- ⇔, whose value is in range
iff_now : (a a' b b' : Answer) → Now a a' → Now b b' → Now (former_binary iff a b) (operands always (binary_value iff) a' b')
unfolding operands within former_binary
iff_now a a' b b' l r = then_now a a' _ _ l (λ v. then_now b b' _ _ r (λ w. inl refl))

binary_now : (o : Binary) (a a' b b' : Answer) → Now a a' → Now b b' → Now (former_binary o a b) (binary_answer o a' b')
unfolding former_binary binary_answer
binary_now plus a a' b b' l r = operands_now always (binary_value plus) a a' b b' l r
binary_now minus a a' b b' l r = operands_now always (binary_value minus) a a' b b' l r
binary_now times a a' b b' l r = operands_now always (binary_value times) a a' b b' l r
binary_now equal a a' b b' l r = operands_now always (binary_value equal) a a' b b' l r
binary_now less a a' b b' l r = operands_now always (binary_value less) a a' b b' l r
binary_now at_most a a' b b' l r = operands_now always (binary_value at_most) a a' b b' l r
binary_now iff a a' b b' l r = iff_now a a' b b' l r

-- a right side
right_now : (o : Connective) (v : AnyValue) (b b' : Answer) → Now b b' → Now (right_of o v b) (right_of o v b')
right_now o v b b' r = go (reads_right o (as_truth v))
  where
    joined : AnyValue → Answer
    joined w = value (truth (connective_value o (as_truth v) (as_truth w)))

    go : (d : Bool) → Now (pick d (value_then b joined) (value (truth (connective_value o (as_truth v) false)))) (pick d (value_then b' joined) (value (truth (connective_value o (as_truth v) false))))
    go true = then_now b b' joined joined r (λ w. inl refl)
    go false = inl refl

pub answer_now : {type : ℕ → ValueType} (ρ : Env type) (t : Tree) → Now (former_answer ρ t) (answer ρ t)
unfolding former_answer answer unary_answer former_division division_answer connective_answer
answer_now ρ (constant c) = inl refl
answer_now ρ (identifier x) = inl refl
answer_now ρ (after x) = inl refl
answer_now ρ (unary o t) = then_now (former_answer ρ t) (answer ρ t) _ _ (answer_now ρ t) (λ v. inl refl)
answer_now ρ (binary o t u) = binary_now o (former_answer ρ t) (answer ρ t) (former_answer ρ u) (answer ρ u) (answer_now ρ t) (answer_now ρ u)
answer_now ρ (division o t u) =
    operands_now (division_defined o) (division_value o) (former_answer ρ t) (answer ρ t) (former_answer ρ u) (answer ρ u) (answer_now ρ t) (answer_now ρ u)
answer_now ρ (connective o t u) =
    then_now (former_answer ρ t) (answer ρ t) _ _ (answer_now ρ t) (λ v. right_now o v (former_answer ρ u) (answer ρ u) (answer_now ρ u))

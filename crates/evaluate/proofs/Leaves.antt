-- What the leaves answer: literals and stored values are numbers of the machine, so they are in range.
use Prim.Native.Nat.{ℕ, ◌<◌, ◌^◌}
use mathlib.Core.Path.{◌≡◌, refl, sym, ap, ap₂, ◌∙◌}
use mathlib.Core.Bool.{Bool, true, false, true≢false}
use mathlib.Core.List.{List, [], ◌∷◌}
use borrow.Author.Tests.{eq-eqb, ne_eqb}
use mathlib.Core.Logic.{◌⊎◌, inl, inr}
use lib.IntN.{ℤ, pos}
use lib.ListN.{get_or}
use lib.Signed.{mag}
use Rattle.lists.specs.Choice.{pick}
use Rattle.table.specs.Rows.{Rows, type_of}
use Rattle.formula.specs.Values.{ValueType, integer, boolean, wrap, whole_number, equalℤ}
use Rattle.formula.specs.Tree.{literal, TRUE, FALSE, top, bottom, constant, identifier}
use Rattle.formula.specs.Tree as tree
use Rattle.formula.specs.Evaluate.{Env}
use Rattle.machine.specs.Operator.{Operator, literalOf, identifierOf, after_of, constant_of, unary_of, binary_of, division_of, connective_of, unknown, operator_numbered}
use Rattle.machine.specs.Described.{type_numbered, machine_of}
use Rattle.answer.specs.Answer.{within, answer}
use Rattle.answer.specs.Stored.{stored_value, stored, stored_env}
use Rattle.std.specs.Prelude.{Ok}
use Rattle.signed.specs.Found.{Found, found_of}
use Rattle.signed.specs.declared.Value.TheVariants.{Number, Truth}
use Rattle.signed.proofs.Numbers.{number_found, found_number, seen, seen_is, inside}
use Rattle.evaluate.specs.Evaluate.{leaf_answer}
use Rattle.evaluate.proofs.Numbered.{Behind, numbered_at, numbered_behind}

-- a number of the machine, as a result has it
pub number_is : (z : ℤ) {w : ℤ} → mag z < 2 ^ 63 → z ≡ w → Ok (Number (seen z)) ≡ number_found w
number_is z h e = ap found_number (seen_is z h refl) ∙ sym (inside z h) ∙ ap number_found e

-- a stored value of either type
pub stored_boolean : (s : ℕ) (z : ℤ) {b : Bool} → s ≡ 2 → b ≡ equalℤ z (pos 1) → Ok (Truth b) ≡ found_of (within (wrap (type_numbered s) (stored_value (type_numbered s) z)))
unfolding type_numbered within
stored_boolean s z e h = ap (λ b. Ok (Truth b)) h ∙ sym (ap (λ y. found_of (within (wrap y (stored_value y z)))) (ap (λ b. pick b boolean integer) (eq-eqb s 2 e)))

pub stored_integer : (s : ℕ) (z : ℤ) {f : Found} → (s ≡ 2 → ⊥) → f ≡ number_found z → f ≡ found_of (within (wrap (type_numbered s) (stored_value (type_numbered s) z)))
unfolding type_numbered
stored_integer s z n h = h ∙ sym (ap (λ y. found_of (within (wrap y (stored_value y z)))) (ap (λ b. pick b boolean integer) (ne_eqb s 2 n)))

module _ (t : Rows) (present after : List ℤ) where
  abbrev ρ : Env (machine_of t).type
  ρ = stored_env (machine_of t).type present after

  pub literal_leaf : (b : ℕ) (z : ℤ) → mag z < 2 ^ 63 → z ≡ whole_number b → Ok (Number (seen z)) ≡ found_of (answer ρ (constant (literal b)))
  unfolding answer
  literal_leaf b z h e = number_is z h e

  -- a stored value that was read, of the type that was read
  module _ (b s : ℕ) (z : ℤ) {f : Found} (h : f ≡ found_of (within (wrap (type_numbered s) (stored_value (type_numbered s) z)))) (e : s ≡ type_of t b) where
    pub identifier_leaf : z ≡ get_or present b (pos 0) → f ≡ found_of (answer ρ (identifier b))
    unfolding answer stored machine_of
    identifier_leaf d = h ∙ ap₂ (λ s z. found_of (within (wrap (type_numbered s) (stored_value (type_numbered s) z)))) e d

    pub after_leaf : z ≡ get_or after b (pos 0) → f ≡ found_of (answer ρ (tree.after b))
    unfolding answer stored machine_of
    after_leaf d = h ∙ ap₂ (λ s z. found_of (within (wrap (type_numbered s) (stored_value (type_numbered s) z)))) e d

-- the operators that answer false where they are taken for leaves: FALSE, ⊥, unknown ones, and those of other nodes
abbrev answers_false : Operator → Bool
answers_false literalOf = false
answers_false identifierOf = false
answers_false after_of = false
answers_false (constant_of (literal z)) = false
answers_false (constant_of TRUE) = false
answers_false (constant_of FALSE) = true
answers_false (constant_of top) = false
answers_false (constant_of bottom) = true
answers_false (unary_of o) = true
answers_false (binary_of o) = true
answers_false (division_of o) = true
answers_false (connective_of o) = true
answers_false unknown = true

-- the numbers of the others
abbrev others : List ℕ
others = 1 ∷ 2 ∷ 3 ∷ 4 ∷ 30 ∷ []

module _ {type : ℕ → ValueType} (ρ : Env type) where
  true_leaf : Ok (Truth true) ≡ found_of (answer ρ (constant TRUE))
  unfolding answer within
  true_leaf = refl

  false_leaf : Ok (Truth false) ≡ found_of (answer ρ (constant FALSE))
  unfolding answer within
  false_leaf = refl

  top_leaf : Ok (Truth true) ≡ found_of (answer ρ (constant top))
  unfolding answer within
  top_leaf = refl

  bottom_leaf : Ok (Truth false) ≡ found_of (answer ρ (constant bottom))
  unfolding answer within
  bottom_leaf = refl

  pub true_leaves : (n b : ℕ) → (n ≡ 4) ⊎ (n ≡ 30) → Ok (Truth true) ≡ found_of (leaf_answer ρ (operator_numbered n) b)
  true_leaves n b (inl e) = numbered_at (λ o. found_of (leaf_answer ρ o b)) 4 e true_leaf
  true_leaves n b (inr e) = numbered_at (λ o. found_of (leaf_answer ρ o b)) 30 e top_leaf

  false_lem : (o : Operator) (b : ℕ) → answers_false o ≡ true → Ok (Truth false) ≡ found_of (leaf_answer ρ o b)
  false_lem literalOf b e = absurd (true≢false (sym e))
  false_lem identifierOf b e = absurd (true≢false (sym e))
  false_lem after_of b e = absurd (true≢false (sym e))
  false_lem (constant_of (literal z)) b e = absurd (true≢false (sym e))
  false_lem (constant_of TRUE) b e = absurd (true≢false (sym e))
  false_lem (constant_of FALSE) b e = false_leaf
  false_lem (constant_of top) b e = absurd (true≢false (sym e))
  false_lem (constant_of bottom) b e = bottom_leaf
  false_lem (unary_of o) b e = bottom_leaf
  false_lem (binary_of o) b e = bottom_leaf
  false_lem (division_of o) b e = bottom_leaf
  false_lem (connective_of o) b e = bottom_leaf
  false_lem unknown b e = bottom_leaf

  pub false_leaves : (n b : ℕ) → Behind n (1 ∷ 2 ∷ 3 ∷ []) Unit × ((n ≡ 4) ⊎ (n ≡ 30) → ⊥) → Ok (Truth false) ≡ found_of (leaf_answer ρ (operator_numbered n) b)
  false_leaves n b h =
      false_lem (operator_numbered n) b (numbered_behind answers_false others tt tt n ((h.0, (λ e. h.1 (inl e))), (λ e. h.1 (inr e))))

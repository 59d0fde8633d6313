-- A formula with every variable at its after value says what the formula says where the variables have those values: by
-- induction on the tree, for its value, its reading and what it mentions.
use mathlib.Core.Path.{◌≡◌, refl, sym, ap, ap₂, ◌∙◌}
use mathlib.Core.Bool.{Bool, true, false, ◌&&◌}
use mathlib.Core.Option.{none, some}
use Prim.Native.Nat.{ℕ}
use Rattle.lists.specs.Choice.{pick}
use Rattle.formula.specs.Values.{ValueType, truth, wrap, as_truth}
use Rattle.formula.specs.Tree.{top, and, or, implies, Division, quotient, remainder, Tree, constant, identifier, after, unary, binary, division}
use Rattle.formula.specs.Tree.{connective}
use Rattle.formula.specs.Evaluate.{Env, evaluate, read_tree, unary_value, binary_value, total_division, connective_value}
use Rattle.formula.specs.WellDefined.{well_defined, division_condition}
use Rattle.formula.specs.AfterValues.{at_after}
use Rattle.formula.specs.Mentions.{mentions}
use Rattle.formula.proofs.WellDefined.{read_where_well_defined}

module _ (is_variable : ℕ → Bool) where
  -- the environment whose variables have their after values
  abbrev pub advance : {type : ℕ → ValueType} → Env type → Env type
  advance ρ = record { present = λ x. pick (is_variable x) (ρ.after x) (ρ.present x); after = ρ.after }

  condition_at_after : (o : Division) (t u : Tree) →
      division_condition o (at_after is_variable t) (at_after is_variable u) ≡ at_after is_variable (division_condition o t u)
  unfolding at_after
  condition_at_after quotient t u = refl
  condition_at_after remainder t u = refl

  pub well_defined_at_after : (t : Tree) → well_defined (at_after is_variable t) ≡ at_after is_variable (well_defined t)
  unfolding well_defined at_after
  well_defined_at_after (constant c) = refl
  well_defined_at_after (identifier x) = go (is_variable x)
    where
      go : (b : Bool) → well_defined (pick b (after x) (identifier x)) ≡ constant top
      go true = refl
      go false = refl
  well_defined_at_after (after x) = refl
  well_defined_at_after (unary o t) = well_defined_at_after t
  well_defined_at_after (binary o t u) = ap₂ (connective and) (well_defined_at_after t) (well_defined_at_after u)
  well_defined_at_after (division o t u) =
      ap₂ (λ a b. connective and (connective and a b) (division_condition o (at_after is_variable t) (at_after is_variable u)))
      (well_defined_at_after t) (well_defined_at_after u)
      ∙ ap (connective and (connective and (at_after is_variable (well_defined t)) (at_after is_variable (well_defined u)))) (condition_at_after o t u)
  well_defined_at_after (connective and t u) =
      ap₂ (λ a b. connective and a (connective implies (at_after is_variable t) b)) (well_defined_at_after t) (well_defined_at_after u)
  well_defined_at_after (connective or t u) =
      ap₂ (λ a b. connective and a (connective or (at_after is_variable t) b)) (well_defined_at_after t) (well_defined_at_after u)
  well_defined_at_after (connective implies t u) =
      ap₂ (λ a b. connective and a (connective implies (at_after is_variable t) b)) (well_defined_at_after t) (well_defined_at_after u)

  pub mentions_at_after : (P Q : ℕ → Bool) (t : Tree) → mentions P Q (at_after is_variable t) ≡ mentions (λ x. pick (is_variable x) (Q x) (P x)) Q t
  unfolding mentions at_after
  mentions_at_after P Q (constant c) = refl
  mentions_at_after P Q (identifier x) = go (is_variable x)
    where
      go : (b : Bool) → mentions P Q (pick b (after x) (identifier x)) ≡ pick b (Q x) (P x)
      go true = refl
      go false = refl
  mentions_at_after P Q (after x) = refl
  mentions_at_after P Q (unary o t) = mentions_at_after P Q t
  mentions_at_after P Q (binary o t u) = ap₂ ◌&&◌ (mentions_at_after P Q t) (mentions_at_after P Q u)
  mentions_at_after P Q (division o t u) = ap₂ ◌&&◌ (mentions_at_after P Q t) (mentions_at_after P Q u)
  mentions_at_after P Q (connective o t u) = ap₂ ◌&&◌ (mentions_at_after P Q t) (mentions_at_after P Q u)

  module _ {type : ℕ → ValueType} (ρ : Env type) where
    pub evaluate_at_after : (t : Tree) → evaluate ρ (at_after is_variable t) ≡ evaluate (advance ρ) t
    unfolding evaluate at_after
    evaluate_at_after (constant c) = refl
    evaluate_at_after (identifier x) = go (is_variable x)
      where
        go : (b : Bool) → evaluate ρ (pick b (after x) (identifier x)) ≡ wrap (type x) (pick b (ρ.after x) (ρ.present x))
        go true = refl
        go false = refl
    evaluate_at_after (after x) = refl
    evaluate_at_after (unary o t) = ap (unary_value o) (evaluate_at_after t)
    evaluate_at_after (binary o t u) = ap₂ (binary_value o) (evaluate_at_after t) (evaluate_at_after u)
    evaluate_at_after (division o t u) = ap₂ (total_division o) (evaluate_at_after t) (evaluate_at_after u)
    evaluate_at_after (connective o t u) =
        ap₂ (λ v w. truth (connective_value o (as_truth v) (as_truth w))) (evaluate_at_after t) (evaluate_at_after u)

    pub read_at_after : (t : Tree) → read_tree ρ (at_after is_variable t) ≡ read_tree (advance ρ) t
    read_at_after t =
        read_where_well_defined ρ (at_after is_variable t)
        ∙ ap₂ (λ w v. pick (as_truth w) (some v) none) (ap (evaluate ρ) (well_defined_at_after t) ∙ evaluate_at_after (well_defined t)) (evaluate_at_after t)
        ∙ sym (read_where_well_defined (advance ρ) t)

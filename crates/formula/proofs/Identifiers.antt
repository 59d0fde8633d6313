-- A formula turns only on its identifiers: environments that agree on all of them give it one value, by induction on the tree. What it mentions passes the tests
-- of `mentions`. Its identifiers are those of the formula with its variables at their after values, and its well-definedness has no others.
use mathlib.Core.Path.{◌≡◌, refl, ap, ap₂}
use mathlib.Core.Bool.{Bool, true, false, ◌||◌}
use mathlib.Core.List.{List, [], ◌∷◌, ◌++◌}
use Prim.Native.Nat.{ℕ}
use lib.Dec.{T}
use Rattle.lists.specs.All.{All, all_nil, all_cons}
use Rattle.lists.specs.Choice.{pick}
use Rattle.lists.proofs.All.{all_head, all_left, all_right, all_join}
use Rattle.formula.specs.Values.{ValueType, truth, wrap, as_truth}
use Rattle.formula.specs.Tree.{Division, quotient, remainder, and, or, implies, Tree, constant, identifier, after, unary, binary, division, connective}
use Rattle.formula.specs.Evaluate.{Env, evaluate, unary_value, binary_value, total_division, connective_value}
use Rattle.formula.specs.Identifiers.{identifiers}
use Rattle.formula.specs.Mentions.{mentions}
use Rattle.formula.specs.AfterValues.{at_after}
use Rattle.formula.specs.WellDefined.{division_condition, well_defined}
use Rattle.formula.proofs.Truth.{and_split, or_left, or_right}

abbrev joined : List ℕ → List ℕ → List ℕ
joined xs ys = xs ++ ys

-- two environments have one value and one after value of an identifier
abbrev pub SameAt : {type : ℕ → ValueType} → Env type → Env type → ℕ → Type 0
SameAt ρ σ x = (ρ.present x ≡ σ.present x) × (ρ.after x ≡ σ.after x)

module _ {type : ℕ → ValueType} (ρ σ : Env type) where
  pub evaluate_same : (t : Tree) → All (SameAt ρ σ) (identifiers t) → evaluate ρ t ≡ evaluate σ t
  unfolding evaluate identifiers
  evaluate_same (constant c) s = refl
  evaluate_same (identifier x) s = ap (wrap (type x)) (all_head s).0
  evaluate_same (after x) s = ap (wrap (type x)) (all_head s).1
  evaluate_same (unary o t) s = ap (unary_value o) (evaluate_same t s)
  evaluate_same (binary o t u) s =
      ap₂ (binary_value o) (evaluate_same t (all_left (identifiers t) (identifiers u) s)) (evaluate_same u (all_right (identifiers t) s))
  evaluate_same (division o t u) s =
      ap₂ (total_division o) (evaluate_same t (all_left (identifiers t) (identifiers u) s)) (evaluate_same u (all_right (identifiers t) s))
  evaluate_same (connective o t u) s =
      ap₂ (λ v w. truth (connective_value o (as_truth v) (as_truth w))) (evaluate_same t (all_left (identifiers t) (identifiers u) s))
      (evaluate_same u (all_right (identifiers t) s))

module _ (P Q : ℕ → Bool) where
  -- every identifier passes one of the tests
  pub mentions_identifiers : (t : Tree) → T (mentions P Q t) → All (λ x. T (P x || Q x)) (identifiers t)
  unfolding mentions identifiers
  mentions_identifiers (constant c) s = all_nil
  mentions_identifiers (identifier x) s = all_cons (or_left (P x) (Q x) s) all_nil
  mentions_identifiers (after x) s = all_cons (or_right (P x) (Q x) s) all_nil
  mentions_identifiers (unary o t) s = mentions_identifiers t s
  mentions_identifiers (binary o t u) s =
      let p = and_split (mentions P Q t) (mentions P Q u) s in all_join (mentions_identifiers t p.0) (mentions_identifiers u p.1)
  mentions_identifiers (division o t u) s =
      let p = and_split (mentions P Q t) (mentions P Q u) s in all_join (mentions_identifiers t p.0) (mentions_identifiers u p.1)
  mentions_identifiers (connective o t u) s =
      let p = and_split (mentions P Q t) (mentions P Q u) s in all_join (mentions_identifiers t p.0) (mentions_identifiers u p.1)

pub identifiers_at_after : (v : ℕ → Bool) (t : Tree) → identifiers (at_after v t) ≡ identifiers t
unfolding identifiers at_after
identifiers_at_after v (constant c) = refl
identifiers_at_after v (identifier x) = go (v x)
  where
    go : (b : Bool) → identifiers (pick b (after x) (identifier x)) ≡ x ∷ []
    go true = refl
    go false = refl
identifiers_at_after v (after x) = refl
identifiers_at_after v (unary o t) = identifiers_at_after v t
identifiers_at_after v (binary o t u) = ap₂ joined (identifiers_at_after v t) (identifiers_at_after v u)
identifiers_at_after v (division o t u) = ap₂ joined (identifiers_at_after v t) (identifiers_at_after v u)
identifiers_at_after v (connective o t u) = ap₂ joined (identifiers_at_after v t) (identifiers_at_after v u)

module _ {P : ℕ → Type 0} where
  condition_identifiers : (o : Division) (t u : Tree) → All P (identifiers t) → All P (identifiers u) → All P (identifiers (division_condition o t u))
  unfolding identifiers
  condition_identifiers quotient t u l r = all_join r all_nil
  condition_identifiers remainder t u l r = all_join l r

  pub well_defined_identifiers : (t : Tree) → All P (identifiers t) → All P (identifiers (well_defined t))
  unfolding identifiers well_defined
  well_defined_identifiers (constant c) h = all_nil
  well_defined_identifiers (identifier x) h = all_nil
  well_defined_identifiers (after x) h = all_nil
  well_defined_identifiers (unary o t) h = well_defined_identifiers t h
  well_defined_identifiers (binary o t u) h =
      all_join (well_defined_identifiers t (all_left (identifiers t) (identifiers u) h)) (well_defined_identifiers u (all_right (identifiers t) h))
  well_defined_identifiers (division o t u) h =
      let l = all_left (identifiers t) (identifiers u) h in
      let r = all_right (identifiers t) h in
      all_join (all_join (well_defined_identifiers t l) (well_defined_identifiers u r)) (condition_identifiers o t u l r)
  well_defined_identifiers (connective and t u) h =
      let l = all_left (identifiers t) (identifiers u) h in
      all_join (well_defined_identifiers t l) (all_join l (well_defined_identifiers u (all_right (identifiers t) h)))
  well_defined_identifiers (connective or t u) h =
      let l = all_left (identifiers t) (identifiers u) h in
      all_join (well_defined_identifiers t l) (all_join l (well_defined_identifiers u (all_right (identifiers t) h)))
  well_defined_identifiers (connective implies t u) h =
      let l = all_left (identifiers t) (identifiers u) h in
      all_join (well_defined_identifiers t l) (all_join l (well_defined_identifiers u (all_right (identifiers t) h)))

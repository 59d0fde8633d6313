-- A formula turns only on what it mentions: environments that agree there give it one value, by induction on the tree, and one
-- reading, since its well-definedness formula mentions nothing more.
use mathlib.Core.Path.{◌≡◌, refl, sym, ap, ap₂, ◌∙◌}
use mathlib.Core.Bool.{Bool, ◌&&◌}
use mathlib.Core.Option.{none, some}
use Prim.Native.Nat.{ℕ}
use lib.Dec.{T}
use Rattle.lists.specs.Choice.{pick}
use Rattle.formula.specs.Values.{ValueType, truth, wrap, as_truth}
use Rattle.formula.specs.Tree.{literal, Connective, and, or, implies, Division, quotient, remainder, Tree, constant, identifier, after, unary}
use Rattle.formula.specs.Tree.{binary, division, connective}
use Rattle.formula.specs.Evaluate.{Env, evaluate, read_tree, unary_value, binary_value, total_division, connective_value}
use Rattle.formula.specs.WellDefined.{well_defined, division_condition}
use Rattle.formula.specs.Mentions.{mentions}
use Rattle.formula.proofs.Truth.{and_split, and_join}
use Rattle.formula.proofs.WellDefined.{read_where_well_defined}

-- equal values of the identifiers that pass P, equal after values of those that pass Q
pub record Agree {type : ℕ → ValueType} (P Q : ℕ → Bool) (ρ σ : Env type) : Type 0 where
  pub present : (x : ℕ) → T (P x) → ρ.present x ≡ σ.present x
  pub after : (x : ℕ) → T (Q x) → ρ.after x ≡ σ.after x

pub agree_sym : {type : ℕ → ValueType} {P Q : ℕ → Bool} {ρ σ : Env type} → Agree P Q ρ σ → Agree P Q σ ρ
agree_sym h = record { present = λ x t. sym (h.present x t); after = λ x t. sym (h.after x t) }

module _ (P Q : ℕ → Bool) where
  abbrev Seen : Tree → Type 0
  Seen t = T (mentions P Q t)

  parts : (t u : Tree) → T (mentions P Q t && mentions P Q u) → Seen t × Seen u
  parts t u s = and_split (mentions P Q t) (mentions P Q u) s

  both : (t u : Tree) → Seen t → Seen u → T (mentions P Q t && mentions P Q u)
  both t u p q = and_join (mentions P Q t) (mentions P Q u) p q

  condition_seen : (o : Division) (t u : Tree) → Seen t → Seen u → Seen (division_condition o t u)
  unfolding mentions
  condition_seen quotient t u p q = both u (constant (literal 0)) q tt
  condition_seen remainder t u p q = both t u p q

  connective_seen : (o : Connective) (t u : Tree) → Seen (well_defined t) → Seen t → Seen (well_defined u) → Seen (well_defined (connective o t u))
  unfolding mentions well_defined
  connective_seen and t u d p e = both (well_defined t) (connective implies t (well_defined u)) d (both t (well_defined u) p e)
  connective_seen or t u d p e = both (well_defined t) (connective or t (well_defined u)) d (both t (well_defined u) p e)
  connective_seen implies t u d p e = both (well_defined t) (connective implies t (well_defined u)) d (both t (well_defined u) p e)

  -- a well-definedness formula mentions only what its formula does
  pub mentions_well_defined : (t : Tree) → T (mentions P Q t) → T (mentions P Q (well_defined t))
  unfolding mentions well_defined
  mentions_well_defined (constant c) s = tt
  mentions_well_defined (identifier x) s = tt
  mentions_well_defined (after x) s = tt
  mentions_well_defined (unary o t) s = mentions_well_defined t s
  mentions_well_defined (binary o t u) s =
      let p = parts t u s in
      both (well_defined t) (well_defined u) (mentions_well_defined t p.0) (mentions_well_defined u p.1)
  mentions_well_defined (division o t u) s =
      let p = parts t u s in
      both (connective and (well_defined t) (well_defined u)) (division_condition o t u)
      (both (well_defined t) (well_defined u) (mentions_well_defined t p.0) (mentions_well_defined u p.1))
      (condition_seen o t u p.0 p.1)
  mentions_well_defined (connective o t u) s =
      let p = parts t u s in
      connective_seen o t u (mentions_well_defined t p.0) p.0 (mentions_well_defined u p.1)

module _ {type : ℕ → ValueType} {P Q : ℕ → Bool} (ρ σ : Env type) (h : Agree P Q ρ σ) where
  pub evaluate_agree : (t : Tree) → T (mentions P Q t) → evaluate ρ t ≡ evaluate σ t
  unfolding evaluate mentions
  evaluate_agree (constant c) s = refl
  evaluate_agree (identifier x) s = ap (wrap (type x)) (h.present x s)
  evaluate_agree (after x) s = ap (wrap (type x)) (h.after x s)
  evaluate_agree (unary o t) s = ap (unary_value o) (evaluate_agree t s)
  evaluate_agree (binary o t u) s =
      let p = parts P Q t u s in ap₂ (binary_value o) (evaluate_agree t p.0) (evaluate_agree u p.1)
  evaluate_agree (division o t u) s =
      let p = parts P Q t u s in ap₂ (total_division o) (evaluate_agree t p.0) (evaluate_agree u p.1)
  evaluate_agree (connective o t u) s =
      let p = parts P Q t u s in
      ap₂ (λ v w. truth (connective_value o (as_truth v) (as_truth w))) (evaluate_agree t p.0) (evaluate_agree u p.1)

  pub read_agree : (t : Tree) → T (mentions P Q t) → read_tree ρ t ≡ read_tree σ t
  read_agree t s =
      read_where_well_defined ρ t
      ∙ ap₂ (λ w v. pick (as_truth w) (some v) none) (evaluate_agree (well_defined t) (mentions_well_defined P Q t s)) (evaluate_agree t s)
      ∙ sym (read_where_well_defined σ t)

-- `mentions` follows its tests: weaker tests, and two pairs of tests together
module _ (P Q P' Q' : ℕ → Bool) where
  pub mentions_imp : ((x : ℕ) → T (P x) → T (P' x)) → ((x : ℕ) → T (Q x) → T (Q' x)) → (t : Tree) → T (mentions P Q t) → T (mentions P' Q' t)
  unfolding mentions
  mentions_imp f g (constant c) s = tt
  mentions_imp f g (identifier x) s = f x s
  mentions_imp f g (after x) s = g x s
  mentions_imp f g (unary o t) s = mentions_imp f g t s
  mentions_imp f g (binary o t u) s = let p = parts P Q t u s in both P' Q' t u (mentions_imp f g t p.0) (mentions_imp f g u p.1)
  mentions_imp f g (division o t u) s = let p = parts P Q t u s in both P' Q' t u (mentions_imp f g t p.0) (mentions_imp f g u p.1)
  mentions_imp f g (connective o t u) s = let p = parts P Q t u s in both P' Q' t u (mentions_imp f g t p.0) (mentions_imp f g u p.1)

  pub mentions_and : (t : Tree) → T (mentions P Q t) → T (mentions P' Q' t) → T (mentions (λ x. P x && P' x) (λ x. Q x && Q' x) t)
  unfolding mentions
  mentions_and (constant c) s s' = tt
  mentions_and (identifier x) s s' = and_join (P x) (P' x) s s'
  mentions_and (after x) s s' = and_join (Q x) (Q' x) s s'
  mentions_and (unary o t) s s' = mentions_and t s s'
  mentions_and (binary o t u) s s' =
      let p = parts P Q t u s in let p' = parts P' Q' t u s' in
      both (λ x. P x && P' x) (λ x. Q x && Q' x) t u (mentions_and t p.0 p'.0) (mentions_and u p.1 p'.1)
  mentions_and (division o t u) s s' =
      let p = parts P Q t u s in let p' = parts P' Q' t u s' in
      both (λ x. P x && P' x) (λ x. Q x && Q' x) t u (mentions_and t p.0 p'.0) (mentions_and u p.1 p'.1)
  mentions_and (connective o t u) s s' =
      let p = parts P Q t u s in let p' = parts P' Q' t u s' in
      both (λ x. P x && P' x) (λ x. Q x && Q' x) t u (mentions_and t p.0 p'.0) (mentions_and u p.1 p'.1)

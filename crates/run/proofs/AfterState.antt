-- Formulas with every variable at its after value (form 2), in the world of a step, say what the formulas say of the pair of states after it.
use mathlib.Core.Path.{◌≡◌, refl, ap, ◌∙◌, subst}
use mathlib.Core.Bool.{Bool}
use mathlib.Core.List.{List}
use Prim.Native.Nat.{ℕ}
use lib.Dec.{T}
use Rattle.lists.specs.Choice.{pick}
use Rattle.lists.specs.All.{All}
use Rattle.lists.proofs.All.{all_at, all_in}
use Rattle.formula.specs.Values.{as_truth}
use Rattle.formula.specs.Evaluate.{Env, evaluate}
use Rattle.formula.specs.AfterValues.{at_after}
use Rattle.formula.proofs.Mentions.{Agree, evaluate_agree}
use Rattle.formula.proofs.Truth.{and_split}
use Rattle.formula.proofs.AfterValues.{advance, evaluate_at_after}
use Rattle.machine.specs.Machine.{Kind, constant_kind, abstractVariable, concreteVariable, abstractParameter, concreteParameter, sharedVariable, is_variable, Machine}
use Rattle.sequent.specs.Entry.{primed, variable}
use Rattle.sequent.specs.Sequent.{Meets}
use Rattle.run.specs.Run.{by_kind, blank_value, State, blank, world}
use Rattle.run.proofs.WellFormed.{never, among, Sees}
use Rattle.run.proofs.Reading.{AllTrue}

by_kind_after : {A : Type 0} (S : Kind → Bool) (K : Kind) (z c a k q p a' k' a₂ : A) →
    (T (S abstractVariable) → a' ≡ a₂) → (T (S abstractParameter) → ⊥) → (T (S concreteParameter) → ⊥) →
    T (S K) → pick (is_variable K) (by_kind K z a' k' z z k') (by_kind K c a k q p k) ≡ by_kind K c a₂ k' z z k'
by_kind_after S constant_kind z c a k q p a' k' a₂ ha nq np t = refl
by_kind_after S abstractVariable z c a k q p a' k' a₂ ha nq np t = ha t
by_kind_after S concreteVariable z c a k q p a' k' a₂ ha nq np t = refl
by_kind_after S abstractParameter z c a k q p a' k' a₂ ha nq np t = absurd (nq t)
by_kind_after S concreteParameter z c a k q p a' k' a₂ ha nq np t = absurd (np t)
by_kind_after S sharedVariable z c a k q p a' k' a₂ ha nq np t = refl

-- S holds no parameters; where it holds the abstract machine's variables, a₂ is that machine's state after the step
module _ (m : Machine) (S : Kind → Bool) (nq : T (S abstractParameter) → ⊥) (np : T (S concreteParameter) → ⊥) (c a k q p a' k' a₂ : State m)
    (ha : T (S abstractVariable) → a' ≡ a₂) where
  abbrev result : Env m.type
  result = world m c a₂ k' (blank m) (blank m) (blank m) (blank m)

  advance_agree : Agree (among m S) never (advance (variable m) (world m c a k q p a' k')) result
  advance_agree = record {
    present = λ x t. by_kind_after S (m.kind x) (blank_value (m.type x)) (c x) (a x) (k x) (q x) (p x) (a' x) (k' x) (a₂ x)
        (λ s. ap (λ f. f x) (ha s)) nq np (and_split (S (m.kind x)) _ t).0;
    after = λ x t. absurd t;
  }

  pub after_evaluate : (r : ℕ) → Sees m S never r → evaluate (world m c a k q p a' k') (at_after (variable m) (m.tree r)) ≡ evaluate result (m.tree r)
  after_evaluate r s = evaluate_at_after (variable m) (world m c a k q p a' k') (m.tree r) ∙ evaluate_agree _ result advance_agree (m.tree r) s

  pub after_true : {rs : List ℕ} → All (Sees m S never) rs → All (λ r. Meets m (world m c a k q p a' k') (primed r)) rs → AllTrue m result rs
  after_true {rs} ss ts = all_in rs (λ r i. subst (λ v. T (as_truth v)) (after_evaluate r (all_at ss i)) (all_at ts i))

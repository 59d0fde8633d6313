-- The bound on convergent steps: NAT leaves room for the last one, VAR of a convergent event for one more before those that are bounded already, and VAR of
-- an anticipated one keeps the bound.
use mathlib.Core.Path.{◌≡◌, refl, sym, ap, ◌∙◌, subst}
use mathlib.Core.Option.{Option, some}
use Prim.Native.Nat.{ℕ, zero, suc, ◌<◌}
use native.Mathlib.Omega.{arith}
use lib.Dec.{T}
use lib.IntN.{ℤ, pos}
use Rattle.lists.specs.All.{All, In}
use Rattle.lists.proofs.All.{all_at}
use Rattle.formula.specs.Values.{AnyValue, number, as_number, at_mostℤ, lessℤ}
use Rattle.formula.specs.Evaluate.{Env, evaluate, read_tree}
use Rattle.formula.specs.AfterValues.{at_after}
use Rattle.formula.proofs.Order.{bound_one, bound_falls, bound_kept}
use Rattle.formula.proofs.Mentions.{evaluate_agree}
use Rattle.formula.proofs.WellDefined.{reads_total}
use Rattle.machine.specs.Machine.{Machine}
use Rattle.sequent.specs.Entry.{natural, decreases, not_increased, variable}
use Rattle.sequent.specs.Sequent.{Meets}
use Rattle.run.specs.Run.{State, blank, world, Defined}
use Rattle.run.specs.SafeRun.{within_bound, Bounded}
use Rattle.run.proofs.WellFormed.{concrete_state_kinds, WellFormed}
use Rattle.run.proofs.Reading.{defined_reads, evaluate_typed}
use Rattle.run.proofs.Views.{same_shared, world_agree}
use Rattle.run.proofs.AfterState.{after_evaluate}
use Rattle.run.proofs.Pair.{pair_of}

module _ (m : Machine) (wf : WellFormed m) where
  -- a variant's value at a concrete state
  abbrev variant_at : State m → State m → ℕ → ℤ
  variant_at c k r = as_number (evaluate (pair_of m c (blank m) k) (m.tree r))

  variant_reads : (c k : State m) (r : ℕ) → In r m.variants → Defined m (pair_of m c (blank m) k) r →
      read_tree (pair_of m c (blank m) k) (m.tree r) ≡ some (number (variant_at c k r))
  variant_reads c k r i d =
      let ρ = pair_of m c (blank m) k in
      defined_reads m ρ r d ∙ ap {B = Option AnyValue} some (evaluate_typed m ρ r (all_at wf.variants_integer i))

  -- a step from k to k', in a world where the goals of its event's NAT and VAR are true
  module _ (c a k q p a' k' : State m) (ds : All (Defined m (pair_of m c (blank m) k)) m.variants) where
    abbrev W : Env m.type
    W = world m c a k q p a' k'

    before : (r : ℕ) → In r m.variants → evaluate W (m.tree r) ≡ evaluate (pair_of m c (blank m) k) (m.tree r)
    before r i =
        evaluate_agree _ _
        (world_agree m concrete_state_kinds c a k q p a' k' (blank m) k _ _ _ _ (λ t. absurd t) (λ t. refl) (λ t. absurd t) (λ t. absurd t) (λ t. same_shared m k))
        (m.tree r) (all_at wf.variants_see i)

    -- what VAR compares are the variant's values at k' and at k
    compared : (P : ℤ → ℤ → Type 0) (r : ℕ) → In r m.variants
        → P (as_number (evaluate W (at_after (variable m) (m.tree r)))) (as_number (evaluate W (m.tree r))) → P (variant_at c k' r) (variant_at c k r)
    compared P r i h =
        subst (λ v. P (variant_at c k' r) (as_number v)) (before r i)
        (subst (λ v. P (as_number v) (as_number (evaluate W (m.tree r))))
        (after_evaluate m concrete_state_kinds (λ t. t) (λ t. t) c a k q p a' k' (blank m) (λ t. absurd t) r
        (all_at wf.variants_see i)) h)

    -- a bound at k' gives one at k
    carried : (n n' : ℕ) → 0 < n → ((r : ℕ) → In r m.variants → T (within_bound n (variant_at c k' r)) → T (within_bound n' (variant_at c k r)))
        → Bounded m c k' n → Bounded m c k n'
    carried n n' l f b _ =
        let (s, v, j, e, t) = b l in
        let v-is : variant_at c k' s ≡ v = ap as_number (reads_total (pair_of m c (blank m) k') (m.tree s) (number v) e) in
        (s, variant_at c k s, j, variant_reads c k s j (all_at ds j), f s j (subst (λ z. T (within_bound n z)) (sym v-is) t))

    module _ (ns : All (λ r. Meets m W (natural r)) m.variants) (fs : All (λ r. Meets m W (decreases r)) m.variants) where
      variant_natural : (r : ℕ) → In r m.variants → T (at_mostℤ (pos 0) (variant_at c k r))
      unfolding evaluate
      variant_natural r i = subst (λ v. T (at_mostℤ (pos 0) (as_number v))) (before r i) (all_at ns i)

      variant_falls : (r : ℕ) → In r m.variants → T (lessℤ (variant_at c k' r) (variant_at c k r))
      unfolding evaluate
      variant_falls r i = compared (λ w v. T (lessℤ w v)) r i (all_at fs i)

      pub convergent_bounded : (r : ℕ) → In r m.variants → (n : ℕ) → Bounded m c k' n → Bounded m c k (suc n)
      convergent_bounded r i zero b l = (r, variant_at c k r, i, variant_reads c k r i (all_at ds i), bound_one (variant_at c k r) (variant_natural r i))
      convergent_bounded r i (suc n) b l =
          carried (suc n) (suc (suc n)) (omega arith) (λ s j t. bound_falls (suc n) (variant_at c k s) (variant_at c k' s) (variant_falls s j) t) b l

    module _ (ks : All (λ r. Meets m W (not_increased r)) m.variants) where
      variant_kept : (r : ℕ) → In r m.variants → T (at_mostℤ (variant_at c k' r) (variant_at c k r))
      unfolding evaluate
      variant_kept r i = compared (λ w v. T (at_mostℤ w v)) r i (all_at ks i)

      pub anticipated_bounded : (n : ℕ) → Bounded m c k' n → Bounded m c k n
      anticipated_bounded n b l =
          carried n n l (λ s j t. bound_kept n (variant_at c k s) (variant_at c k' s) (variant_kept s j) t) b l

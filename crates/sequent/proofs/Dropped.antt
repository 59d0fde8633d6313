-- 02, request 4, "the safe run must follow from that list alone": the obligations that the list leaves out are valid. A formula with no ÷ and no mod is well
-- defined everywhere. An invariant is among the hypotheses of its INV, as written; where the event assigns no variable that it mentions, the moves say that these
-- keep their values, so it says the same of the after values.
use mathlib.Core.Path.{◌≡◌, refl, sym, ◌∙◌, subst}
use mathlib.Core.Bool.{Bool, true, false, true≢false}
use mathlib.Core.List.{List, ◌++◌, map}
use mathlib.Core.Logic.{◌⊎◌, ⊎_elim}
use Prim.Native.Nat.{ℕ}
use lib.Dec.{T}
use Rattle.lists.specs.Choice.{pick}
use Rattle.lists.specs.All.{All, In}
use Rattle.lists.proofs.All.{all_left, all_right, all_at, all_in, all_imp, all_unmap, in_left, in_right, in_map}
use Rattle.lists.proofs.Below.{keep_in}
use Rattle.formula.specs.Values.{as_truth}
use Rattle.formula.specs.Evaluate.{Env, True}
use Rattle.formula.specs.Formula.{plain, Holds}
use Rattle.formula.specs.AfterValues.{at_after}
use Rattle.formula.specs.Identifiers.{identifiers}
use Rattle.formula.proofs.AfterValues.{advance, evaluate_at_after}
use Rattle.formula.proofs.Identifiers.{SameAt, evaluate_same}
use Rattle.formula.proofs.NoDivision.{no_division_defined}
use Rattle.formula.proofs.Truth.{true_test}
use Rattle.machine.specs.Machine.{unassigned, Machine, unshared_variables}
use Rattle.machine.specs.Machine.{Role, abstract_initialisation, abstract_ordinary, concrete_initialisation, refining, convergent, anticipated}
use Rattle.sequent.specs.Entry.{Entry, written, moves, variable, action_tree}
use Rattle.sequent.specs.Sequent.{Sequent, Meets, Valid}
use Rattle.sequent.specs.Required.{is_new, as_written, base_of, own_variables, own_invariants, keeps_invariants, Dropped}
use Rattle.sequent.specs.Required.{Obligation, wd_formula, wd_variant, wd_guard, wd_action, fis, wd_witness, wfis, grd, sim, sim_of_new, inv, inv_new, nat, var}
use Rattle.sequent.specs.Required.{var_anticipated}
use Rattle.sequent.specs.Listed.{needed, obligations, sequents}
use Rattle.sequent.proofs.Exact.{listed_obligation}
use Rattle.sequent.proofs.Required.{invariant_dropped, dropped_unneeded}
use Rattle.sequent.proofs.Shared.{unchanged_same}

-- the machines have the variables that their invariants mention; the concrete invariants mention those of both
pub record InvariantsListed (m : Machine) : Type 0 where
  pub abstract_ones : All (λ r. All (λ x. T (variable m x) → In x m.abstract_variables) (identifiers (m.tree r))) m.abstract_invariants
  pub concrete_ones :
      All (λ r. All (λ x. T (variable m x) → In x m.concrete_variables ⊎ In x (unshared_variables m)) (identifiers (m.tree r))) m.concrete_invariants

module _ (m : Machine) (ρ : Env m.type) where
  -- the variables of a formula keep their values
  abbrev Stays : ℕ → Type 0
  Stays x = T (variable m x) → ρ.after x ≡ ρ.present x

  advanced_same : (x : ℕ) → Stays x → SameAt (advance (variable m) ρ) ρ x
  advanced_same x s = (go (variable m x) s, refl)
    where
      go : (b : Bool) → (T b → ρ.after x ≡ ρ.present x) → pick b (ρ.after x) (ρ.present x) ≡ ρ.present x
      go true s = s tt
      go false s = refl

  -- so it is true of the after values where it is true
  stays_true : (r : ℕ) → All Stays (identifiers (m.tree r)) → True ρ (m.tree r) → True ρ (at_after (variable m) (m.tree r))
  stays_true r s h =
      subst (λ v. T (as_truth v))
      (sym (evaluate_at_after (variable m) ρ (m.tree r) ∙ evaluate_same (advance (variable m) ρ) ρ (m.tree r) (all_imp advanced_same s))) h

  -- form 4 of a variable that the event does not assign
  move_stays : (e : ℕ) (xs : List ℕ) → All (Meets m ρ) (map (moves e) xs) → {x : ℕ} → In x xs → m.action e x ≡ unassigned → ρ.after x ≡ ρ.present x
  move_stays e xs h {x} i p = unchanged_same m ρ x (subst (λ a. Holds ρ (plain (action_tree m a x))) p (all_at (all_unmap (moves e) xs h) i))

module _ (m : Machine) (has : InvariantsListed m) (e r : ℕ) (free : All (λ x. m.action e x ≡ unassigned) (identifiers (m.tree r))) (gs : List ℕ) where
  abbrev Moved : Role → List Entry
  Moved ro = (base_of m ro ++ as_written gs) ++ map (moves e) (own_variables m ro)

  -- INV of an abstract event
  abstract_valid : (ρ : Env m.type) (rest : List Entry) → In r m.abstract_invariants → All (Meets m ρ) (Moved abstract_ordinary ++ rest)
      → True ρ (at_after (variable m) (m.tree r))
  abstract_valid ρ rest j hs =
      let moved = all_left (Moved abstract_ordinary) rest hs in
      let based = all_left (base_of m abstract_ordinary) _ (all_left (base_of m abstract_ordinary ++ as_written gs) _ moved) in
      stays_true m ρ r
      (all_in (identifiers (m.tree r)) (λ x i v.
      move_stays m ρ e m.abstract_variables (all_right (base_of m abstract_ordinary ++ as_written gs) moved) (all_at (all_at has.abstract_ones j) i v) (all_at free i)))
      (all_at based (in_right (as_written m.axioms) (in_left _ (in_map written j))))

  -- of a convergent or anticipated one, whose role has the same hypotheses
  new_valid : (ρ : Env m.type) → In r m.concrete_invariants → All (Meets m ρ) (Moved convergent ++ map (moves e) (unshared_variables m))
      → True ρ (at_after (variable m) (m.tree r))
  new_valid ρ j hs =
      let moved = all_left (Moved convergent) _ hs in
      let based = all_left (base_of m convergent) _ (all_left (base_of m convergent ++ as_written gs) _ moved) in
      stays_true m ρ r
      (all_in (identifiers (m.tree r)) (λ x i v.
      ⊎_elim
      (λ k. move_stays m ρ e m.concrete_variables (all_right (base_of m convergent ++ as_written gs) moved) k (all_at free i))
      (λ k. move_stays m ρ e (unshared_variables m) (all_right (Moved convergent) hs) k (all_at free i))
      (all_at (all_at has.concrete_ones j) i v)))
      (all_at based (in_right (as_written m.axioms) (in_right (as_written m.abstract_invariants) (in_map written j))))

  inv_valid : (ro : Role) → keeps_invariants ro ≡ false → is_new ro ≡ false → In r (own_invariants m ro) → (ρ : Env m.type) (rest : List Entry)
      → All (Meets m ρ) (Moved ro ++ rest) → True ρ (at_after (variable m) (m.tree r))
  inv_valid abstract_initialisation k n j ρ rest hs = absurd (true≢false k)
  inv_valid abstract_ordinary k n j ρ rest hs = abstract_valid ρ rest j hs
  inv_valid (concrete_initialisation f) k n j ρ rest hs = absurd (true≢false k)
  inv_valid (refining f) k n j ρ rest hs = absurd (true≢false k)
  inv_valid convergent k n j ρ rest hs = absurd (true≢false n)
  inv_valid anticipated k n j ρ rest hs = absurd (true≢false n)

  inv_new_valid : (ro : Role) → is_new ro ≡ true → In r (own_invariants m ro) → (ρ : Env m.type)
      → All (Meets m ρ) (Moved ro ++ map (moves e) (unshared_variables m)) → True ρ (at_after (variable m) (m.tree r))
  inv_new_valid abstract_initialisation n j ρ hs = absurd (true≢false (sym n))
  inv_new_valid abstract_ordinary n j ρ hs = absurd (true≢false (sym n))
  inv_new_valid (concrete_initialisation f) n j ρ hs = absurd (true≢false (sym n))
  inv_new_valid (refining f) n j ρ hs = absurd (true≢false (sym n))
  inv_new_valid convergent n j ρ hs = new_valid ρ j hs
  inv_new_valid anticipated n j ρ hs = new_valid ρ j hs

module _ (m : Machine) (has : InvariantsListed m) where
  -- an obligation that isn't needed is valid
  unneeded_valid : {s : Sequent} → Obligation m s → needed m s ≡ false → Valid m s
  unfolding Valid
  unneeded_valid (wd_formula before {r} rest p) n ρ hs = no_division_defined ρ (m.tree r) n
  unneeded_valid (wd_variant {r} i) n ρ hs = no_division_defined ρ (m.tree r) n
  unneeded_valid (wd_guard before {r} rest at p) n ρ hs = no_division_defined ρ (m.tree r) n
  unneeded_valid (wd_action {r = r} at i a) n ρ hs = no_division_defined ρ (m.tree r) n
  unneeded_valid (fis at i a) n ρ hs = absurd (true≢false n)
  unneeded_valid (wd_witness {w = w} at i) n ρ hs = no_division_defined ρ (m.tree w.root) n
  unneeded_valid (wfis at i) n ρ hs = absurd (true≢false n)
  unneeded_valid (grd at c i) n ρ hs = absurd (true≢false n)
  unneeded_valid (sim at c i) n ρ hs = absurd (true≢false n)
  unneeded_valid (sim_of_new at c i) n ρ hs = absurd (true≢false n)
  unneeded_valid (inv {e} {r} at c i) n ρ hs =
      let p = invariant_dropped m e r n in inv_valid m has e r p.1 (m.guards e) (m.role e) p.0 c i ρ _ hs
  unneeded_valid (inv_new {e} {r} at c i) n ρ hs =
      let p = invariant_dropped m e r n in inv_new_valid m has e r p.1 (m.guards e) (m.role e) c i ρ hs
  unneeded_valid (nat at c i) n ρ hs = absurd (true≢false n)
  unneeded_valid (var at c i) n ρ hs = absurd (true≢false n)
  unneeded_valid (var_anticipated at c i) n ρ hs = absurd (true≢false n)

  pub dropped_valid : {s : Sequent} → Obligation m s → Dropped m s → Valid m s
  dropped_valid o d = unneeded_valid o (dropped_unneeded m d)

  -- the validity of the list is that of all obligations
  pub obligations_valid : All (Valid m) (sequents m) → All (Valid m) (obligations m)
  unfolding sequents
  obligations_valid listed = all_in (obligations m) (λ s i. by_test s i (needed m s) refl)
    where
      by_test : (s : Sequent) → In s (obligations m) → (b : Bool) → needed m s ≡ b → Valid m s
      by_test s i true p = all_at listed (keep_in (needed m) i (true_test (needed m s) p))
      by_test s i false p = unneeded_valid (listed_obligation m i) p

-- At given values: from truth, which sequents speak of, to reading, which runs speak of, and back. What the well-definedness sequents give is
-- shown by recursion on the list of formulas, each read only where those before it are true.
use mathlib.Core.Path.{◌≡◌, sym, ap, ◌∙◌, subst}
use mathlib.Core.List.{List, [], ◌∷◌, ◌++◌}
use mathlib.Core.Option.{Option, some}
use Prim.Native.Nat.{ℕ}
use Rattle.lists.specs.All.{All, all_nil, all_cons}
use Rattle.lists.proofs.All.{all_head, all_tail, all_join, all_imp}
use Rattle.formula.specs.Values.{ValueType, AnyValue, wrap, as_value}
use Rattle.formula.specs.Evaluate.{Env, evaluate, read_tree, True}
use Rattle.formula.specs.WellDefined.{well_defined}
use Rattle.formula.proofs.Sort.{tree_type, evaluate_type}
use Rattle.formula.proofs.Values.{equal_value_eq, eq_equal_value}
use Rattle.formula.proofs.WellDefined.{well_defined_reads, reads_total, reads_well_defined, true_reads, reads_true}
use Rattle.machine.specs.Machine.{Action, unassigned, becomes_equal, becomes_such_that, Machine}
use Rattle.sequent.specs.Entry.{Entry, written, action_tree}
use Rattle.sequent.specs.Sequent.{Meets, Valid}
use Rattle.sequent.specs.Listed.{in_order, action_wd}
use Rattle.sequent.proofs.Shared.{unchanged_same, same_unchanged}
use Rattle.run.specs.Run.{Defined, AllReadTrue, NoneUndefined, Allows, ActionDefined}

module _ (m : Machine) (ρ : Env m.type) where
  -- every formula of a list of roots is true
  abbrev pub AllTrue : List ℕ → Type 0
  AllTrue rs = All (λ r. True ρ (m.tree r)) rs

  pub all_read_true : {rs : List ℕ} → AllReadTrue m ρ rs → AllTrue rs
  all_read_true h = all_imp (λ r. reads_true ρ (m.tree r)) h

  pub well_defined_defined : (r : ℕ) → True ρ (well_defined (m.tree r)) → Defined m ρ r
  well_defined_defined r d = (evaluate ρ (m.tree r), well_defined_reads ρ (m.tree r) d)

  -- whatever is read is the total value, which has the type of the formula
  pub defined_reads : (r : ℕ) → Defined m ρ r → read_tree ρ (m.tree r) ≡ some (evaluate ρ (m.tree r))
  defined_reads r d = d.1 ∙ ap {B = Option AnyValue} some (sym (reads_total ρ (m.tree r) d.0 d.1))

  pub evaluate_typed : (r : ℕ) {t : ValueType} → tree_type m.type (m.tree r) ≡ t → evaluate ρ (m.tree r) ≡ wrap t (as_value t (evaluate ρ (m.tree r)))
  evaluate_typed r q = subst (λ t. evaluate ρ (m.tree r) ≡ wrap t (as_value t (evaluate ρ (m.tree r)))) q (evaluate_type ρ (m.tree r))

  -- the well-definedness sequents of a list: no undefined term is reached, and what is true is read as true
  pub in_order_defined : (e : ℕ) (hs : List Entry) (rs : List ℕ) → All (Valid m) (in_order e hs rs) → All (Meets m ρ) hs → NoneUndefined m ρ rs
  unfolding in_order Valid
  in_order_defined e hs [] v h = tt
  in_order_defined e hs (r ∷ rs) v h = (
    well_defined_defined r (all_head v ρ h),
    λ t. in_order_defined e (hs ++ (written r ∷ [])) rs (all_tail v) (all_join h (all_cons (reads_true ρ (m.tree r) t) all_nil)),
  )

  pub in_order_read : (e : ℕ) (hs : List Entry) (rs : List ℕ) → All (Valid m) (in_order e hs rs) → All (Meets m ρ) hs → AllTrue rs → AllReadTrue m ρ rs
  unfolding in_order Valid
  in_order_read e hs [] v h ts = all_nil
  in_order_read e hs (r ∷ rs) v h ts =
      all_cons (true_reads ρ (m.tree r) (all_head v ρ h) (all_head ts))
      (in_order_read e (hs ++ (written r ∷ [])) rs (all_tail v) (all_join h (all_cons (all_head ts) all_nil)) (all_tail ts))

  -- the well-definedness sequent of an action
  pub action_defined : (e : ℕ) (hs : List Entry) (A : Action) → All (Valid m) (action_wd e hs A) → All (Meets m ρ) hs → ActionDefined m ρ A
  unfolding Valid
  action_defined e hs unassigned v h = tt
  action_defined e hs (becomes_equal r) v h = well_defined_defined r (all_head v ρ h)
  action_defined e hs (becomes_such_that r) v h = well_defined_defined r (all_head v ρ h)

  -- form 4 of an action that is defined is true exactly where the action allows the after value
  pub true_allows : (x : ℕ) (A : Action) → ActionDefined m ρ A → True ρ (action_tree m A x) → Allows m ρ x A
  unfolding evaluate
  true_allows x unassigned d t = unchanged_same m ρ x t
  true_allows x (becomes_equal r) d t =
      defined_reads r d ∙ ap {B = Option AnyValue} some (sym (equal_value_eq (wrap (m.type x) (ρ.after x)) (evaluate ρ (m.tree r)) t))
  true_allows x (becomes_such_that r) d t = true_reads ρ (m.tree r) (reads_well_defined ρ (m.tree r) d.0 d.1) t

  pub allows_true : (x : ℕ) (A : Action) → Allows m ρ x A → True ρ (action_tree m A x)
  unfolding evaluate
  allows_true x unassigned e = same_unchanged m ρ x e
  allows_true x (becomes_equal r) e = eq_equal_value (wrap (m.type x) (ρ.after x)) (evaluate ρ (m.tree r)) (sym (reads_total ρ (m.tree r) _ e))
  allows_true x (becomes_such_that r) e = reads_true ρ (m.tree r) e

-- What the sequents of a machine are made of: their entries and items name roots, variables and witnesses of the machine, and events. By cases on what
-- requires a sequent.
use Prim.Native.Nat.{ℕ, ◌≤◌}
use mathlib.Core.Path.{◌≡◌, refl, sym, ap, ◌∙◌, subst}
use mathlib.Core.Bool.{Bool, true, false}
use mathlib.Core.List.{List, [], ◌∷◌, ◌++◌, map}
use mathlib.Core.Logic.{◌⊎◌, inl, inr, ⊎_elim}
use native.Mathlib.Omega.{arith}
use borrow.Author.Tests.{eqb-true, eqb-false}
use lib.Dec.{eqb}
use Rattle.lists.specs.All.{All, all_nil, In, here, there}
use Rattle.lists.specs.Choice.{pick}
use Rattle.lists.proofs.All.{all_left, all_right, all_head, all_join, all_in, all_imp, all_map, in_nil, in_cons, in_either}
use Rattle.lists.proofs.Choice.{chosen, not_chosen}
use Rattle.lists.proofs.Keep.{all_keep}
use Rattle.lists.proofs.Distinct.{in_kept}
use Rattle.machine.specs.Machine.{Role, Action, becomes_equal, becomes_such_that, Witness, Machine, unshared_variables}
use Rattle.sequent.specs.Entry.{Entry, written, primed, defined, moves, feasible, witnessed, natural, decreases, not_increased, unchanged, variable}
use Rattle.sequent.specs.Formed.{ActionRoot, WitnessFor}
use Rattle.sequent.specs.Sequent.{Sequent, sequent}
use Rattle.sequent.specs.Listed.{sequents}
use Rattle.sequent.specs.Required.{is_initialisation, is_concrete, MatchedBy, as_written, axioms_invariants, base_of, own_variables, own_invariants}
use Rattle.sequent.specs.Required.{base_guards, moves_of, witnesses_of, Obligation, wd_formula, wd_variant, wd_guard, wd_action, fis, wd_witness, wfis}
use Rattle.sequent.specs.Required.{grd, sim, sim_of_new, inv, inv_new, nat, var, var_anticipated}
use Rattle.sequent.proofs.Required.{listed_required}

-- a node that the machine names as a root
pub data Root (m : Machine) : ℕ → Type 0 where
  axiom_root : {r : ℕ} → In r m.axioms → Root m r
  abstract_invariant_root : {r : ℕ} → In r m.abstract_invariants → Root m r
  concrete_invariant_root : {r : ℕ} → In r m.concrete_invariants → Root m r
  variant_root : {r : ℕ} → In r m.variants → Root m r
  guard_root : (e : ℕ) {r : ℕ} → In r (m.guards e) → Root m r
  action_root : (e x : ℕ) {r : ℕ} → (m.action e x ≡ becomes_equal r) ⊎ (m.action e x ≡ becomes_such_that r) → Root m r
  root_of_witness : (e : ℕ) {w : Witness} → In w (m.witnesses e) → Root m w.root

module _ (m : Machine) where
  -- a variable of either machine; an event, or what one is matched by
  abbrev pub VariableOf : ℕ → Type 0
  VariableOf x = In x m.abstract_variables ⊎ In x m.concrete_variables

  abbrev pub EventOf : ℕ → Type 0
  EventOf e = In e m.events ⊎ ((f : ℕ) × MatchedBy e (m.role f))

pub data EntryOf (m : Machine) : Entry → Type 0 where
  of_written : {r : ℕ} → Root m r → EntryOf m (written r)
  of_primed : {r : ℕ} → Root m r → EntryOf m (primed r)
  of_defined : {r : ℕ} → Root m r → EntryOf m (defined r)
  of_moves : {e x : ℕ} → EventOf m e → VariableOf m x → EntryOf m (moves e x)
  of_feasible : {e x : ℕ} → In e m.events → VariableOf m x → EntryOf m (feasible e x)
  of_witnessed : {e : ℕ} {w : Witness} → In e m.events → In w (m.witnesses e) → EntryOf m (witnessed e w.target)
  of_natural : {r : ℕ} → Root m r → EntryOf m (natural r)
  of_decreases : {r : ℕ} → Root m r → EntryOf m (decreases r)
  of_not_increased : {r : ℕ} → Root m r → EntryOf m (not_increased r)
  of_unchanged : {x : ℕ} → VariableOf m x → EntryOf m (unchanged x)

-- the item of row 80
pub data ItemOf (m : Machine) : ℕ → Type 0 where
  root_item : {r : ℕ} → Root m r → ItemOf m r
  variable_item : {x : ℕ} → VariableOf m x → ItemOf m x
  target_item : (e : ℕ) {w : Witness} → In w (m.witnesses e) → ItemOf m w.target

pub record MadeOf (m : Machine) (s : Sequent) : Type 0 where
  pub kind : s.kind ≤ 8
  pub event : (s.event ≡ 0) ⊎ In s.event m.events
  pub item : ItemOf m s.item
  pub hypotheses : All (EntryOf m) s.hypotheses
  pub goal : EntryOf m s.goal

pub action_root_has : (P : ℕ → Type 0) {r : ℕ} (a : Action) → ActionRoot P a → (a ≡ becomes_equal r) ⊎ (a ≡ becomes_such_that r) → P r
action_root_has P a h (inl e) = subst (ActionRoot P) e h
action_root_has P a h (inr e) = subst (ActionRoot P) e h

-- a listed target has its witness
pub witness_for : (ws : List Witness) {w : Witness} → In w ws → WitnessFor ws w.target
witness_for [] i = absurd (in_nil i)
witness_for (v ∷ vs) {w} i = go (eqb v.target w.target) refl (in_cons i) (λ j. witness_for vs {w = w} j)
  where
    go : (b : Bool) → eqb v.target w.target ≡ b → (w ≡ v) ⊎ In w vs → (In w vs → WitnessFor vs w.target) → WitnessFor (v ∷ vs) w.target
    go true q j rest =
        record { witness = v; listed = here refl; target = eqb-true v.target w.target q; root = chosen (eqb v.target w.target) _ _ q }
    go false q (inl e) rest = absurd (eqb-false v.target w.target q (ap (λ u. u.target) (sym e)))
    go false q (inr j) rest =
        let f = rest j in
        record { witness = f.witness; listed = there f.listed; target = f.target; root = not_chosen (eqb v.target w.target) _ _ q ∙ f.root }

module _ (m : Machine) where
  written_of : (rs : List ℕ) → ((r : ℕ) → In r rs → Root m r) → All (EntryOf m) (as_written rs)
  written_of rs f = all_map written (all_in rs (λ r i. of_written (f r i)))

  either : {A : Type 0} {P : A → Type 0} (b : Bool) {xs ys : List A} → All P xs → All P ys → All P (pick b xs ys)
  either true h k = h
  either false h k = k

  in_pick : {A : Type 0} {a : A} (b : Bool) {xs ys : List A} → In a (pick b xs ys) → In a xs ⊎ In a ys
  in_pick true i = inl i
  in_pick false i = inr i

  formula_root : (r : ℕ) → In r (axioms_invariants m) → Root m r
  formula_root r i =
      ⊎_elim axiom_root (λ j. ⊎_elim abstract_invariant_root concrete_invariant_root (in_either m.abstract_invariants j)) (in_either m.axioms i)

  base_of_lem : (ro : Role) → All (EntryOf m) (base_of m ro)
  base_of_lem ro =
      all_join (written_of m.axioms (λ r. axiom_root))
      (either (is_initialisation ro) all_nil
      (all_join (written_of m.abstract_invariants (λ r. abstract_invariant_root))
      (either (is_concrete ro) (written_of m.concrete_invariants (λ r. concrete_invariant_root)) all_nil)))

  own_variable : (ro : Role) {x : ℕ} → In x (own_variables m ro) → VariableOf m x
  own_variable ro i = ⊎_elim inr inl (in_pick (is_concrete ro) i)

  own_invariant : (ro : Role) {r : ℕ} → In r (own_invariants m ro) → Root m r
  own_invariant ro i = ⊎_elim concrete_invariant_root abstract_invariant_root (in_pick (is_concrete ro) i)

  guards_of_lem : (e : ℕ) → All (EntryOf m) (base_guards m e)
  guards_of_lem e = all_join (base_of_lem (m.role e)) (written_of (m.guards e) (λ r. guard_root e))

  moves_of_lem : {e : ℕ} → In e m.events → (xs : List ℕ) → ((x : ℕ) → In x xs → VariableOf m x) → All (EntryOf m) (map (moves e) xs)
  moves_of_lem {e} at xs f = all_map (moves e) (all_in xs (λ x i. of_moves (inl at) (f x i)))

  moved_of : {e : ℕ} → In e m.events → All (EntryOf m) (moves_of m e)
  moved_of {e} at = moves_of_lem at (own_variables m (m.role e)) (λ x. own_variable (m.role e))

  witnesses_of_lem : (e : ℕ) → All (λ w. EntryOf m (written w.root)) (m.witnesses e)
  witnesses_of_lem e = all_in (m.witnesses e) (λ w i. of_written (root_of_witness e i))

  roots_of : (e : ℕ) → All (EntryOf m) (witnesses_of m e)
  roots_of e = all_map (λ w. written w.root) (witnesses_of_lem e)

  witness_hypotheses_lem : {e : ℕ} (w : Witness) → In e m.events → All (EntryOf m) (base_guards m e ++ pick (variable m w.target) (moves_of m e) [])
  witness_hypotheses_lem {e} w at = all_join (guards_of_lem e) (either (variable m w.target) (moved_of at) all_nil)

  made : {k e i : ℕ} {hs : List Entry} {g : Entry} → k ≤ 8 → (e ≡ 0) ⊎ In e m.events → ItemOf m i → All (EntryOf m) hs → EntryOf m g
      → MadeOf m (sequent k e i hs g)
  made k e i h g = record { kind = k; event = e; item = i; hypotheses = h; goal = g }

  -- the formulas before one of a list, and that one
  before_root : {rs : List ℕ} (before : List ℕ) {r : ℕ} (rest : List ℕ) → rs ≡ before ++ (r ∷ rest) → ((q : ℕ) → In q rs → Root m q)
      → All (EntryOf m) (as_written before) × Root m r
  before_root {rs} before {r} rest p f =
      let all : All (Root m) (before ++ (r ∷ rest)) = subst (All (Root m)) p (all_in rs f) in
      (all_map written (all_imp (λ q. of_written) (all_left before _ all)), all_head (all_right before all))

  pub obligation_made : {s : Sequent} → Obligation m s → MadeOf m s
  obligation_made (wd_formula before rest p) =
      let (hs, root) = before_root before rest p formula_root in made (omega arith) (inl refl) (root_item root) hs (of_defined root)
  obligation_made (wd_variant i) =
      made (omega arith) (inl refl) (root_item (variant_root i)) (written_of (axioms_invariants m) formula_root) (of_defined (variant_root i))
  obligation_made (wd_guard {e} before rest at p) =
      let (hs, root) = before_root before rest p (λ r. guard_root e) in
      made (omega arith) (inr at) (root_item root) (all_join (base_of_lem (m.role e)) hs) (of_defined root)
  obligation_made (wd_action {e} {x} at i a) =
      made (omega arith) (inr at) (root_item (action_root e x a)) (guards_of_lem e) (of_defined (action_root e x a))
  obligation_made (fis {e} at i a) =
      let x = own_variable (m.role e) i in made (omega arith) (inr at) (variable_item x) (guards_of_lem e) (of_feasible at x)
  obligation_made (wd_witness {e} {w} at i) =
      made (omega arith) (inr at) (root_item (root_of_witness e i)) (witness_hypotheses_lem w at) (of_defined (root_of_witness e i))
  obligation_made (wfis {e} {w} at i) = made (omega arith) (inr at) (target_item e i) (witness_hypotheses_lem w at) (of_witnessed at i)
  obligation_made (grd {e} {f} at c i) =
      made (omega arith) (inr at) (root_item (guard_root f i))
      (all_join (guards_of_lem e) (all_map (λ w. written w.root) (all_keep _ (witnesses_of_lem e)))) (of_written (guard_root f i))
  obligation_made (sim {e} at c i) =
      made (omega arith) (inr at) (variable_item (inl i)) (all_join (all_join (guards_of_lem e) (moved_of at)) (roots_of e)) (of_moves (inr (e, c)) (inl i))
  obligation_made (sim_of_new {e} at c i) =
      let x = inl (in_kept _ m.abstract_variables i) in
      made (omega arith) (inr at) (variable_item x) (all_join (guards_of_lem e) (moved_of at)) (of_unchanged x)
  obligation_made (inv {e} at c i) =
      let root = own_invariant (m.role e) i in
      made (omega arith) (inr at) (root_item root) (all_join (all_join (guards_of_lem e) (moved_of at)) (roots_of e)) (of_primed root)
  obligation_made (inv_new {e} at c i) =
      let root = own_invariant (m.role e) i in
      made (omega arith) (inr at) (root_item root)
      (all_join (all_join (guards_of_lem e) (moved_of at)) (moves_of_lem at (unshared_variables m) (λ x i. inl (in_kept _ m.abstract_variables i)))) (of_primed root)
  obligation_made (nat {e} at c i) = made (omega arith) (inr at) (root_item (variant_root i)) (guards_of_lem e) (of_natural (variant_root i))
  obligation_made (var {e} at c i) =
      made (omega arith) (inr at) (root_item (variant_root i)) (all_join (guards_of_lem e) (moved_of at)) (of_decreases (variant_root i))
  obligation_made (var_anticipated {e} at c i) =
      made (omega arith) (inr at) (root_item (variant_root i)) (all_join (guards_of_lem e) (moved_of at)) (of_not_increased (variant_root i))

  pub listed_made : {s : Sequent} → In s (sequents m) → MadeOf m s
  listed_made i = obligation_made (listed_required m i).0

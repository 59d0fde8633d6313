-- The full list has exactly the published obligations, for every machine: each place of the list is traced to a row of the table, and each row to a place.
-- The hypotheses of both are equal, role by role (`base_same` and the equations after it); the rest follows membership through ++, map and flatMap.
use mathlib.Core.Path.{◌≡◌, refl, sym, ap, subst, ◌∙◌}
use mathlib.Core.Bool.{Bool, true, false, true≢false}
use mathlib.Core.List.{List, [], ◌∷◌, ◌++◌, map, append-nil, append_assoc}
use mathlib.Core.Logic.{◌⊎◌, ◌↔◌, inl, inr, ⊎_elim}
use Prim.Native.Nat.{ℕ}
use Rattle.lists.specs.All.{In, here, there}
use Rattle.lists.specs.Choice.{pick}
use Rattle.lists.proofs.Choice.{chosen, not_chosen}
use Rattle.lists.proofs.All.{in_nil, in_cons, in_left, in_right, in_either, in_map, in_unmap, in_flat, in_unflat}
use Rattle.machine.specs.Machine.{Action, unassigned, becomes_equal, becomes_such_that, Witness, Machine, shared_variables, unshared_variables}
use Rattle.machine.specs.Machine.{Role, abstract_initialisation, abstract_ordinary, concrete_initialisation, refining, convergent, anticipated}
use Rattle.sequent.specs.Entry.{Entry, written, primed, defined, moves, feasible, natural, decreases, not_increased, unchanged, variable}
use Rattle.sequent.specs.Sequent.{Sequent, sequent, WD, INV, FIS, SIM, NAT, VAR}
use Rattle.sequent.specs.Listed.{in_order, action_wd, action_fis, refined}
use Rattle.sequent.specs.Listed.{all_written, base, guarded, moved, witness_entries, witness_hypotheses, witness_sequents}
use Rattle.sequent.specs.Listed.{parameter_witnesses, sim_sequents, inv_hypotheses, variant_sequents, event_sequents, formulas, obligations}
use Rattle.sequent.specs.Listed.{grd as grd_of, inv as inv_of}
use Rattle.sequent.proofs.Parts.{guard_wds, action_wds, action_fiss, of_witnesses, grds, nats, vars}
use Rattle.sequent.proofs.Parts.{from_invs, from_sims, from_grds, from_witnesses, from_fiss, from_actions, event_sequents_parts}
use Rattle.sequent.specs.Required.{is_new, MatchedBy, by_initialisation, by_refined}
use Rattle.sequent.specs.Required.{as_written, base_of, own_variables, own_invariants, base_guards, moves_of, witnesses_of}
use Rattle.sequent.specs.Required.{Obligation, wd_formula, wd_variant, wd_guard, wd_action, fis, wd_witness, wfis, grd, sim, sim_of_new, inv, inv_new, nat, var}
use Rattle.sequent.specs.Required.{var_anticipated}

-- a property of sequents depends on their hypotheses only as a list
under : (P : Sequent → Type 0) {k e i : ℕ} {hs gs : List Entry} {g : Entry} → hs ≡ gs → P (sequent k e i hs g) → P (sequent k e i gs g)
under P {k} {e} {i} {g = g} h p = subst (λ hs. P (sequent k e i hs g)) h p

pub in_one : {A : Type 0} {a x : A} → In a (x ∷ []) → a ≡ x
in_one i = ⊎_elim (λ p. p) (λ j. absurd (in_nil j)) (in_cons i)

-- "those before it": a place of `in_order` is a place of its formulas
pub in_order_split : (e : ℕ) (hs : List Entry) (rs : List ℕ) {s : Sequent} → In s (in_order e hs rs)
    → (before : List ℕ) × (r : ℕ) × (rest : List ℕ) × (rs ≡ before ++ (r ∷ rest)) × (s ≡ sequent WD e r (hs ++ as_written before) (defined r))
unfolding in_order
in_order_split e hs [] i = absurd (in_nil i)
in_order_split e hs (r ∷ rs) {s} i = ⊎_elim first (λ j. later (in_order_split e (hs ++ (written r ∷ [])) rs j)) (in_cons i)
  where
    Place : List Entry → List ℕ → Type 0
    Place hs rs = (before : List ℕ) × (q : ℕ) × (rest : List ℕ) × (rs ≡ before ++ (q ∷ rest)) × (s ≡ sequent WD e q (hs ++ as_written before) (defined q))

    first : s ≡ sequent WD e r hs (defined r) → Place hs (r ∷ rs)
    first p = ([], r, rs, refl, under (λ t. s ≡ t) (sym (append-nil hs)) p)

    later : Place (hs ++ (written r ∷ [])) rs → Place hs (r ∷ rs)
    later (before, q, rest, p, t) =
        (r ∷ before, q, rest, ap {B = List ℕ} (λ qs. r ∷ qs) p, under (λ t. s ≡ t) (append_assoc hs (written r ∷ []) (as_written before)) t)

in_order_at_lem : (e : ℕ) (hs : List Entry) (before : List ℕ) (r : ℕ) (rest : List ℕ)
    → In (sequent WD e r (hs ++ as_written before) (defined r)) (in_order e hs (before ++ (r ∷ rest)))
unfolding in_order
in_order_at_lem e hs [] r rest = here (under (λ t. t ≡ sequent WD e r hs (defined r)) (sym (append-nil hs)) refl)
in_order_at_lem e hs (q ∷ before) r rest =
    there (under (λ t. In t (in_order e (hs ++ (written q ∷ [])) (before ++ (r ∷ rest)))) (append_assoc hs (written q ∷ []) (as_written before))
    (in_order_at_lem e (hs ++ (written q ∷ [])) before r rest))

-- the actions that have a root, and those that have FIS
pub action_wd_root : {e : ℕ} {hs : List Entry} (a : Action) {s : Sequent} → In s (action_wd e hs a)
    → (r : ℕ) × ((a ≡ becomes_equal r) ⊎ (a ≡ becomes_such_that r)) × (s ≡ sequent WD e r hs (defined r))
action_wd_root unassigned i = absurd (in_nil i)
action_wd_root (becomes_equal r) i = (r, inl refl, in_one i)
action_wd_root (becomes_such_that r) i = (r, inr refl, in_one i)

action_wd_at : {e : ℕ} {hs : List Entry} {a : Action} {r : ℕ} → (a ≡ becomes_equal r) ⊎ (a ≡ becomes_such_that r)
    → In (sequent WD e r hs (defined r)) (action_wd e hs a)
action_wd_at {e} {hs} {r = r} (inl p) = subst (λ a. In (sequent WD e r hs (defined r)) (action_wd e hs a)) (sym p) (here refl)
action_wd_at {e} {hs} {r = r} (inr p) = subst (λ a. In (sequent WD e r hs (defined r)) (action_wd e hs a)) (sym p) (here refl)

pub action_fis_such : {e x : ℕ} {hs : List Entry} (a : Action) {s : Sequent} → In s (action_fis e x hs a)
    → (r : ℕ) × (a ≡ becomes_such_that r) × (s ≡ sequent FIS e x hs (feasible e x))
action_fis_such unassigned i = absurd (in_nil i)
action_fis_such (becomes_equal r) i = absurd (in_nil i)
action_fis_such (becomes_such_that r) i = (r, refl, in_one i)

action_fis_at : {e x : ℕ} {hs : List Entry} {a : Action} {r : ℕ} → a ≡ becomes_such_that r → In (sequent FIS e x hs (feasible e x)) (action_fis e x hs a)
action_fis_at {e} {x} {hs} p = subst (λ a. In (sequent FIS e x hs (feasible e x)) (action_fis e x hs a)) (sym p) (here refl)

-- the abstract event of a role
pub refined_role : (ro : Role) {f : ℕ} → In f (refined ro) → ro ≡ refining f
refined_role abstract_initialisation i = absurd (in_nil i)
refined_role abstract_ordinary i = absurd (in_nil i)
refined_role (concrete_initialisation f) i = absurd (in_nil i)
refined_role (refining f) i = ap refining (sym (in_one i))
refined_role convergent i = absurd (in_nil i)
refined_role anticipated i = absurd (in_nil i)

refined_at : {ro : Role} {f : ℕ} → ro ≡ refining f → In f (refined ro)
refined_at {f = f} p = subst (λ ro. In f (refined ro)) (sym p) (here refl)

module _ (m : Machine) where
  base_same : (ro : Role) → base_of m ro ≡ base m ro
  base_same abstract_initialisation = append-nil (as_written m.axioms)
  base_same abstract_ordinary = ap (λ hs. as_written m.axioms ++ hs) (append-nil (as_written m.abstract_invariants))
  base_same (concrete_initialisation f) = append-nil (as_written m.axioms)
  base_same (refining f) = refl
  base_same convergent = refl
  base_same anticipated = refl

  inv_hypotheses_lem : (ro : Role) (e : ℕ)
      → inv_hypotheses m ro e ≡ moved m ro e ++ pick (is_new ro) (map (moves e) (unshared_variables m)) (witness_entries m (m.witnesses e))
  inv_hypotheses_lem abstract_initialisation e = refl
  inv_hypotheses_lem abstract_ordinary e = refl
  inv_hypotheses_lem (concrete_initialisation f) e = refl
  inv_hypotheses_lem (refining f) e = refl
  inv_hypotheses_lem convergent e = refl
  inv_hypotheses_lem anticipated e = refl

  -- SIM by an event's role: matched, or new
  abbrev Simulated : Role → ℕ → Sequent → Type 0
  Simulated ro e s =
      ((f : ℕ) × (x : ℕ) × MatchedBy f ro × In x m.abstract_variables
      × (s ≡ sequent SIM e x (moved m ro e ++ witness_entries m (m.witnesses e)) (moves f x)))
      ⊎ ((x : ℕ) × (is_new ro ≡ true) × In x (shared_variables m) × (s ≡ sequent SIM e x (moved m ro e) (unchanged x)))

  sim_role : (ro : Role) {e : ℕ} {s : Sequent} → In s (sim_sequents m ro e) → Simulated ro e s
  sim_role abstract_initialisation i = absurd (in_nil i)
  sim_role abstract_ordinary i = absurd (in_nil i)
  sim_role (concrete_initialisation f) i = let (x, j, p) = in_unmap _ m.abstract_variables i in inl (f, x, by_initialisation, j, p)
  sim_role (refining f) i = let (x, j, p) = in_unmap _ m.abstract_variables i in inl (f, x, by_refined, j, p)
  sim_role convergent i = let (x, j, p) = in_unmap _ (shared_variables m) i in inr (x, refl, j, p)
  sim_role anticipated i = let (x, j, p) = in_unmap _ (shared_variables m) i in inr (x, refl, j, p)

  sim_at : {ro : Role} {e f x : ℕ} → MatchedBy f ro → In x m.abstract_variables
      → In (sequent SIM e x (moved m ro e ++ witness_entries m (m.witnesses e)) (moves f x)) (sim_sequents m ro e)
  sim_at by_initialisation i = in_map _ i
  sim_at by_refined i = in_map _ i

  sim_new_at : (ro : Role) {e x : ℕ} → is_new ro ≡ true → In x (shared_variables m) → In (sequent SIM e x (moved m ro e) (unchanged x)) (sim_sequents m ro e)
  sim_new_at abstract_initialisation p i = absurd (true≢false (sym p))
  sim_new_at abstract_ordinary p i = absurd (true≢false (sym p))
  sim_new_at (concrete_initialisation f) p i = absurd (true≢false (sym p))
  sim_new_at (refining f) p i = absurd (true≢false (sym p))
  sim_new_at convergent p i = in_map _ i
  sim_new_at anticipated p i = in_map _ i

  variant_role : (ro : Role) {e : ℕ} {s : Sequent} → In s (variant_sequents m ro e) → (r : ℕ) × In r m.variants
      × (((ro ≡ convergent) × ((s ≡ sequent NAT e r (guarded m ro e) (natural r)) ⊎ (s ≡ sequent VAR e r (moved m ro e) (decreases r))))
      ⊎ ((ro ≡ anticipated) × (s ≡ sequent VAR e r (moved m ro e) (not_increased r))))
  variant_role abstract_initialisation i = absurd (in_nil i)
  variant_role abstract_ordinary i = absurd (in_nil i)
  variant_role (concrete_initialisation f) i = absurd (in_nil i)
  variant_role (refining f) i = absurd (in_nil i)
  variant_role convergent {e} {s} i =
      ⊎_elim
      (λ j. let (r, k, p) = in_unmap _ m.variants j in (r, k, inl (refl, inl p)))
      (λ j. let (r, k, p) = in_unmap _ m.variants j in (r, k, inl (refl, inr p)))
      (in_either (nats m convergent e) i)
  variant_role anticipated {e} {s} i = let (r, k, p) = in_unmap _ m.variants i in (r, k, inr (refl, p))

  -- the hypotheses of an event's sequents, required and listed
  module _ (e : ℕ) where
    abbrev role : Role
    role = m.role e

    guarded_same : base_guards m e ≡ guarded m role e
    guarded_same = ap (λ hs. hs ++ as_written (m.guards e)) (base_same role)

    moved_same : base_guards m e ++ moves_of m e ≡ moved m role e
    moved_same = ap (λ hs. hs ++ moves_of m e) guarded_same

    witness_same : (w : Witness) → base_guards m e ++ pick (variable m w.target) (moves_of m e) [] ≡ witness_hypotheses m role e w
    witness_same w = by_target (variable m w.target)
      where
        by_target : (v : Bool) → base_guards m e ++ pick v (moves_of m e) [] ≡ pick v (moved m role e) (guarded m role e)
        by_target true = moved_same
        by_target false = append-nil (base_guards m e) ∙ guarded_same

  -- a sequent is an obligation if its hypotheses are those of one, written another way; likewise listed
  obligation_as : {k e i : ℕ} {hs gs : List Entry} {g : Entry} {s : Sequent} → s ≡ sequent k e i gs g → hs ≡ gs → Obligation m (sequent k e i hs g) → Obligation m s
  obligation_as p h q = subst (Obligation m) (sym p) (under (Obligation m) h q)

  listed_as : {k e i : ℕ} {hs gs : List Entry} {g : Entry} → hs ≡ gs → In (sequent k e i gs g) (obligations m) → In (sequent k e i hs g) (obligations m)
  listed_as h i = under (λ t. In t (obligations m)) (sym h) i

  -- every listed sequent of an event is an obligation
  module _ {e : ℕ} (at : In e m.events) {s : Sequent} where
    guard_obligation : In s (guard_wds m (m.role e) e) → Obligation m s
    guard_obligation i =
        let (before, r, rest, p, q) = in_order_split e (base m (m.role e)) (m.guards e) i in
        obligation_as q (ap (λ hs. hs ++ as_written before) (base_same (m.role e))) (wd_guard before rest at p)

    action_obligation : In s (action_wds m (m.role e) e) → Obligation m s
    action_obligation i =
        let (x, j, k) = in_unflat _ (own_variables m (m.role e)) i in
        let (r, a, p) = action_wd_root (m.action e x) k in
        obligation_as p (guarded_same e) (wd_action at j a)

    feasible_obligation : In s (action_fiss m (m.role e) e) → Obligation m s
    feasible_obligation i =
        let (x, j, k) = in_unflat _ (own_variables m (m.role e)) i in
        let (r, a, p) = action_fis_such (m.action e x) k in
        obligation_as p (guarded_same e) (fis at j a)

    witness_obligation : In s (of_witnesses m (m.role e) e) → Obligation m s
    witness_obligation i =
        let (w, j, k) = in_unflat (witness_sequents m (m.role e) e) (m.witnesses e) i in
        ⊎_elim
        (λ p. obligation_as p (witness_same e w) (wd_witness at j))
        (λ l. obligation_as (in_one l) (witness_same e w) (wfis at j))
        (in_cons k)

    grd_obligation : In s (grds m (m.role e) e) → Obligation m s
    grd_obligation i =
        let (f, j, k) = in_unflat (grd_of m (m.role e) e) (refined (m.role e)) i in
        let (r, l, p) = in_unmap _ (m.guards f) k in
        obligation_as p (ap (λ hs. hs ++ witness_entries m (parameter_witnesses m e)) (guarded_same e)) (grd at (refined_role (m.role e) j) l)

    sim_obligation : In s (sim_sequents m (m.role e) e) → Obligation m s
    sim_obligation i =
        ⊎_elim
        (λ k. let (f, x, c, j, p) = k in obligation_as p (ap (λ hs. hs ++ witnesses_of m e) (moved_same e)) (sim at c j))
        (λ k. let (x, c, j, p) = k in obligation_as p (moved_same e) (sim_of_new at c j))
        (sim_role (m.role e) i)

    inv_obligation : In s (inv_of m (m.role e) e) → Obligation m s
    inv_obligation i =
        let (r, j, p) = in_unmap _ (own_invariants m (m.role e)) i in
        by_class p j (is_new (m.role e)) refl (inv_hypotheses_lem (m.role e) e)
      where
        by_class : {r : ℕ} → s ≡ sequent INV e r (inv_hypotheses m (m.role e) e) (primed r) → In r (own_invariants m (m.role e)) → (b : Bool)
            → is_new (m.role e) ≡ b
            → inv_hypotheses m (m.role e) e ≡ moved m (m.role e) e ++ pick b (map (moves e) (unshared_variables m)) (witness_entries m (m.witnesses e))
            → Obligation m s
        by_class p j true c h = obligation_as p (ap (λ hs. hs ++ map (moves e) (unshared_variables m)) (moved_same e) ∙ sym h) (inv_new at c j)
        by_class p j false c h = obligation_as p (ap (λ hs. hs ++ witnesses_of m e) (moved_same e) ∙ sym h) (inv at c j)

    variant_obligation : In s (variant_sequents m (m.role e) e) → Obligation m s
    variant_obligation i =
        let (r, j, k) = variant_role (m.role e) i in
        ⊎_elim
        (λ c. ⊎_elim (λ p. obligation_as p (guarded_same e) (nat at c.0 j)) (λ p. obligation_as p (moved_same e) (var at c.0 j)) c.1)
        (λ c. obligation_as c.1 (moved_same e) (var_anticipated at c.0 j))
        k

    event_obligation : In s (event_sequents m e (m.role e)) → Obligation m s
    event_obligation i =
        ⊎_elim guard_obligation (λ i. ⊎_elim action_obligation (λ i. ⊎_elim feasible_obligation (λ i. ⊎_elim witness_obligation
        (λ i. ⊎_elim grd_obligation (λ i. ⊎_elim sim_obligation (λ i. ⊎_elim inv_obligation variant_obligation
        (in_either (inv_of m (m.role e) e) i)) (in_either (sim_sequents m (m.role e) e) i)) (in_either (grds m (m.role e) e) i))
        (in_either (of_witnesses m (m.role e) e) i)) (in_either (action_fiss m (m.role e) e) i)) (in_either (action_wds m (m.role e) e) i))
        (in_either (guard_wds m (m.role e) e) (subst (In s) (event_sequents_parts m (m.role e) e) i))

  pub listed_obligation : {s : Sequent} → In s (obligations m) → Obligation m s
  unfolding obligations
  listed_obligation {s} i =
      ⊎_elim
      (λ j. let (before, r, rest, p, q) = in_order_split 0 [] (formulas m) j in subst (Obligation m) (sym q) (wd_formula before rest p))
      (λ j. ⊎_elim
      (λ k. let (r, l, p) = in_unmap _ m.variants k in subst (Obligation m) (sym p) (wd_variant l))
      (λ k. let (e, l, n) = in_unflat _ m.events k in event_obligation l n)
      (in_either (map (λ r. sequent WD 0 r (all_written m (formulas m)) (defined r)) m.variants) j))
      (in_either (in_order 0 [] (formulas m)) i)

  -- every obligation of an event is listed
  module _ {e : ℕ} (at : In e m.events) {s : Sequent} where
    event_listed : In s (event_sequents m e (m.role e)) → In s (obligations m)
    unfolding obligations
    event_listed i =
        in_right (in_order 0 [] (formulas m))
        (in_right (map (λ r. sequent WD 0 r (all_written m (formulas m)) (defined r)) m.variants) (in_flat (λ e. event_sequents m e (m.role e)) at i))

    guards_listed : In s (guard_wds m (m.role e) e ++ from_actions m (m.role e) e) → In s (obligations m)
    guards_listed i = event_listed (subst (In s) (sym (event_sequents_parts m (m.role e) e)) i)

    actions_listed : In s (from_actions m (m.role e) e) → In s (obligations m)
    actions_listed i = guards_listed (in_right (guard_wds m (m.role e) e) i)

    fiss_listed : In s (from_fiss m (m.role e) e) → In s (obligations m)
    fiss_listed i = actions_listed (in_right (action_wds m (m.role e) e) i)

    witnesses_listed : In s (from_witnesses m (m.role e) e) → In s (obligations m)
    witnesses_listed i = fiss_listed (in_right (action_fiss m (m.role e) e) i)

    grds_listed : In s (from_grds m (m.role e) e) → In s (obligations m)
    grds_listed i = witnesses_listed (in_right (of_witnesses m (m.role e) e) i)

    sims_listed : In s (from_sims m (m.role e) e) → In s (obligations m)
    sims_listed i = grds_listed (in_right (grds m (m.role e) e) i)

    invs_listed : In s (from_invs m (m.role e) e) → In s (obligations m)
    invs_listed i = sims_listed (in_right (sim_sequents m (m.role e) e) i)

    variants_listed : In s (variant_sequents m (m.role e) e) → In s (obligations m)
    variants_listed i = invs_listed (in_right (inv_of m (m.role e) e) i)

  -- the sequents of a role's variant, by what they are for that role
  variants_at : {ro role : Role} (e : ℕ) (f : Role → List Sequent) → variant_sequents m ro e ≡ f ro → {s : Sequent} → role ≡ ro → In s (f role)
      → In s (variant_sequents m role e)
  variants_at {ro} e f p {s} c i =
      subst (λ ro. In s (variant_sequents m ro e)) (sym c) (subst (In s) (sym p) (subst (λ ro. In s (f ro)) c i))

  pub obligation_listed : {s : Sequent} → Obligation m s → In s (obligations m)
  unfolding obligations
  obligation_listed (wd_formula before {r} rest p) =
      in_left _ (subst (λ rs. In (sequent WD 0 r (as_written before) (defined r)) (in_order 0 [] rs)) (sym p) (in_order_at_lem 0 [] before r rest))
  obligation_listed (wd_variant i) = in_right (in_order 0 [] (formulas m)) (in_left _ (in_map _ i))
  obligation_listed (wd_guard {e} before {r} rest at p) =
      listed_as (ap (λ hs. hs ++ as_written before) (base_same (m.role e)))
      (guards_listed at (in_left _
      (subst (λ rs. In (sequent WD e r (base m (m.role e) ++ as_written before) (defined r)) (in_order e (base m (m.role e)) rs)) (sym p)
      (in_order_at_lem e (base m (m.role e)) before r rest))))
  obligation_listed (wd_action {e} {x} at i a) =
      listed_as (guarded_same e) (actions_listed at (in_left _ (in_flat _ i (action_wd_at a))))
  obligation_listed (fis {e} {x} at i a) =
      listed_as (guarded_same e) (fiss_listed at (in_left _ (in_flat _ i (action_fis_at a))))
  obligation_listed (wd_witness {e} {w} at i) =
      listed_as (witness_same e w) (witnesses_listed at (in_left _ (in_flat (witness_sequents m (m.role e) e) i (here refl))))
  obligation_listed (wfis {e} {w} at i) =
      listed_as (witness_same e w) (witnesses_listed at (in_left _ (in_flat (witness_sequents m (m.role e) e) i (there (here refl)))))
  obligation_listed (grd {e} at c i) =
      listed_as (ap (λ hs. hs ++ witness_entries m (parameter_witnesses m e)) (guarded_same e))
      (grds_listed at (in_left _ (in_flat (grd_of m (m.role e) e) (refined_at c) (in_map _ i))))
  obligation_listed (sim {e} at c i) =
      listed_as (ap (λ hs. hs ++ witnesses_of m e) (moved_same e))
      (sims_listed at (in_left _ (sim_at c i)))
  obligation_listed (sim_of_new {e} at c i) =
      listed_as (moved_same e) (sims_listed at (in_left _ (sim_new_at (m.role e) c i)))
  obligation_listed (inv {e} {r} at c i) =
      listed_as
      (ap (λ hs. hs ++ witnesses_of m e) (moved_same e) ∙ sym (inv_hypotheses_lem (m.role e) e ∙ ap (λ hs. moved m (m.role e) e ++ hs) (not_chosen (is_new (m.role e)) _ _ c)))
      (invs_listed at (in_left _ (in_map _ i)))
  obligation_listed (inv_new {e} {r} at c i) =
      listed_as
      (ap (λ hs. hs ++ map (moves e) (unshared_variables m)) (moved_same e)
      ∙ sym (inv_hypotheses_lem (m.role e) e ∙ ap (λ hs. moved m (m.role e) e ++ hs) (chosen (is_new (m.role e)) _ _ c)))
      (invs_listed at (in_left _ (in_map _ i)))
  obligation_listed (nat {e} at c i) =
      listed_as (guarded_same e) (variants_listed at (variants_at e (λ ro. nats m ro e ++ vars m ro e decreases) refl c (in_left _ (in_map _ i))))
  obligation_listed (var {e} at c i) =
      listed_as (moved_same e)
      (variants_listed at (variants_at e (λ ro. nats m ro e ++ vars m ro e decreases) refl c (in_right (nats m (m.role e) e) (in_map _ i))))
  obligation_listed (var_anticipated {e} at c i) =
      listed_as (moved_same e) (variants_listed at (variants_at e (λ ro. vars m ro e not_increased) refl c (in_map _ i)))

  pub obligations_exactly : {s : Sequent} → In s (obligations m) ↔ Obligation m s
  obligations_exactly = (listed_obligation, obligation_listed)

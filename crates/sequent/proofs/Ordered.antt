-- The list stands in the order: of any two sequents the earlier has the lesser key. Each part of an event's sequents is one group, whose places rise; parts
-- of rising groups, and then events of rising numbers, stand one after another. What has to differ or to rise is `Separate`.
use mathlib.Core.Path.{◌≡◌, refl, sym, ap, subst, ◌∙◌}
use mathlib.Core.Bool.{Bool, true, false}
use mathlib.Core.List.{List, [], ◌∷◌, ◌++◌, map, map-append, map-map, map-id, flat_map, append_assoc}
use mathlib.Core.Logic.{◌⊎◌, ◌↔◌, inl, inr, ⊎_elim}
use Prim.Native.Nat.{ℕ, suc, ◌<◌}
use native.Mathlib.Omega.{arith}
use lib.Dec.{eqb}
use lib.ListN.{length, get_or}
use borrow.Author.Tests.{ne_eqb}
use Rattle.lists.specs.Choice.{pick}
use Rattle.lists.specs.All.{all_nil, all_cons, In, here}
use Rattle.lists.proofs.Distinct.{Distinct, Ascending}
use Rattle.lists.specs.Pairwise.{Pairwise, pairwise_nil, pairwise_cons}
use Rattle.lists.proofs.Choice.{chosen, not_chosen}
use Rattle.lists.proofs.All.{all_at, in_cons, in_left, in_right, in_either, in_map, in_unmap, in_flat, in_unflat}
use Rattle.lists.proofs.Distinct.{pairwise_head, pairwise_tail, pairwise_left, pairwise_right, pairwise_across, pairwise_join, pairwise_one, pairwise_imp}
use Rattle.lists.proofs.Distinct.{pairwise_once, pairwise_unmap, pairwise_flat, pairwise_keep}
use Rattle.lists.proofs.Sorted.{sorted_same}
use Rattle.machine.specs.Machine.{Action, unassigned, becomes_equal, becomes_such_that, Witness, Machine, is_shared, shared_variables}
use Rattle.machine.specs.Machine.{Role, abstract_initialisation, abstract_ordinary, concrete_initialisation, refining, convergent, anticipated}
use Rattle.sequent.specs.Entry.{Entry, written, primed, defined, moves, natural, decreases, not_increased, unchanged}
use Rattle.sequent.specs.Sequent.{Sequent, sequent, WD, INV, FIS, GRD, SIM, WFIS, NAT, VAR}
use Rattle.sequent.specs.Listed.{in_order, action_wd, action_fis, refined, all_written, base, guarded}
use Rattle.sequent.specs.Listed.{witness_sequents, grd, sim_sequents, inv, inv_hypotheses, variant_sequents, event_sequents, obligations, needed, sequents}
use Rattle.sequent.specs.Required.{axioms_invariants, is_concrete, own_variables, own_invariants, Required, SameHeader}
use Rattle.sequent.specs.Order.{place_in, is_in, group, action_roots, action_roots_of, refined_guards, key, key_of, Before}
use Rattle.sequent.proofs.Exact.{in_one, in_order_split, action_wd_root, action_fis_such, refined_role}
use Rattle.sequent.proofs.Required.{listed_required, required_listed}
use Rattle.sequent.proofs.Parts.{guard_wds, action_wds, action_fiss, of_witnesses, grds, from_fiss, event_sequents_parts}
use Rattle.sequent.proofs.Places.{places_rise, places_agree, is_in_member, is_in_other, variable_found}
use Rattle.sequent.proofs.Blocks.{less_asymmetric, less_by, Block, blocks_apart, block_join, block_up, item_block, flat_block, map_block, one_block}
use Rattle.sequent.proofs.Blocks.{nil_block}

-- what an event's own machine has is the concrete one's or the abstract one's
pub own_either : (P : List ℕ → Type 0) {xs ys : List ℕ} → P xs → P ys → (ro : Role) → P (pick (is_concrete ro) xs ys)
own_either P {xs} {ys} c a ro = by_machine (is_concrete ro)
  where
    by_machine : (b : Bool) → P (pick b xs ys)
    by_machine true = c
    by_machine false = a

pub action_roots_distinct : (a : Action) → Distinct (action_roots a)
action_roots_distinct unassigned = pairwise_nil
action_roots_distinct (becomes_equal r) = pairwise_one r
action_roots_distinct (becomes_such_that r) = pairwise_one r

action_roots_at : {a : Action} {r : ℕ} → (a ≡ becomes_equal r) ⊎ (a ≡ becomes_such_that r) → In r (action_roots a)
action_roots_at {r = r} = ⊎_elim (λ p. subst (λ a. In r (action_roots a)) (sym p) (here refl)) (λ p. subst (λ a. In r (action_roots a)) (sym p) (here refl))

-- What an accepted table keeps apart and in order.
pub record Separate (m : Machine) : Type 0 where
  -- "Each node has one use": the roots of axioms, invariants and variants, and of each event those of guards, actions and witnesses
  pub formula_roots : Distinct (axioms_invariants m ++ m.variants)
  pub event_roots : (e : ℕ) → Distinct (m.guards e ++ (action_roots_of m e ++ map (λ w. w.root) (m.witnesses e)))
  -- refusal 11: no second witness for one target
  pub targets : (e : ℕ) → Distinct (map (λ w. w.target) (m.witnesses e))
  -- "Identifiers, nodes and events are each numbered from 1 in table order."
  pub abstract_variables : Ascending m.abstract_variables
  pub concrete_variables : Ascending m.concrete_variables
  pub events : Ascending (0 ∷ m.events)

-- at most one abstract event is refined
refined_one : (ro : Role) → Pairwise (λ f g. ⊥) (refined ro)
refined_one abstract_initialisation = pairwise_nil
refined_one abstract_ordinary = pairwise_nil
refined_one (concrete_initialisation f) = pairwise_nil
refined_one (refining f) = pairwise_one f
refined_one convergent = pairwise_nil
refined_one anticipated = pairwise_nil

in_order_items : (e : ℕ) (hs : List Entry) (rs : List ℕ) → map (λ s. s.item) (in_order e hs rs) ≡ rs
unfolding in_order
in_order_items e hs [] = refl
in_order_items e hs (r ∷ rs) = ap {B = List ℕ} (λ qs. r ∷ qs) (in_order_items e (hs ++ (written r ∷ [])) rs)

action_wd_one : {R : Sequent → Sequent → Type 0} (e : ℕ) (hs : List Entry) (a : Action) → Pairwise R (action_wd e hs a)
action_wd_one e hs unassigned = pairwise_nil
action_wd_one e hs (becomes_equal r) = pairwise_one _
action_wd_one e hs (becomes_such_that r) = pairwise_one _

action_fis_one : {R : Sequent → Sequent → Type 0} (e x : ℕ) (hs : List Entry) (a : Action) → Pairwise R (action_fis e x hs a)
action_fis_one e x hs unassigned = pairwise_nil
action_fis_one e x hs (becomes_equal r) = pairwise_nil
action_fis_one e x hs (becomes_such_that r) = pairwise_one _

in_order_key : (m : Machine) (e : ℕ) (hs : List Entry) (rs : List ℕ) (s : Sequent) → In s (in_order e hs rs) → key_of m s ≡ key m WD e s.item
in_order_key m e hs rs s i =
    let (before, r, rest, p, q) = in_order_split e hs rs i in subst (λ t. key_of m t ≡ key m WD e t.item) (sym q) refl

module _ (m : Machine) (separate : Separate m) where
  guards_distinct : (e : ℕ) → Distinct (m.guards e)
  guards_distinct e = pairwise_left (m.guards e) _ (separate.event_roots e)

  variables_rise : (ro : Role) → Ascending (own_variables m ro)
  variables_rise = own_either Ascending separate.concrete_variables separate.abstract_variables

  shared_rise : Ascending (shared_variables m)
  shared_rise = pairwise_keep (λ x. is_shared (m.kind x)) separate.abstract_variables

  variants_distinct : Distinct m.variants
  variants_distinct = pairwise_right (axioms_invariants m) separate.formula_roots

  both_invariants_distinct : Distinct (m.abstract_invariants ++ m.concrete_invariants)
  both_invariants_distinct = pairwise_right m.axioms (pairwise_left (axioms_invariants m) m.variants separate.formula_roots)

  own_invariants_distinct : (ro : Role) → Distinct (own_invariants m ro)
  own_invariants_distinct =
      own_either Distinct (pairwise_right m.abstract_invariants both_invariants_distinct)
      (pairwise_left m.abstract_invariants m.concrete_invariants both_invariants_distinct)

  -- the sequents of one event
  module _ (e : ℕ) (positive : 0 < e) where
    abbrev role : Role
    role = m.role e

    abbrev witness_roots : List ℕ
    witness_roots = map (λ w. w.root) (m.witnesses e)

    -- a group of the event's sequents
    abbrev Of : ℕ → List Sequent → Type 0
    Of kind ss = Block m (e ∷ []) (group kind) (suc (group kind)) ss

    action_roots_apart : Distinct (action_roots_of m e ++ witness_roots)
    action_roots_apart = pairwise_right (m.guards e) (separate.event_roots e)

    witness_roots_distinct : Distinct witness_roots
    witness_roots_distinct = pairwise_right (action_roots_of m e) action_roots_apart

    -- the key of WD, by what the root is the root of
    not_formula : eqb e 0 ≡ false
    not_formula = ne_eqb e 0 (omega arith)

    not_guard : {r : ℕ} → In r (action_roots_of m e ++ witness_roots) → is_in (m.guards e) r ≡ false
    not_guard i = is_in_other (m.guards e) (λ j. pairwise_across (m.guards e) (separate.event_roots e) j i refl)

    guard_key : (r : ℕ) → In r (m.guards e) → key m WD e r ≡ e ∷ group WD ∷ 0 ∷ place_in (m.guards e) r ∷ []
    unfolding key
    guard_key r i = ap {B = List ℕ} (λ k. e ∷ k) (not_chosen (eqb e 0) _ _ not_formula ∙ chosen (is_in (m.guards e) r) _ _ (is_in_member i))

    action_key : (x r : ℕ) → In x (own_variables m role) → In r (action_roots (m.action e x)) → key m WD e r ≡ e ∷ group WD ∷ 1 ∷ x ∷ []
    unfolding key
    action_key x r i j =
        let k : In r (action_roots_of m e) = in_flat (λ x. action_roots (m.action e x)) i j in
        ap {B = List ℕ} (λ k. e ∷ k)
        (not_chosen (eqb e 0) _ _ not_formula
        ∙ not_chosen (is_in (m.guards e) r) _ _ (not_guard (in_left witness_roots k))
        ∙ chosen (is_in (action_roots_of m e) r) _ _ (is_in_member k)
        ∙ ap (λ x. group WD ∷ 1 ∷ x ∷ []) (variable_found (m.action e) (pairwise_left (action_roots_of m e) witness_roots action_roots_apart) i j))

    witness_key : (w : Witness) → In w (m.witnesses e) → key m WD e w.root ≡ e ∷ group WFIS ∷ place_in witness_roots w.root ∷ 0 ∷ []
    unfolding key
    witness_key w i =
        let j : In w.root witness_roots = in_map (λ w. w.root) i in
        ap {B = List ℕ} (λ k. e ∷ k)
        (not_chosen (eqb e 0) _ _ not_formula
        ∙ not_chosen (is_in (m.guards e) w.root) _ _ (not_guard (in_right (action_roots_of m e) j))
        ∙ not_chosen (is_in (action_roots_of m e) w.root) _ _
        (is_in_other (action_roots_of m e) (λ k. pairwise_across (action_roots_of m e) action_roots_apart k j refl)))

    wfis_key : (w : Witness) → In w (m.witnesses e) → key m WFIS e w.target ≡ e ∷ group WFIS ∷ place_in witness_roots w.root ∷ 1 ∷ []
    unfolding key
    wfis_key w i =
        ap {B = List ℕ} (λ p. e ∷ group WFIS ∷ p ∷ 1 ∷ []) (places_agree (λ w. w.target) (λ w. w.root) (separate.targets e) witness_roots_distinct i)

    guard_block : Block m (e ∷ group WD ∷ []) 0 1 (guard_wds m role e)
    guard_block =
        item_block m (e ∷ group WD ∷ []) (place_in (m.guards e)) (guard_wds m role e) (subst (Pairwise _) (sym items) (places_rise (guards_distinct e)))
        (λ s i. in_order_key m e (base m role) (m.guards e) s i ∙ guard_key s.item (subst (In s.item) items (in_map (λ s. s.item) i)))
      where
        items : map (λ s. s.item) (guard_wds m role e) ≡ m.guards e
        items = in_order_items e (base m role) (m.guards e)

    action_block : Block m (e ∷ group WD ∷ []) 1 2 (action_wds m role e)
    action_block =
        flat_block m (e ∷ group WD ∷ []) (λ x. x) (λ x. action_wd e (guarded m role e) (m.action e x)) (variables_rise role)
        (λ x i. action_wd_one e (guarded m role e) (m.action e x))
        (λ x s i j. let (r, a, p) = action_wd_root (m.action e x) j in ([], ap (key_of m) p ∙ action_key x r i (action_roots_at a)))

    wd_block : Of WD (guard_wds m role e ++ action_wds m role e)
    wd_block = block_up m (e ∷ []) (block_join m (omega arith) guard_block action_block)

    fis_block : Of FIS (action_fiss m role e)
    unfolding key
    fis_block =
        flat_block m (e ∷ []) (λ x. x) (λ x. action_fis e x (guarded m role e) (m.action e x)) (variables_rise role)
        (λ x i. action_fis_one e x (guarded m role e) (m.action e x))
        (λ x s i j. let (r, a, p) = action_fis_such (m.action e x) j in ([], ap (key_of m) p))

    witness_block : Of WFIS (of_witnesses m role e)
    witness_block =
        flat_block m (e ∷ []) (λ w. place_in witness_roots w.root) (witness_sequents m role e)
        (pairwise_unmap (λ w. w.root) (m.witnesses e) (places_rise witness_roots_distinct))
        (λ w i. pairwise_cons
        (all_cons (less_by (witness_key w i) (wfis_key w i) (inr (refl, inr (refl, inr (refl, inl (omega arith)))))) all_nil) (pairwise_one _))
        (λ w s i j. ⊎_elim (λ p. (0 ∷ [], ap (key_of m) p ∙ witness_key w i)) (λ k. (1 ∷ [], ap (key_of m) (in_one k) ∙ wfis_key w i)) (in_cons j))

    grd_block : Of GRD (grds m role e)
    unfolding key
    grd_block =
        one_block m (grd m role e) (refined_one role)
        (λ f i. map_block m (place_in (m.guards f)) GRD _ written (places_rise (guards_distinct f))
        (λ r. ap {B = List ℕ} (λ ro. e ∷ group GRD ∷ place_in (refined_guards m ro) r ∷ []) (refined_role role i)))

    sim_block : (ro : Role) → Of SIM (sim_sequents m ro e)
    unfolding key
    sim_block abstract_initialisation = nil_block m
    sim_block abstract_ordinary = nil_block m
    sim_block (concrete_initialisation f) = map_block m (λ x. x) SIM _ (moves f) separate.abstract_variables (λ x. refl)
    sim_block (refining f) = map_block m (λ x. x) SIM _ (moves f) separate.abstract_variables (λ x. refl)
    sim_block convergent = map_block m (λ x. x) SIM _ unchanged shared_rise (λ x. refl)
    sim_block anticipated = map_block m (λ x. x) SIM _ unchanged shared_rise (λ x. refl)

    inv_block : Of INV (inv m role e)
    unfolding key
    inv_block =
        map_block m (place_in (own_invariants m role)) INV (inv_hypotheses m role e) primed (places_rise (own_invariants_distinct role)) (λ r. refl)

    variant_block : (ro : Role) → Block m (e ∷ []) (group NAT) (suc (group VAR)) (variant_sequents m ro e)
    unfolding key place_in
    variant_block abstract_initialisation = nil_block m
    variant_block abstract_ordinary = nil_block m
    variant_block (concrete_initialisation f) = nil_block m
    variant_block (refining f) = nil_block m
    variant_block convergent =
        block_join m (omega arith)
        (map_block m (place_in m.variants) NAT _ natural (places_rise variants_distinct) (λ r. refl))
        (map_block m (place_in m.variants) VAR _ decreases (places_rise variants_distinct) (λ r. refl))
    variant_block anticipated =
        block_join m (omega arith)
        (nil_block m {lo = group NAT} {hi = group NAT})
        (map_block m (place_in m.variants) VAR _ not_increased (places_rise variants_distinct) (λ r. refl))

    -- the groups in their order
    parts_block : Block m (e ∷ []) (group WD) (suc (group VAR)) ((guard_wds m role e ++ action_wds m role e) ++ from_fiss m role e)
    unfolding place_in
    parts_block =
        block_join m (omega arith) wd_block
        (block_join m (omega arith) fis_block
        (block_join m (omega arith) witness_block
        (block_join m (omega arith) grd_block
        (block_join m (omega arith) (sim_block role)
        (block_join m (omega arith) inv_block (variant_block role))))))

    event_block : Block m [] e (suc e) (event_sequents m e role)
    event_block =
        block_up m [] (subst (Block m (e ∷ []) (group WD) (suc (group VAR)))
        (append_assoc (guard_wds m role e) (action_wds m role e) (from_fiss m role e) ∙ sym (event_sequents_parts m role e)) parts_block)

  -- the sequents of no event
  abbrev variant_wds : List Sequent
  variant_wds = map (λ r. sequent WD 0 r (all_written m (axioms_invariants m)) (defined r)) m.variants

  abbrev formula_wds : List Sequent
  formula_wds = in_order 0 [] (axioms_invariants m) ++ variant_wds

  formula_block : Block m [] 0 1 formula_wds
  unfolding key
  formula_block =
      block_up m [] (item_block m (0 ∷ []) (place_in (axioms_invariants m ++ m.variants)) formula_wds
      (subst (Pairwise _) (sym items) (places_rise separate.formula_roots))
      (λ s i. ⊎_elim (in_order_key m 0 [] (axioms_invariants m) s)
      (λ j. let (r, k, p) = in_unmap _ m.variants j in subst (λ t. key_of m t ≡ key m WD 0 t.item) (sym p) refl)
      (in_either (in_order 0 [] (axioms_invariants m)) i)))
    where
      items : map (λ s. s.item) formula_wds ≡ axioms_invariants m ++ m.variants
      items = map-append _ (in_order 0 [] (axioms_invariants m)) variant_wds ∙ rw (in_order_items, map-map, map-id)

  abbrev of_events : List Sequent
  of_events = flat_map (λ e. event_sequents m e (m.role e)) m.events

  positive : {e : ℕ} → In e m.events → 0 < e
  positive = all_at (pairwise_head separate.events)

  events_sorted : Pairwise (Before m) of_events
  events_sorted =
      pairwise_flat (λ e. event_sequents m e (m.role e)) (λ e i. (event_block e (positive i)).sorted)
      (pairwise_imp (pairwise_tail separate.events)
      (λ e f i j less s t k l. blocks_apart m less ((event_block e (positive i)).keyed s k) ((event_block f (positive j)).keyed t l)))

  obligations_sorted : Pairwise (Before m) (obligations m)
  unfolding obligations
  obligations_sorted =
      subst (Pairwise (Before m)) (append_assoc (in_order 0 [] (axioms_invariants m)) variant_wds of_events)
      (pairwise_join formula_block.sorted events_sorted (λ s t i j.
      let (e, k, l) = in_unflat (λ e. event_sequents m e (m.role e)) m.events j in
      blocks_apart m (positive k) (formula_block.keyed s i) ((event_block e (positive k)).keyed t l)))

  -- and so do those of them that are listed
  pub sequents_sorted : Pairwise (Before m) (sequents m)
  unfolding sequents
  sequents_sorted = pairwise_keep (needed m) obligations_sorted

  -- the relation and the order determine the list
  pub sequents_determined : (ss : List Sequent) → ((s : Sequent) → In s ss ↔ Required m s) → Pairwise (Before m) ss → ss ≡ sequents m
  sequents_determined ss same sorted =
      sorted_same (λ s t. less_asymmetric (key_of m s) (key_of m t)) ss (sequents m) sorted sequents_sorted
      (λ s. (λ i. required_listed m ((same s).0 i), λ i. (same s).1 (listed_required m i)))

  -- "each once": two places with the same kind, event and item are one place, since equal headers have equal keys and no key is before itself
  headers_differ : Pairwise (λ s t. ¬ SameHeader s t) (sequents m)
  headers_differ = pairwise_imp sequents_sorted (λ s t i j before same.
      let p : key_of m s ≡ key_of m t = rw (same.kind, same.event, same.item) in
      less_asymmetric (key_of m s) (key_of m t) before (less_by (sym p) p before))

  pub sequents_once : (d : Sequent) (i j : ℕ) → i < length (sequents m) → j < length (sequents m)
      → SameHeader (get_or (sequents m) i d) (get_or (sequents m) j d) → i ≡ j
  sequents_once = pairwise_once (λ s t h. record { kind = sym h.kind; event = sym h.event; item = sym h.item }) headers_differ

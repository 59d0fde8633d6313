-- Each part of the list is what the slots of one group hold. A part is a list over rows of a tag, or over identifiers whose kind passes a test, and the slots are
-- these rows or identifiers with the selection's test beside them. The role of an event, read from its row, tells which parts are empty.
use Prim.Native.Nat.{ℕ, zero, suc, ◌+◌, ◌≤◌}
use mathlib.Core.Path.{◌≡◌, refl, sym, ap, ap₂, ◌∙◌}
use mathlib.Core.Bool.{Bool, true, false, not, ◌&&◌, ◌||◌}
use mathlib.Core.List.{List, [], ◌∷◌, ◌++◌, map, flat_map, map-append, append_assoc, append-nil}
use native.Mathlib.Omega.{arith}
use native.Mathlib.Numerals.{add-one}
use lib.Dec.{ltb, eqb}
use lib.ListN.{get_or}
use borrow.Author.Tests.{ne_eqb}
use Rattle.lists.specs.Choice.{pick}
use Rattle.lists.specs.Below.{numbers, keep}
use Rattle.lists.proofs.Below.{count_at_most}
use Rattle.lists.proofs.Flat.{pick_and, flat_none, flat_keep, flat_one, flat_map_lem, flat_ext, flat_when, flat_single, flat_kept, map_kept, flat_below}
use Rattle.lists.proofs.Flat.{keep_keep, keep_next, numbers_suc}
use Rattle.table.specs.Names.{is_variable_of}
use Rattle.table.specs.Rows.{Rows, tagged, section, count, kind_of, machine_number, class_of, refined_by}
use Rattle.machine.specs.Machine.{Action, unassigned, becomes_equal, becomes_such_that, Witness, shared_variables}
use Rattle.machine.specs.Machine.{Role, abstract_initialisation, abstract_ordinary, concrete_initialisation, refining, convergent, anticipated}
use Rattle.machine.specs.Described.{action_of, belonging, variables_of, machine_of}
use Rattle.machine.proofs.Roles.{role_cases}
use Rattle.machine.proofs.Variables.{shared_numbered}
use Rattle.sequent.specs.Entry.{Entry, written, primed, defined, moves, feasible, natural, decreases, not_increased, unchanged}
use Rattle.sequent.specs.Sequent.{Sequent, sequent, WD, INV, FIS, GRD, SIM, NAT, VAR}
use Rattle.sequent.specs.Listed.{in_order, action_wd, action_fis, refined, all_written, base, guarded, moved, witness_entries, parameter_witnesses, inv_hypotheses}
use Rattle.sequent.specs.Listed.{witness_sequents, grd, sim_sequents, inv, variant_sequents, formulas}
use Rattle.sequent.specs.Required.{own_invariants, own_variables}
use Rattle.sequent.proofs.Parts.{guard_wds, action_wds, action_fiss, of_witnesses, grds, nats, vars}
use Rattle.select.specs.declared.Selection.{Selection}
use Rattle.select.specs.declared.Selection.TheVariants.{None, Tagged, OfEvent, Identifiers, Variables, Assigned, SuchThat}
use Rattle.select.specs.Selection.{row_of_event, identifier_at, variable_at, action_row, is_assigned, becomes_such, selects}
use Rattle.events.specs.Events.{is_abstract, is_refining, is_matched, is_convergent, is_new, matched_by, own_kind, own_invariant_tag}
use Rattle.groups.specs.Groups.{when, of_event, simulated_rows, group_at, group_rows, axiom_group, abstract_invariant_group, concrete_invariant_group, variant_group}
use Rattle.groups.specs.Groups.{guard_group, action_group, fis_group, witness_group, grd_group, sim_group, inv_group, nat_group, var_group}

-- "those before it": the roots of the rows before i that pass a test, as written
abbrev pub before : (ℕ → Bool) → (ℕ → ℕ) → ℕ → List Entry
before P root i = map (λ j. written (root j)) (keep P (numbers i 0))

abbrev pub one : ℕ → ℕ → ℕ → List Entry → Entry → List Sequent
one k e x hs goal = sequent k e x hs goal ∷ []

-- The sequents of a slot, and the walk.
module _ (t : Rows) where
  abbrev pub role_of : ℕ → Role
  role_of e = (machine_of t).role e

  -- a machine's roots of a tag, as written
  abbrev pub written_of : List ℕ → List Entry
  written_of rs = all_written (machine_of t) rs

  -- hypotheses of an event: "base", "base, guards", "base, guards, moves", "witnesses", "parameter witnesses", those of SIM and those of INV
  abbrev pub base_at : ℕ → List Entry
  base_at e = base (machine_of t) (role_of e)

  abbrev pub guarded_at : ℕ → List Entry
  guarded_at e = guarded (machine_of t) (role_of e) e

  abbrev pub moved_at : ℕ → List Entry
  moved_at e = moved (machine_of t) (role_of e) e

  abbrev pub witnesses_at : ℕ → List Entry
  witnesses_at e = witness_entries (machine_of t) ((machine_of t).witnesses e)

  abbrev pub parameters_at : ℕ → List Entry
  parameters_at e = witness_entries (machine_of t) (parameter_witnesses (machine_of t) e)

  abbrev pub simulation_at : ℕ → List Entry
  simulation_at e = pick (is_new t e) (moved_at e) (moved_at e ++ witnesses_at e)

  abbrev pub invariant_at : ℕ → List Entry
  invariant_at e = inv_hypotheses (machine_of t) (role_of e) e

  abbrev pub witness_of : ℕ → Witness
  witness_of i = record { target = t.b i; root = t.c i }

  -- group by group: the sequents that a slot holds
  abbrev pub group_sequents : List (ℕ → ℕ → List Sequent)
  group_sequents =
      -- "WD of axiom, invariant | those before it, in tag order | 3 | root"
      (λ e i. one WD e (t.a i) (before (tagged t 30) t.a i) (defined (t.a i)))
      ∷ (λ e i. one WD e (t.a i) (written_of (machine_of t).axioms ++ before (tagged t 31) t.a i) (defined (t.a i)))
      ∷ (λ e i. one WD e (t.a i) ((written_of (machine_of t).axioms ++ written_of (machine_of t).abstract_invariants) ++ before (tagged t 32) t.a i) (defined (t.a i)))
      -- "WD of variant | axioms, all invariants | 3 | root"
      ∷ (λ e i. one WD e (t.a i) (written_of (formulas (machine_of t))) (defined (t.a i)))
      -- "WD of guard | base, earlier guards | 3 | root"
      ∷ (λ e i. one WD e (t.b i) (base_at e ++ before (row_of_event t 50 e) t.b i) (defined (t.b i)))
      -- "WD of action | base, guards | 3 | root"
      ∷ (λ e i. let r = t.c (action_row t e (i + 1)) in one WD e r (guarded_at e) (defined r))
      -- "FIS (52 only) | base, guards | 5 | variable"
      ∷ (λ e i. one FIS e (i + 1) (guarded_at e) (feasible e (i + 1)))
      -- "WD of witness; WFIS | base, guards, and moves for a variable witness | 3; 6 | root; identifier"
      ∷ (λ e i. witness_sequents (machine_of t) (role_of e) e (witness_of i))
      -- "GRD, each abstract guard | base, guards, parameter witnesses | 1 | root"
      ∷ (λ e i. one GRD e (t.b i) (guarded_at e ++ parameters_at e) (written (t.b i)))
      -- "SIM, each abstract variable | base, guards, moves, witnesses | 4 of the abstract event | variable"; of a new event "with base, guards and moves; its goal
      -- there is form 10"
      ∷ (λ e i. one SIM e (i + 1) (simulation_at e) (pick (is_new t e) (unchanged (i + 1)) (moves (matched_by t e) (i + 1))))
      -- "INV, own machine's invariants | base, guards, moves, witnesses; for a convergent event form 4 of each abstract variable instead of witnesses | 2 | root",
      -- and so for an anticipated one
      ∷ (λ e i. one INV e (t.a i) (invariant_at e) (primed (t.a i)))
      -- "NAT (convergent) | base, guards | 7 | root"
      ∷ (λ e i. one NAT e (t.a i) (guarded_at e) (natural (t.a i)))
      -- "VAR (convergent) | base, guards; VAR also moves | 8 | root"; 9 for an anticipated event
      ∷ (λ e i. one VAR e (t.a i) (moved_at e) (pick (is_convergent t e) (decreases (t.a i)) (not_increased (t.a i))))
      ∷ []

  unfoldable pub made : ℕ → ℕ → ℕ → List Sequent
  made e g i = get_or group_sequents g (λ e i. []) e i

  unfoldable pub slot : ℕ → ℕ → ℕ → List Sequent
  slot e g i = pick (selects t (group_rows t e g) i) (made e g i) []

  -- the slots of a group, of an event, and all: "event by event", "table order otherwise"
  abbrev pub group_slots : ℕ → ℕ → List Sequent
  group_slots e g = flat_map (slot e g) (numbers t.size 0)

-- formulas that are each defined under those before them, over the rows that pass a test
before_next : (P : ℕ → Bool) (root : ℕ → ℕ) (i : ℕ) → before P root (suc i) ≡ before P root i ++ pick (P i) (written (root i) ∷ []) []
before_next P root i = ap (map (λ j. written (root j))) (keep_next P i) ∙ map-append _ (keep P (numbers i 0)) (pick (P i) (i ∷ []) []) ∙ last (P i)
  where
    last : (b : Bool) → before P root i ++ map (λ j. written (root j)) (pick b (i ∷ []) []) ≡ before P root i ++ pick b (written (root i) ∷ []) []
    last true = refl
    last false = refl

module _ (e : ℕ) (hs : List Entry) (P : ℕ → Bool) (root : ℕ → ℕ) where
  abbrev in_order_at : ℕ → List Sequent
  in_order_at i = pick (P i) (one WD e (root i) (hs ++ before P root i) (defined (root i))) []

  in_order_from : (n i : ℕ) → in_order e (hs ++ before P root i) (map root (keep P (numbers n i))) ≡ flat_map in_order_at (numbers n i)
  unfolding in_order keep numbers flat_map
  in_order_from zero i = refl
  in_order_from (suc n) i = by_test (P i) refl (in_order_from n (suc i))
    where
      ks : List ℕ
      ks = keep P (numbers n (suc i))

      later : (b : Bool) → P i ≡ b → hs ++ before P root (suc i) ≡ (hs ++ before P root i) ++ pick b (written (root i) ∷ []) []
      later b p = ap (λ xs. hs ++ xs) (before_next P root i ∙ ap (λ b. before P root i ++ pick b (written (root i) ∷ []) []) p)
          ∙ sym (append_assoc hs (before P root i) (pick b (written (root i) ∷ []) []))

      by_test : (b : Bool) → P i ≡ b → in_order e (hs ++ before P root (suc i)) (map root ks) ≡ flat_map in_order_at (numbers n (suc i))
          → in_order e (hs ++ before P root i) (map root (pick b (i ∷ ks) ks))
          ≡ pick b (one WD e (root i) (hs ++ before P root i) (defined (root i))) [] ++ flat_map in_order_at (numbers n (suc i))
      by_test true p h =
          ap (λ r. sequent WD e (root i) (hs ++ before P root i) (defined (root i)) ∷ r) (ap (λ gs. in_order e gs (map root ks)) (sym (later true p)) ∙ h)
      by_test false p h = ap (λ gs. in_order e gs (map root ks)) (sym (later false p ∙ append-nil (hs ++ before P root i))) ∙ h

  pub in_order_rows : (n : ℕ) → in_order e hs (map root (keep P (numbers n 0))) ≡ flat_map in_order_at (numbers n 0)
  unfolding numbers keep
  in_order_rows n = ap (λ gs. in_order e gs (map root (keep P (numbers n 0)))) (sym (append-nil hs)) ∙ in_order_from n 0

module _ (t : Rows) where
  abbrev rows : List ℕ
  rows = numbers t.size 0

  -- the slots of a group by its selection
  pub group_slots_lem : (e g : ℕ) (s : Selection) → group_rows t e g ≡ s → group_slots t e g ≡ flat_map (λ i. pick (selects t s i) (made t e g i) []) rows
  unfolding slot
  group_slots_lem e g s p = ap (λ s. flat_map (λ i. pick (selects t s i) (made t e g i) []) rows) p

  pub group_none : (e g : ℕ) → group_rows t e g ≡ None → group_slots t e g ≡ []
  group_none e g p = group_slots_lem e g None p ∙ flat_none rows

  -- rows that are selected where a test passes
  when_slots : (b : Bool) (s : Selection) (f : ℕ → List Sequent)
      → flat_map (λ i. pick (b && selects t s i) (f i) []) rows ≡ flat_map (λ i. pick (selects t (when b s) i) (f i) []) rows
  when_slots true s f = refl
  when_slots false s f = refl

  belonging_rows : (k e : ℕ) → belonging t k e ≡ keep (row_of_event t k e) rows
  unfolding belonging section
  belonging_rows k e = keep_keep (λ i. eqb (t.a i) e) (tagged t k) rows

  pub guards_rows : (e : ℕ) → (machine_of t).guards e ≡ map t.b (keep (row_of_event t 50 e) rows)
  unfolding machine_of
  guards_rows e = ap (map t.b) (belonging_rows 50 e)

  pub witnesses_rows : (e : ℕ) → (machine_of t).witnesses e ≡ map (witness_of t) (keep (row_of_event t 60 e) rows)
  unfolding machine_of
  witnesses_rows e = ap (map (witness_of t)) (belonging_rows 60 e)

  variants_rows : (machine_of t).variants ≡ map t.a (keep (tagged t 70) rows)
  unfolding machine_of section
  variants_rows = refl

  -- a list over the identifiers whose kind passes a test
  module _ (K : ℕ → Bool) where
    abbrev of_kind : List ℕ
    of_kind = keep (λ x. K (kind_of t x)) (numbers (count t 10) 1)

    abbrev kind_at : ℕ → Bool
    kind_at i = ltb i (count t 10) && K (kind_of t (i + 1))

    identifiers_rows : {B : Type 0} (f : ℕ → List B) → flat_map f of_kind ≡ flat_map (λ i. pick (kind_at i) (f (i + 1)) []) rows
    unfolding count
    identifiers_rows {B} f =
        flat_keep (λ x. K (kind_of t x)) f (numbers (count t 10) 1)
        ∙ ap (flat_map g) (numbers_suc (count t 10) 0)
        ∙ flat_map_lem g suc (numbers (count t 10) 0)
        ∙ flat_below (λ i. g (suc i)) (count t 10) t.size (count_at_most (tagged t 10) t.size)
        ∙ flat_ext (λ i. pick (ltb i (count t 10)) (g (suc i)) []) (λ i. pick (kind_at i) (f (i + 1)) []) rows each
      where
        g : ℕ → List B
        g x = pick (K (kind_of t x)) (f x) []

        each : (i : ℕ) → pick (ltb i (count t 10)) (g (suc i)) [] ≡ pick (kind_at i) (f (i + 1)) []
        each i = rw (add-one i) (sym (pick_and (ltb i (count t 10)) (K (kind_of t (suc i))) (f (suc i))))

    each_identifier : {B : Type 0} (f : ℕ → B) → map f of_kind ≡ flat_map (λ i. pick (kind_at i) (f (i + 1) ∷ []) []) rows
    each_identifier f = flat_one f of_kind ∙ identifiers_rows (λ x. f x ∷ [])

    pub map_identifiers : {B : Type 0} (f : ℕ → B) → map f of_kind ≡ map (λ i. f (i + 1)) (keep kind_at rows)
    map_identifiers f = each_identifier f ∙ sym (flat_one (λ i. f (i + 1)) (keep kind_at rows) ∙ flat_keep kind_at (λ i. f (i + 1) ∷ []) rows)

  -- an action by the tests on its row, and its sequents
  action_cases : (e x : ℕ) (P : Bool → Bool → Action → Type 0) → P true true (becomes_equal (t.c (action_row t e x)))
      → P true false (becomes_such_that (t.c (action_row t e x))) → ((d : Bool) → P false d unassigned)
      → P (is_assigned t e x) (tagged t 51 (action_row t e x)) (action_of t e x)
  unfolding action_of action_row
  action_cases e x P equal such none = go (is_assigned t e x) (tagged t 51 (action_row t e x))
    where
      r : ℕ
      r = t.c (action_row t e x)

      go : (b d : Bool) → P b d (pick b (pick d (becomes_equal r) (becomes_such_that r)) unassigned)
      go true true = equal
      go true false = such
      go false d = none d

  action_slot : (e x : ℕ) (hs : List Entry)
      → action_wd e hs (action_of t e x) ≡ pick (is_assigned t e x) (one WD e (t.c (action_row t e x)) hs (defined (t.c (action_row t e x)))) []
  action_slot e x hs =
      let r = t.c (action_row t e x) in
      action_cases e x (λ b d a. action_wd e hs a ≡ pick b (one WD e r hs (defined r)) []) refl refl (λ d. refl)

  feasible_slot : (e x : ℕ) (hs : List Entry) → action_fis e x hs (action_of t e x) ≡ pick (becomes_such t e x) (one FIS e x hs (feasible e x)) []
  feasible_slot e x hs = action_cases e x (λ b d a. action_fis e x hs a ≡ pick (b && not d) (one FIS e x hs (feasible e x)) []) refl refl (λ d. refl)

  -- the groups of no event: the formulas of a tag, each under those before it, and the variant
  formula_group : (g k : ℕ) (hs : List Entry) → group_rows t 0 g ≡ Tagged k
      → ((i : ℕ) → made t 0 g i ≡ one WD 0 (t.a i) (hs ++ before (tagged t k) t.a i) (defined (t.a i)))
      → in_order 0 hs (map t.a (section t k)) ≡ group_slots t 0 g
  unfolding section
  formula_group g k hs p q =
      in_order_rows 0 hs (tagged t k) t.a t.size
      ∙ sym (group_slots_lem 0 g (Tagged k) p ∙ flat_ext _ _ rows (λ i. ap (λ ss. pick (tagged t k i) ss []) (q i)))

  pub axiom_group_lem : in_order 0 [] (machine_of t).axioms ≡ group_slots t 0 axiom_group
  unfolding machine_of group_at made
  axiom_group_lem = formula_group axiom_group 30 [] refl (λ i. refl)

  pub abstract_invariant_group_lem : in_order 0 (written_of t (machine_of t).axioms) (machine_of t).abstract_invariants ≡ group_slots t 0 abstract_invariant_group
  unfolding machine_of group_at made
  abstract_invariant_group_lem = formula_group abstract_invariant_group 31 (written_of t (machine_of t).axioms) refl (λ i. refl)

  pub concrete_invariant_group_lem : in_order 0 (written_of t (machine_of t).axioms ++ written_of t (machine_of t).abstract_invariants) (machine_of t).concrete_invariants
      ≡ group_slots t 0 concrete_invariant_group
  unfolding machine_of group_at made
  concrete_invariant_group_lem =
      formula_group concrete_invariant_group 32 (written_of t (machine_of t).axioms ++ written_of t (machine_of t).abstract_invariants) refl (λ i. refl)

  pub variant_group_lem : map (λ r. sequent WD 0 r (written_of t (formulas (machine_of t))) (defined r)) (machine_of t).variants ≡ group_slots t 0 variant_group
  unfolding group_at made
  variant_group_lem = ap (map _) variants_rows ∙ map_kept (tagged t 70) t.a rows _ ∙ sym (group_slots_lem 0 variant_group (Tagged 70) refl)

  -- what the role says, by the tests on the event's row
  module _ (e : ℕ) where
    abbrev OfRole : (Bool → Bool → Bool → Bool → Role → Type 0) → Type 0
    OfRole P = P (is_abstract t e) (eqb (class_of t e) 0) (eqb (class_of t e) 1) (eqb (class_of t e) 2) (role_of t e)

    pub by_role : (P : Bool → Bool → Bool → Bool → Role → Type 0) → ((o v : Bool) → P true true o v abstract_initialisation)
        → ((o v : Bool) → P true false o v abstract_ordinary) → P false true false false (concrete_initialisation 1)
        → P false false true false (refining (refined_by t e)) → P false false false true convergent → P false false false false anticipated → OfRole P
    unfolding machine_of
    by_role P = role_cases (machine_number t e) (class_of t e) (refined_by t e) P

    pub variables_own : own_variables (machine_of t) (role_of t e) ≡ keep (λ x. is_variable_of (own_kind t e) (kind_of t x)) (numbers (count t 10) 1)
    unfolding machine_of variables_of
    variables_own =
        by_role (λ a z o v r. own_variables (machine_of t) r ≡ variables_of t (pick a 2 3)) (λ o v. refl) (λ o v. refl) refl refl refl refl

    invariants_own : own_invariants (machine_of t) (role_of t e) ≡ map t.a (section t (own_invariant_tag t e))
    unfolding machine_of
    invariants_own =
        by_role (λ a z o v r. own_invariants (machine_of t) r ≡ map t.a (section t (pick a 31 32))) (λ o v. refl) (λ o v. refl) refl refl refl refl

    refined_own : refined (role_of t e) ≡ pick (is_refining t e) (refined_by t e ∷ []) []
    refined_own = by_role (λ a z o v r. refined r ≡ pick (not a && o) (refined_by t e ∷ []) []) (λ o v. refl) (λ o v. refl) refl refl refl refl

    -- SIM of a variable, of a new event and of one that is matched
    abbrev simulation : Bool → ℕ → Role → ℕ → Sequent
    simulation new f ro x =
        sequent SIM e x (pick new (moved (machine_of t) ro e) (moved (machine_of t) ro e ++ witnesses_at t e)) (pick new (unchanged x) (moves f x))

    -- it is made of a matched event for each abstract variable, and of a new one for each that is shared
    simulated_own : sim_sequents (machine_of t) (role_of t e) e
        ≡ pick (is_matched t e) (map (simulation (is_new t e) (matched_by t e) (role_of t e)) (machine_of t).abstract_variables)
        (pick (is_new t e) (map (simulation (is_new t e) (matched_by t e) (role_of t e)) (shared_variables (machine_of t))) [])
    simulated_own =
        by_role
        (λ a z o v ro. sim_sequents (machine_of t) ro e
        ≡ pick (not a && (z || o)) (map (simulation (not a && not (z || o)) (pick z 1 (refined_by t e)) ro) (machine_of t).abstract_variables)
        (pick (not a && not (z || o)) (map (simulation (not a && not (z || o)) (pick z 1 (refined_by t e)) ro) (shared_variables (machine_of t))) []))
        (λ o v. refl) (λ o v. refl) refl refl refl refl

    -- NAT of a convergent event, and VAR of a new one
    variants_own : variant_sequents (machine_of t) (role_of t e) e
        ≡ pick (is_convergent t e) (nats (machine_of t) (role_of t e) e) []
        ++ pick (is_new t e) (vars (machine_of t) (role_of t e) e (λ r. pick (is_convergent t e) (decreases r) (not_increased r))) []
    variants_own =
        by_role
        (λ a z o v ro. variant_sequents (machine_of t) ro e
        ≡ pick (not a && v) (nats (machine_of t) ro e) []
        ++ pick (not a && not (z || o)) (vars (machine_of t) ro e (λ r. pick (not a && v) (decreases r) (not_increased r))) [])
        (λ o v. refl) (λ o v. refl) refl refl refl refl

  -- the groups of an event
  module _ (e : ℕ) (event : 1 ≤ e) where
    -- the group's rows are there
    there : (g : ℕ) (rows : Selection) → group_rows t e g ≡ of_event e rows → group_slots t e g ≡ flat_map (λ i. pick (selects t rows i) (made t e g i) []) (numbers t.size 0)
    there g rows p = group_slots_lem e g rows (p ∙ ap (λ b. pick b None rows) (ne_eqb e 0 (omega arith)))

    pub guard_group_lem : guard_wds (machine_of t) (role_of t e) e ≡ group_slots t e guard_group
    unfolding group_at made
    guard_group_lem =
        ap (in_order e (base (machine_of t) (role_of t e))) (guards_rows e)
        ∙ in_order_rows e (base (machine_of t) (role_of t e)) (row_of_event t 50 e) t.b t.size
        ∙ sym (there guard_group (OfEvent 50 e) refl)

    -- a list over the variables of the event's machine, of which each makes its part where a test passes
    variables_rows : (f : ℕ → List Sequent) (Q : ℕ → Bool) (s : ℕ → List Sequent) → ((x : ℕ) → f x ≡ pick (Q x) (s x) [])
        → flat_map f (own_variables (machine_of t) (role_of t e)) ≡ flat_map (λ i. pick (variable_at t (own_kind t e) i && Q (i + 1)) (s (i + 1)) []) rows
    variables_rows f Q s h =
        ap (flat_map f) (variables_own e)
        ∙ identifiers_rows (is_variable_of (own_kind t e)) f
        ∙ flat_ext _ _ rows
        (λ i. ap (λ xs. pick (variable_at t (own_kind t e) i) xs []) (h (i + 1)) ∙ sym (pick_and (variable_at t (own_kind t e) i) (Q (i + 1)) (s (i + 1))))

    pub action_group_lem : action_wds (machine_of t) (role_of t e) e ≡ group_slots t e action_group
    unfolding machine_of group_at made
    action_group_lem =
        variables_rows _ (is_assigned t e) (λ x. one WD e (t.c (action_row t e x)) (guarded_at t e) (defined (t.c (action_row t e x))))
        (λ x. action_slot e x (guarded_at t e))
        ∙ sym (there action_group (Assigned (own_kind t e) e) refl)

    pub feasible_group : action_fiss (machine_of t) (role_of t e) e ≡ group_slots t e fis_group
    unfolding machine_of group_at made
    feasible_group =
        variables_rows _ (becomes_such t e) (λ x. one FIS e x (guarded_at t e) (feasible e x)) (λ x. feasible_slot e x (guarded_at t e))
        ∙ sym (there fis_group (SuchThat (own_kind t e) e) refl)

    pub witness_group_lem : of_witnesses (machine_of t) (role_of t e) e ≡ group_slots t e witness_group
    unfolding group_at made
    witness_group_lem =
        ap (flat_map (witness_sequents (machine_of t) (role_of t e) e)) (witnesses_rows e)
        ∙ flat_kept (row_of_event t 60 e) _ rows (witness_sequents (machine_of t) (role_of t e) e)
        ∙ sym (there witness_group (OfEvent 60 e) refl)

    pub grd_group_lem : grds (machine_of t) (role_of t e) e ≡ group_slots t e grd_group
    unfolding group_at made
    grd_group_lem =
        ap (flat_map (grd (machine_of t) (role_of t e) e)) (refined_own e)
        ∙ flat_single (is_refining t e) (grd (machine_of t) (role_of t e) e) (refined_by t e)
        ∙ ap (λ xs. pick (is_refining t e) xs []) (ap (map _) (guards_rows (refined_by t e)) ∙ map_kept (row_of_event t 50 (refined_by t e)) t.b rows _)
        ∙ flat_when (is_refining t e) (row_of_event t 50 (refined_by t e)) _ rows
        ∙ when_slots (is_refining t e) (OfEvent 50 (refined_by t e)) _
        ∙ sym (there grd_group (when (is_refining t e) (OfEvent 50 (refined_by t e))) refl)

    abstract_rows : {B : Type 0} (f : ℕ → B) → map f (machine_of t).abstract_variables ≡ flat_map (λ i. pick (variable_at t 2 i) (f (i + 1) ∷ []) []) rows
    unfolding machine_of variables_of
    abstract_rows f = each_identifier (is_variable_of 2) f

    shared_rows : {B : Type 0} (f : ℕ → B) → map f (shared_variables (machine_of t)) ≡ flat_map (λ i. pick (identifier_at t 6 i) (f (i + 1) ∷ []) []) rows
    shared_rows f = ap (map f) (shared_numbered t) ∙ each_identifier (λ k. eqb k 6) f

    -- the abstract variables where a test passes, or the shared ones where another does
    simulated_slots : (b c : Bool) (f : ℕ → List Sequent)
        → pick b (flat_map (λ i. pick (variable_at t 2 i) (f i) []) rows) (pick c (flat_map (λ i. pick (identifier_at t 6 i) (f i) []) rows) [])
        ≡ flat_map (λ i. pick (selects t (pick b (Variables 2) (when c (Identifiers 6))) i) (f i) []) rows
    simulated_slots true c f = refl
    simulated_slots false true f = refl
    simulated_slots false false f = sym (flat_none rows)

    pub sim_group_lem : sim_sequents (machine_of t) (role_of t e) e ≡ group_slots t e sim_group
    unfolding group_at made
    sim_group_lem =
        simulated_own e
        ∙ ap₂ (λ (xs : List Sequent) (ys : List Sequent). pick (is_matched t e) xs (pick (is_new t e) ys [])) (abstract_rows _) (shared_rows _)
        ∙ simulated_slots (is_matched t e) (is_new t e) _
        ∙ sym (there sim_group (simulated_rows t e) refl)

    pub inv_group_lem : inv (machine_of t) (role_of t e) e ≡ group_slots t e inv_group
    unfolding section group_at made
    inv_group_lem = ap (map _) (invariants_own e) ∙ map_kept (tagged t (own_invariant_tag t e)) t.a rows _ ∙ sym (there inv_group (Tagged (own_invariant_tag t e)) refl)

    -- NAT and VAR alike
    variant_when_rows : (b : Bool) (s : ℕ → Sequent) → pick b (map s (machine_of t).variants) []
        ≡ flat_map (λ i. pick (selects t (when b (Tagged 70)) i) (s (t.a i) ∷ []) []) rows
    variant_when_rows b s =
        ap (λ xs. pick b xs []) (ap (map s) variants_rows ∙ map_kept (tagged t 70) t.a rows s)
        ∙ flat_when b (tagged t 70) (λ i. s (t.a i) ∷ []) rows
        ∙ when_slots b (Tagged 70) _

    pub variant_groups : variant_sequents (machine_of t) (role_of t e) e ≡ group_slots t e nat_group ++ (group_slots t e var_group ++ [])
    unfolding group_at made
    variant_groups =
        variants_own e
        ∙ ap₂ (λ (xs : List Sequent) (ys : List Sequent). xs ++ ys)
        (variant_when_rows (is_convergent t e) _ ∙ sym (there nat_group (when (is_convergent t e) (Tagged 70)) refl))
        (variant_when_rows (is_new t e) _ ∙ sym (there var_group (when (is_new t e) (Tagged 70)) refl) ∙ sym (append-nil (group_slots t e var_group)))

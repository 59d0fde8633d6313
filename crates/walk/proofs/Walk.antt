-- The full list of obligations is what the slots hold, in their order, for any table. Group by group (Groups).
use Prim.Native.Nat.{ℕ, ◌+◌, ◌≤◌}
use mathlib.Core.Path.{◌≡◌, refl, sym, ap, ap₂, ◌∙◌}
use mathlib.Core.List.{List, [], ◌++◌, flat_map, append_assoc, append-nil}
use native.Mathlib.Omega.{arith}
use native.Mathlib.Numerals.{add-one}
use lib.Dec.{eqb}
use borrow.Author.Tests.{ne_eqb}
use Rattle.lists.specs.Choice.{pick}
use Rattle.lists.specs.All.{All, all_nil, all_cons}
use Rattle.lists.specs.Below.{numbers}
use Rattle.lists.proofs.All.{all_at}
use Rattle.lists.proofs.Below.{in_numbers}
use Rattle.lists.proofs.Flat.{flat_none, flat_join, flat_same}
use Rattle.table.specs.Rows.{Rows, count}
use Rattle.machine.specs.Described.{machine_of}
use Rattle.sequent.specs.Sequent.{Sequent}
use Rattle.sequent.specs.Listed.{in_order, event_sequents, formulas, obligations}
use Rattle.sequent.proofs.Parts.{event_sequents_parts, in_order_join}
use Rattle.select.specs.declared.Selection.{Selection}
use Rattle.select.specs.declared.Selection.TheVariants.{None}
use Rattle.groups.specs.Groups.{groups, group_at, axiom_group, abstract_invariant_group, concrete_invariant_group, variant_group}
use Rattle.walk.proofs.Groups.{role_of, written_of, group_slots, group_none, axiom_group_lem, abstract_invariant_group_lem, concrete_invariant_group_lem, variant_group_lem}
use Rattle.walk.proofs.Groups.{guard_group_lem, action_group_lem, feasible_group, witness_group_lem, grd_group_lem, sim_group_lem, inv_group_lem, variant_groups}

-- two lists joined, each written another way
both : {xs xs' ys ys' : List Sequent} → xs ≡ xs' → ys ≡ ys' → xs ++ ys ≡ xs' ++ ys'
both p q = ap₂ (λ (xs : List Sequent) (ys : List Sequent). xs ++ ys) p q

module _ (t : Rows) where
  abbrev pub event_slots : ℕ → List Sequent
  event_slots e = flat_map (group_slots t e) (numbers groups 0)

  abbrev pub walk : List Sequent
  walk = flat_map event_slots (numbers (count t 40 + 1) 0)

  -- the groups of no event
  first_slots : event_slots 0 ≡ group_slots t 0 axiom_group ++ (group_slots t 0 abstract_invariant_group ++ (group_slots t 0 concrete_invariant_group ++ group_slots t 0 variant_group))
  unfolding flat_map numbers group_at
  first_slots =
      flat_join (group_slots t 0) (numbers 4 0) (numbers 9 4)
      ∙ ap (λ xs. flat_map (group_slots t 0) (numbers 4 0) ++ xs) (flat_same (group_slots t 0) (λ g. []) (numbers 9 4) (λ g i. all_at others i) ∙ flat_none (numbers 9 4))
      ∙ append-nil (flat_map (group_slots t 0) (numbers 4 0))
      ∙ ap (λ xs. group_slots t 0 axiom_group ++ (group_slots t 0 abstract_invariant_group ++ (group_slots t 0 concrete_invariant_group ++ xs))) (append-nil (group_slots t 0 variant_group))
    where
      others : All (λ g. group_slots t 0 g ≡ []) (numbers 9 4)
      others =
          all_cons (group_none t 0 4 refl) (all_cons (group_none t 0 5 refl) (all_cons (group_none t 0 6 refl) (all_cons (group_none t 0 7 refl) (all_cons (group_none t 0 8 refl)
          (all_cons (group_none t 0 9 refl) (all_cons (group_none t 0 10 refl) (all_cons (group_none t 0 11 refl) (all_cons (group_none t 0 12 refl) all_nil))))))))

  -- and of an event
  event_slots_lem : (e : ℕ) → 1 ≤ e → event_slots e ≡ flat_map (group_slots t e) (numbers 9 4)
  unfolding numbers group_at
  event_slots_lem e h =
      flat_join (group_slots t e) (numbers 4 0) (numbers 9 4)
      ∙ ap (λ xs. xs ++ flat_map (group_slots t e) (numbers 9 4)) (flat_same (group_slots t e) (λ g. []) (numbers 4 0) (λ g i. all_at others i) ∙ flat_none (numbers 4 0))
    where
      none : (rows : Selection) → pick (eqb e 0) rows None ≡ None
      none rows = ap (λ b. pick b rows None) (ne_eqb e 0 (omega arith))

      others : All (λ g. group_slots t e g ≡ []) (numbers 4 0)
      others = all_cons (group_none t e 0 (none _)) (all_cons (group_none t e 1 (none _)) (all_cons (group_none t e 2 (none _)) (all_cons (group_none t e 3 (none _)) all_nil)))

  event_walked : (e : ℕ) → 1 ≤ e → event_sequents (machine_of t) e (role_of t e) ≡ event_slots e
  unfolding flat_map numbers
  event_walked e h =
      event_sequents_parts (machine_of t) (role_of t e) e
      ∙ both (guard_group_lem t e h) (both (action_group_lem t e h) (both (feasible_group t e h) (both (witness_group_lem t e h)
      (both (grd_group_lem t e h) (both (sim_group_lem t e h) (both (inv_group_lem t e h) (variant_groups t e h)))))))
      ∙ sym (event_slots_lem e h)

  -- "WD of axioms, invariants": each tag's formulas under those of the tags before it
  formulas_walked : in_order 0 [] (formulas (machine_of t))
      ≡ group_slots t 0 axiom_group ++ (group_slots t 0 abstract_invariant_group ++ group_slots t 0 concrete_invariant_group)
  formulas_walked =
      let m = machine_of t in
      in_order_join 0 [] m.axioms (m.abstract_invariants ++ m.concrete_invariants)
      ∙ both (axiom_group_lem t)
      (in_order_join 0 (written_of t m.axioms) m.abstract_invariants m.concrete_invariants ∙ both (abstract_invariant_group_lem t) (concrete_invariant_group_lem t))

  abbrev events : List Sequent
  events = flat_map event_slots (numbers (count t 40) 1)

  -- the list is the walk
  pub walked : obligations (machine_of t) ≡ walk
  unfolding obligations machine_of flat_map numbers
  walked =
      both formulas_walked
      (both (variant_group_lem t) (flat_same _ event_slots (numbers (count t 40) 1) (λ e i. event_walked e (in_numbers (count t 40) 1 e i).0)))
      ∙ regroup (group_slots t 0 axiom_group) (group_slots t 0 abstract_invariant_group) (group_slots t 0 concrete_invariant_group) (group_slots t 0 variant_group) events
      ∙ ap (λ xs. xs ++ events) (sym first_slots)
      ∙ ap (λ n. flat_map event_slots (numbers n 0)) (sym (add-one (count t 40)))
    where
      regroup : (a b c d es : List Sequent) → (a ++ (b ++ c)) ++ (d ++ es) ≡ (a ++ (b ++ (c ++ d))) ++ es
      regroup a b c d es = simp append_assoc

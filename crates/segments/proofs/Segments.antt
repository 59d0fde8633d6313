-- The hypotheses of a slot's sequents, written as the segments of the table, each there or not: the rows that pass a test, each as its root is written or as a move.
use Prim.Native.Nat.{ℕ, ◌+◌}
use mathlib.Core.Path.{◌≡◌, refl, ap, ap₂, ◌∙◌}
use mathlib.Core.Bool.{Bool, true, false, not}
use mathlib.Core.List.{List, [], ◌++◌, map, flat_map, append_assoc}
use lib.Dec.{eqb}
use Rattle.lists.specs.Choice.{pick}
use Rattle.lists.specs.Below.{numbers, keep}
use Rattle.lists.proofs.Flat.{map_when}
use Rattle.table.specs.Rows.{Rows, tagged}
use Rattle.sequent.specs.Entry.{Entry, written, moves}
use Rattle.select.specs.declared.Selection.{Selection}
use Rattle.select.specs.declared.Selection.TheVariants.{Tagged, OfEvent, ForParameters, Identifiers, Variables}
use Rattle.select.specs.Selection.{row_of_event, parameter_witness, identifier_at, variable_at, selects}
use Rattle.walk.specs.declared.Slot.{Slot}
use Rattle.events.specs.Events.{own_kind}
use Rattle.groups.specs.Groups.{when, axiom_group, abstract_invariant_group, concrete_invariant_group, guard_group, grd_group}
use Rattle.segments.specs.Segments.{up_to, of_none, has_abstract, has_concrete, has_moves, has_witnesses, has_abstract_moves}
use Rattle.segments.specs.Segments.{segment_at, segment_entry, segment, hypothesis_walk}

module _ (t : Rows) where
  abbrev pub rows : List ℕ
  rows = numbers t.size 0

  -- the rows before one that pass, each as its root is written
  abbrev pub rooted_to : ℕ → (ℕ → ℕ) → (ℕ → Bool) → List Entry
  rooted_to n root P = map (λ j. written (root j)) (keep P (numbers n 0))

  abbrev pub rooted : (ℕ → ℕ) → (ℕ → Bool) → List Entry
  rooted root P = rooted_to t.size root P

  -- the moves of an event for the identifiers that pass, and for the variables of its machine
  abbrev pub moving_by : ℕ → (ℕ → Bool) → List Entry
  moving_by e P = map (λ j. moves e (j + 1)) (keep P rows)

  abbrev pub moving : ℕ → List Entry
  moving e = moving_by e (variable_at t (own_kind t e))

  -- rows that are selected where a test passes
  kept_when : (f : ℕ → Entry) (b : Bool) (r : Selection) (ns : List ℕ) → map f (keep (selects t (when b r)) ns) ≡ pick b (map f (keep (selects t r) ns)) []
  kept_when f true r ns = refl
  kept_when f false r ns = map_when f false (selects t r) ns

  kept_witnesses : (e : ℕ) (b c : Bool) → rooted t.c (selects t (pick b (ForParameters e) (when c (OfEvent 60 e))))
      ≡ pick b (rooted t.c (parameter_witness t e)) (pick c (rooted t.c (row_of_event t 60 e)) [])
  kept_witnesses e true c = refl
  kept_witnesses e false c = kept_when _ c (OfEvent 60 e) rows

  -- the hypotheses as their segments, before whatever follows them
  pub walk_then : (s : Slot) (rest : List Entry) → hypothesis_walk t s ++ rest
      ≡ rooted_to (up_to t s axiom_group) t.a (tagged t 30)
      ++ (pick (has_abstract t s) (rooted_to (up_to t s abstract_invariant_group) t.a (tagged t 31)) []
      ++ (pick (has_concrete t s) (rooted_to (up_to t s concrete_invariant_group) t.a (tagged t 32)) []
      ++ (pick (not (of_none s)) (rooted_to (up_to t s guard_group) t.b (row_of_event t 50 s.event)) []
      ++ (pick (has_moves t s) (moving s.event) []
      ++ (pick (eqb s.group grd_group) (rooted t.c (parameter_witness t s.event)) (pick (has_witnesses t s) (rooted t.c (row_of_event t 60 s.event)) [])
      ++ (pick (has_abstract_moves t s) (moving_by s.event (identifier_at t 2)) []
      ++ rest))))))
  unfolding hypothesis_walk segment_at segment_entry flat_map numbers
  walk_then s rest =
      seven (segment t s)
      ∙ ap (λ xs. rooted_to (up_to t s axiom_group) t.a (tagged t 30) ++ xs)
      (both (kept_when _ (has_abstract t s) (Tagged 31) _)
      (both (kept_when _ (has_concrete t s) (Tagged 32) _)
      (both (kept_when _ (not (of_none s)) (OfEvent 50 s.event) _)
      (both (kept_when _ (has_moves t s) (Variables (own_kind t s.event)) rows)
      (both (kept_witnesses s.event (eqb s.group grd_group) (has_witnesses t s))
      (both (kept_when _ (has_abstract_moves t s) (Identifiers 2) rows) refl))))))
    where
      both : {xs xs' ys ys' : List Entry} → xs ≡ xs' → ys ≡ ys' → xs ++ ys ≡ xs' ++ ys'
      both p q = ap₂ (λ (xs : List Entry) (ys : List Entry). xs ++ ys) p q

      seven : (f : ℕ → List Entry) → (f 0 ++ (f 1 ++ (f 2 ++ (f 3 ++ (f 4 ++ (f 5 ++ (f 6 ++ []))))))) ++ rest
          ≡ f 0 ++ (f 1 ++ (f 2 ++ (f 3 ++ (f 4 ++ (f 5 ++ (f 6 ++ rest))))))
      seven f = simp append_assoc

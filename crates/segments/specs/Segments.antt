-- 01, Sequents, columns "hypotheses" and "goal": the hypotheses of a slot's sequents as segments, one line each, and the goals, kind by kind. A segment has an entry for
-- each row of a selection before some row.
use Rattle.std.specs.Prelude.{ℕ, Bool, not, ◌&&◌, ◌||◌, ltb, leb, eqb, get_or}
use mathlib.Core.List.{List, [], ◌∷◌, map, flat_map}
use Rattle.lists.specs.Choice.{pick}
use Rattle.lists.specs.Below.{numbers, keep}
use Rattle.table.specs.Names.{axiom_tag, abstract_invariant_tag, concrete_invariant_tag, guard_tag, witness_tag, abstract_variable_kind}
use Rattle.table.specs.Rows.{Rows}
use Rattle.table.specs.Lookups.{is_variable_number}
use Rattle.sequent.specs.Entry.{Entry, written, primed, defined, moves, feasible, witnessed, natural, decreases, not_increased, unchanged}
use Rattle.sequent.specs.Numbers.{written_form, moves_form}
use Rattle.select.specs.declared.Selection.{Selection}
use Rattle.select.specs.declared.Selection.TheVariants.{None, Tagged, OfEvent, ForParameters, Identifiers, Variables}
use Rattle.select.specs.Selection.{selects}
use Rattle.select.specs.declared.Item.{Item}
use Rattle.select.specs.declared.Item.TheVariants.{A, B, C, Identifier}
use Rattle.walk.specs.declared.Slot.{Slot}
use Rattle.events.specs.Events.{is_abstract, is_initial, is_convergent, is_new, matched_by, own_kind}
use Rattle.groups.specs.Groups.{axiom_group, abstract_invariant_group, concrete_invariant_group, guard_group, witness_group, grd_group, sim_group, inv_group, var_group}
use Rattle.select.specs.Each.{item_at}
use Rattle.groups.specs.Groups.{when}
use Rattle.segments.specs.declared.Segment.{Segment}

abbrev pub segment_of : Selection → ℕ → ℕ → Item → Segment
segment_of rows before form item = record { rows = rows; before = before; form = form; item = item }

-- how many segments there are
abbrev pub segments : ℕ
segments = 7

module _ (t : Rows) where
  -- SIM: "4 of the abstract event"; 02, request 2: of a convergent or anticipated event "its goal there is form 10"
  abbrev pub sim_goal : ℕ → ℕ → Entry
  sim_goal e x = pick (is_new t e) (unchanged x) (moves (matched_by t e) x)

  -- VAR: form 8 of a convergent event, form 9 of an anticipated one
  abbrev pub variant_goal : ℕ → ℕ → Entry
  variant_goal e x = pick (is_convergent t e) (decreases x) (not_increased x)

  -- column "goal", kind by kind, of an event and an item; 0 is no kind and counts as 1
  abbrev pub goals : List (ℕ → ℕ → Entry)
  goals =
      (λ e x. defined x) ∷ (λ e x. defined x) ∷ (λ e x. primed x) ∷ (λ e x. feasible e x) ∷ (λ e x. written x) ∷ (λ e x. sim_goal e x)
      ∷ (λ e x. witnessed e x) ∷ (λ e x. natural x) ∷ (λ e x. variant_goal e x) ∷ []

  unfoldable pub goal_of : ℕ → ℕ → ℕ → Entry
  goal_of kind e x = get_or goals kind (λ e x. defined x) e x

-- a group of no event
abbrev pub of_none : Slot → Bool
of_none s = ltb s.group guard_group

module _ (t : Rows) (s : Slot) where
  -- "those before it": in one group only rows before the slot's own
  abbrev pub up_to : ℕ → ℕ
  up_to group = pick (eqb s.group group) s.row t.size

  -- the invariants of the tags up to a group's own; of an event "except for initialisations, the abstract invariants"
  abbrev pub has_abstract : Bool
  has_abstract = pick (of_none s) (leb abstract_invariant_group s.group) (not (is_initial t s.event))

  -- "and, for concrete events, the concrete ones"
  abbrev pub has_concrete : Bool
  has_concrete = pick (of_none s) (leb concrete_invariant_group s.group) (not (is_initial t s.event) && not (is_abstract t s.event))

  -- SIM, INV, VAR, and "moves for a variable witness"
  abbrev pub has_moves : Bool
  has_moves =
      (eqb s.group sim_group || (eqb s.group inv_group || eqb s.group var_group))
      || (eqb s.group witness_group && is_variable_number t (t.b s.row))

  -- SIM and INV, but of a convergent or anticipated event
  abbrev pub has_witnesses : Bool
  has_witnesses = (eqb s.group sim_group || eqb s.group inv_group) && not (is_new t s.event)

  -- "for a convergent event form 4 of each abstract variable instead of witnesses", and so for an anticipated one
  abbrev pub has_abstract_moves : Bool
  has_abstract_moves = eqb s.group inv_group && is_new t s.event

  -- GRD has "parameter witnesses"
  abbrev pub witness_rows : Selection
  witness_rows = pick (eqb s.group grd_group) (ForParameters s.event) (when has_witnesses (OfEvent witness_tag s.event))

  abbrev pub segment_table : List Segment
  segment_table =
      -- the axioms
      segment_of (Tagged axiom_tag) (up_to axiom_group) written_form A
      -- the invariants
      ∷ segment_of (when has_abstract (Tagged abstract_invariant_tag)) (up_to abstract_invariant_group) written_form A
      ∷ segment_of (when has_concrete (Tagged concrete_invariant_tag)) (up_to concrete_invariant_group) written_form A
      -- the guards
      ∷ segment_of (when (not (of_none s)) (OfEvent guard_tag s.event)) (up_to guard_group) written_form B
      -- the moves
      ∷ segment_of (when has_moves (Variables (own_kind t s.event))) t.size moves_form Identifier
      -- the witnesses
      ∷ segment_of witness_rows t.size written_form C
      -- the abstract moves; 02, request 2: "Form 4 of it stands once among hypotheses": a shared variable's is among the moves
      ∷ segment_of (when has_abstract_moves (Identifiers abstract_variable_kind)) t.size moves_form Identifier
      ∷ []

  -- a segment by number; another number has no rows
  unfoldable pub segment_at : ℕ → Segment
  segment_at k = get_or segment_table k (segment_of None 0 written_form A)

  -- the rows of a segment
  abbrev pub in_segment : ℕ → ℕ → Bool
  in_segment k j = selects t (segment_at k).rows j

  -- the entry of a row
  unfoldable pub segment_entry : ℕ → ℕ → Entry
  segment_entry k j =
      let x = item_at t (segment_at k).item s.event j in
      pick (eqb (segment_at k).form moves_form) (moves s.event x) (written x)

  abbrev pub segment : ℕ → List Entry
  segment k = map (segment_entry k) (keep (in_segment k) (numbers (segment_at k).before 0))

  unfoldable pub hypothesis_walk : List Entry
  hypothesis_walk = flat_map segment (numbers segments 0)

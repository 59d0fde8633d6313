-- Where the k-th sequent comes from: `walk_to` is how many sequents the slots before a slot have, and a slot holds the sequents from there on, as many as it
-- counts. A loop over the slots that takes `slot_count` from k until k is less keeps `walk_to` + what is left of k equal to k, by the steps below.
use Prim.Native.Nat.{ℕ, ◌+◌, ◌*◌, ◌≤◌, ◌<◌}
use mathlib.Core.Path.{◌≡◌, refl, sym, ap, ◌∙◌}
use mathlib.Core.Bool.{Bool, true, false}
use mathlib.Core.List.{List, [], flat_map}
use native.Mathlib.Omega.{arith}
use native.Mathlib.Numerals.{add-one}
use lib.ListN.{length, get_or}
use Rattle.lists.specs.Choice.{pick}
use Rattle.lists.specs.Sum.{sum_below}
use Rattle.lists.specs.Below.{one_if, numbers, keep}
use Rattle.lists.proofs.Flat.{flat_ext, flat_length, keep_over, sum_same, sum_reaches, sum_at_most, flat_at}
use Rattle.formula.specs.Identifiers.{divides}
use Rattle.table.specs.Rows.{Rows, count}
use Rattle.machine.specs.Described.{machine_of}
use Rattle.sequent.specs.Sequent.{Sequent}
use Rattle.sequent.specs.Listed.{needed, sequents}
use Rattle.rules.proofs.Obeys.{Obeys}
use Rattle.nodes.specs.Notes.{noted_tree, touches}
use Rattle.select.specs.declared.Each.{Each}
use Rattle.select.specs.declared.Each.TheVariants.{One, Defined, Witness, Touched}
use Rattle.select.specs.Each.{item_at, weight, count_at}
use Rattle.select.specs.Selection.{selects}
use Rattle.groups.specs.Groups.{groups, group_at, group_rows}
use Rattle.walk.specs.Slots.{slot_count, group_count, event_count, walk_count, walk_to}
use Rattle.walk.proofs.Groups.{made, slot, group_slots}
use Rattle.walk.proofs.Walk.{event_slots, walked}
use Rattle.walk.proofs.Kept.{kept_count}

module _ (t : Rows) where
  -- the steps of the walk: from the start, past the last row to the next group, past the last group to the next event, to the end
  pub walk_start : walk_to t 0 0 0 ≡ 0
  unfolding walk_to sum_below
  walk_start = refl

  pub walk_group : (e g : ℕ) → walk_to t e (g + 1) 0 ≡ walk_to t e g t.size
  unfolding walk_to sum_below
  walk_group e g = rw (add-one g) (omega arith)

  pub walk_event : (e : ℕ) → walk_to t (e + 1) 0 0 ≡ walk_to t e groups 0
  unfolding walk_to sum_below
  walk_event e = rw (add-one e) (omega arith)

  pub walk_end : walk_to t (count t 40 + 1) 0 0 ≡ walk_count t
  unfolding walk_to walk_count sum_below
  walk_end = omega arith

  -- the slots, with what the list keeps of each
  abbrev pub kept_slot : ℕ → ℕ → ℕ → List Sequent
  kept_slot e g i = keep (needed (machine_of t)) (slot t e g i)

  abbrev pub kept_group : ℕ → ℕ → List Sequent
  kept_group e g = flat_map (kept_slot e g) (numbers t.size 0)

  abbrev pub kept_event : ℕ → List Sequent
  kept_event e = flat_map (kept_group e) (numbers groups 0)

  -- the list
  pub kept_walked : sequents (machine_of t) ≡ flat_map kept_event (numbers (count t 40 + 1) 0)
  unfolding sequents
  kept_walked =
      ap (keep (needed (machine_of t))) (walked t)
      ∙ keep_over (needed (machine_of t)) (event_slots t) (numbers (count t 40 + 1) 0)
      ∙ flat_ext _ _ (numbers (count t 40 + 1) 0) (λ e.
      keep_over (needed (machine_of t)) (group_slots t e) (numbers groups 0)
      ∙ flat_ext _ _ (numbers groups 0) (λ g. keep_over (needed (machine_of t)) (slot t e g) (numbers t.size 0)))

  module _ (ok : Obeys t) where
    -- the counts of a group, of an event and of the walk
    group_length : (e g : ℕ) → e ≤ count t 40 → length (kept_group e g) ≡ group_count t e g
    group_length e g h = flat_length (kept_slot e g) t.size ∙ sum_same _ (slot_count t e g) t.size (λ i l. kept_count t ok e g i h l)

    event_length : (e : ℕ) → e ≤ count t 40 → length (kept_event e) ≡ event_count t e
    event_length e h = flat_length (kept_group e) groups ∙ sum_same _ (group_count t e) groups (λ g l. group_length e g h)

    pub walk_count_lem : length (sequents (machine_of t)) ≡ walk_count t
    unfolding walk_count
    walk_count_lem =
        ap length kept_walked ∙ flat_length kept_event (count t 40 + 1) ∙ sum_same _ (event_count t) (count t 40 + 1) (λ e h. event_length e (omega arith))

    -- the k-th sequent of a slot is the k-th of the list behind those of the slots before
    walk_at : (e g i k : ℕ) (d : Sequent) → e ≤ count t 40 → g < groups → i < t.size → k < slot_count t e g i
        → get_or (flat_map kept_event (numbers (count t 40 + 1) 0)) (walk_to t e g i + k) d ≡ get_or (kept_slot e g i) k d
    unfolding walk_to
    walk_at e g i k d he hg hi hk =
        let inGroup : sum_below (slot_count t e g) i + k < group_count t e g = omega (arith, sum_reaches (slot_count t e g) t.size i hi) in
        let inEvent : sum_below (group_count t e) g + (sum_below (slot_count t e g) i + k) < event_count t e =
        omega (arith, sum_reaches (group_count t e) groups g hg) in
        let p : walk_to t e g i + k ≡ sum_below (event_count t) e + (sum_below (group_count t e) g + (sum_below (slot_count t e g) i + k)) = omega arith in
        ap (λ n. get_or (flat_map kept_event (numbers (count t 40 + 1) 0)) n d) p
        ∙ flat_at kept_event (event_count t) (count t 40 + 1) (λ e h. event_length e (omega arith)) e _ d (omega arith) inEvent
        ∙ flat_at (kept_group e) (group_count t e) groups (λ g h. group_length e g he) g _ d hg inGroup
        ∙ flat_at (kept_slot e g) (slot_count t e g) t.size (λ i l. kept_count t ok e g i he l) i k d hi hk

    -- a slot that counts any is one of a selected row
    pub counted_made : (e g i : ℕ) → 0 < slot_count t e g i → slot t e g i ≡ made t e g i
    unfolding slot count_at
    counted_made e g i h = by_test (selects t (group_rows t e g) i) h
      where
        by_test : (b : Bool) → 0 < pick b (weight t (group_at t e g).each i) 0 → pick b (made t e g i) [] ≡ made t e g i
        by_test true h = refl
        by_test false h = absurd (omega arith)

    -- the same of the list: a search has come to the slot with `left` of k left, and the slot counts more
    pub found : (e g i left k : ℕ) (d : Sequent) → e ≤ count t 40 → g < groups → i < t.size → walk_to t e g i + left ≡ k → left < slot_count t e g i
        → get_or (sequents (machine_of t)) k d ≡ get_or (keep (needed (machine_of t)) (made t e g i)) left d
    found e g i left k d he hg hi p hl =
        ap (λ xs. get_or xs k d) kept_walked ∙ ap (λ n. get_or (flat_map kept_event (numbers (count t 40 + 1) 0)) n d) (sym p) ∙ walk_at e g i left d he hg hi hl
        ∙ ap (λ ss. get_or (keep (needed (machine_of t)) ss) left d) (counted_made e g i (omega arith))

    -- of as many as it counts
    pub counted_kept : (e g i : ℕ) → e ≤ count t 40 → i < t.size → 0 < slot_count t e g i
        → length (keep (needed (machine_of t)) (made t e g i)) ≡ slot_count t e g i
    counted_kept e g i he hi h = ap (λ ss. length (keep (needed (machine_of t)) ss)) (sym (counted_made e g i h)) ∙ kept_count t ok e g i he hi

  -- bounds: of a slot, of what stands up to a slot, of the whole
  pub slot_at_most : (e g i : ℕ) → slot_count t e g i ≤ 2
  unfolding count_at
  slot_at_most e g i = by_test (selects t (group_rows t e g) i) (group_at t e g).each
    where
      at_most_one : (b : Bool) → one_if b ≤ 1
      at_most_one true = omega arith
      at_most_one false = omega arith

      by_test : (b : Bool) (each : Each) → pick b (weight t each i) 0 ≤ 2
      by_test true One = omega arith
      by_test true (Defined item e) = omega (arith, at_most_one (divides (noted_tree t (item_at t item e i))))
      by_test true Witness = omega (arith, at_most_one (divides (noted_tree t (t.c i))))
      by_test true (Touched e) = omega (arith, at_most_one (touches t e (t.a i)))
      by_test false each = omega arith

  pub walk_reaches : (e g i : ℕ) → e ≤ count t 40 → g < groups → i < t.size → walk_to t e g i + slot_count t e g i ≤ walk_count t
  unfolding walk_to walk_count
  walk_reaches e g i he hg hi =
      omega (
        arith,
        sum_reaches (slot_count t e g) t.size i hi,
        sum_reaches (group_count t e) groups g hg,
        sum_reaches (event_count t) (count t 40 + 1) e (omega arith),
      )

  pub walk_at_most : walk_count t ≤ (count t 40 + 1) * (groups * (t.size * 2))
  unfolding walk_count
  walk_at_most =
      sum_at_most (event_count t) (groups * (t.size * 2))
      (λ e. sum_at_most (group_count t e) (t.size * 2) (λ g. sum_at_most (slot_count t e g) 2 (slot_at_most e g) t.size) groups) (count t 40 + 1)

-- What the rows of a choice choose: the event of its row 90 with the values of its rows 91, both ways.
use Prim.Native.Nat.{ℕ, ◌+◌, ◌<◌}
use mathlib.Core.Path.{◌≡◌, refl, sym, ap, ◌∙◌, subst}
use mathlib.Core.Bool.{Bool, true, false, true≢false, ◌&&◌, ◌||◌}
use mathlib.Core.List.{List, [], ◌∷◌, ◌++◌, map, map-map, append-nil}
use mathlib.Core.Logic.{◌⊎◌, inl, inr}
use native.Mathlib.Omega.{arith}
use lib.Dec.{T, eqb}
use lib.IntN.{ℤ, pos}
use lib.ListN.{get_or, length-replicate}
use Rattle.lists.specs.Choice.{pick}
use Rattle.lists.specs.All.{All, In}
use Rattle.lists.specs.Below.{numbers}
use Rattle.lists.proofs.All.{all_tail, all_head, all_in, all_at, all_unmap, map_same, in_nil, in_cons}
use Rattle.lists.proofs.Below.{keep_in, in_keep, numbers_in, in_numbers}
use Rattle.lists.proofs.Distinct.{Distinct, pairwise_head, pairwise_tail, pairwise_keep, numbers_distinct}
use Rattle.row.specs.Row.{greatest, width, Writable}
use Rattle.row.specs.declared.Row.{Row}
use Rattle.row.specs.Reading.{Line}
use Rattle.std.specs.Prelude.{Some, None}
use Rattle.formula.specs.Values.{whole_number}
use Rattle.formula.proofs.Truth.{and_split, true_test}
use Rattle.table.specs.Rows.{Rows, count, named, type_of}
use Rattle.table.proofs.Sections.{named_bounds, bounds_named}
use Rattle.machine.specs.Machine.{Machine}
use Rattle.machine.specs.Described.{action_of, machine_of}
use Rattle.rules.proofs.Obeys.{Obeys}
use Rattle.run.specs.Run.{State, blank}
use Rattle.recording.specs.Rows.{is_given, is_state_variable, is_step_row, is_logged, is_value_row}
use Rattle.recording.specs.Replay.{Values, Found, found, bad, store, read_values}
use Rattle.recording.specs.Recorded.{value_row, logged_value}
use Rattle.recording.proofs.Values.{LineFormed, Sized, placed as placed_of, value_at, read_first, read_row, read_rows, store_size, Reads, rows_read_lem}
use Rattle.recording.proofs.Steps.{named_small}
use Rattle.recording.proofs.Runs.{step_row_of}
use Rattle.bench.specs.State.{is_of_type}
use Rattle.bench.specs.Choice.{is_such_that, Choice, chosen, none, choice_of, asked, choice}
use Rattle.bench.specs.Press.{at_hand}
use Rattle.bench.specs.Pressed.{choice_rows}
use Rattle.bench.proofs.State.{placed_size}
use Rattle.bench.proofs.Numbers.{word_of_type}

pub none_never : {e : ℕ} {vs : Values} → none ≡ chosen e vs → ⊥
none_never q = true≢false (ap (λ (c : Choice). elim c [ chosen e vs ↦ false | none ↦ true ]) q)

pub chosen_event : {d e : ℕ} {us vs : Values} → chosen d us ≡ chosen e vs → d ≡ e
chosen_event {d} q = ap (λ (c : Choice). elim c [ chosen e vs ↦ e | none ↦ d ]) q

pub chosen_values : {d e : ℕ} {us vs : Values} → chosen d us ≡ chosen e vs → us ≡ vs
chosen_values {us = us} q = ap (λ (c : Choice). elim c [ chosen e vs ↦ vs | none ↦ us ]) q

module _ (t : Rows) where
  abbrev machine : Machine
  machine = machine_of t

  -- ---- the identifiers of the rows 91
  abbrev is_asked : ℕ → ℕ → Bool
  is_asked e x = is_given t e x || (is_such_that (action_of t e x) && is_state_variable t x)

  pub in_asked : (e x : ℕ) → In x (asked t e) → T (named t 10 x) × T (is_asked e x)
  unfolding asked
  in_asked e x i =
      let p = in_keep (is_asked e) (numbers (count t 10) 1) i in
      let r = in_numbers (count t 10) 1 x p.0 in
      (bounds_named t 10 x r.0 (omega (arith, r.1)), p.1)

  pub asked_in : (e x : ℕ) → T (named t 10 x) → T (is_asked e x) → In x (asked t e)
  unfolding asked
  asked_in e x n h =
      let b = named_bounds t 10 x n in
      keep_in (is_asked e) (numbers_in (count t 10) 1 x b.0 (omega (arith, b.1))) h

  asked_distinct : (e : ℕ) → Distinct (asked t e)
  unfolding asked
  asked_distinct e = pairwise_keep (is_asked e) (numbers_distinct (count t 10) 1)

  pub hand_size : (zs : List ℤ) → Sized (at_hand t zs)
  hand_size zs = record { present = placed_size zs; after = length-replicate 65 (pos 0) }

  -- the values that are read are of their types
  read_of_type : (e : ℕ) (xs : List ℕ) (i : ℕ) (ls : List Line) (vs ws : Values) (rest : List Line) → Sized vs → Distinct xs → All (λ x. x < 65) xs → read_values t e xs i ls vs ≡ found ws rest
      → (x : ℕ) → In x xs → is_of_type (type_of t x) (get_or (placed_of t e ws x) x (pos 0)) ≡ true
  read_of_type e [] i ls vs ws rest s d l h x j = absurd (in_nil j)
  read_of_type e (y ∷ ys) i ls vs ws rest s d l h x j =
      let f = read_first t e y ys i ls vs ws rest h in
      let z : ℤ = whole_number f.row.b in
      let out : In y ys → ⊥ = λ j. all_at (pairwise_head d) j refl in
      let here : is_of_type (type_of t y) (get_or (placed_of t e ws y) y (pos 0)) ≡ true =
      ap (is_of_type (type_of t y)) (read_row t e y ys i ls vs ws rest s (all_head l) out f) ∙ word_of_type (type_of t y) f.row.b (logged_word_lem y f.row f.good) in
      either (in_cons j) here (read_of_type e ys (i + 1) f.others (store t e y z vs) ws rest (store_size t e y z vs s) (pairwise_tail d) (all_tail l) f.then x)
    where
      logged_word_lem : (y : ℕ) (r : Row) → T (is_value_row t y r) → T (is_logged (type_of t y) r.b)
      logged_word_lem y r h =
          let p = and_split (eqb r.tag 91) (eqb r.a y && (is_logged (type_of t y) r.b && eqb r.c 0)) h in
          let q = and_split (eqb r.a y) (is_logged (type_of t y) r.b && eqb r.c 0) p.1 in
          (and_split (is_logged (type_of t y) r.b) (eqb r.c 0) q.1).0

      either : (x ≡ y) ⊎ In x ys → is_of_type (type_of t y) (get_or (placed_of t e ws y) y (pos 0)) ≡ true → (In x ys → is_of_type (type_of t x) (get_or (placed_of t e ws x) x (pos 0)) ≡ true)
          → is_of_type (type_of t x) (get_or (placed_of t e ws x) x (pos 0)) ≡ true
      either (inl q) here later = subst (λ x. is_of_type (type_of t x) (get_or (placed_of t e ws x) x (pos 0)) ≡ true) (sym q) here
      either (inr j) here later = later j

  -- ---- from a choice to its rows
  pub record Chose (ls : List Line) (vs : Values) (e : ℕ) (ws : Values) : Type 0 where
    pub row : Row
    pub others : List Line
    pub lines : ls ≡ Some row ∷ others
    pub good : T (is_step_row t false row)
    pub event : row.a ≡ e
    pub reads : read_values t e (asked t e) 2 others vs ≡ found ws []

  pub choice_chose : (ls : List Line) (vs : Values) (e : ℕ) (ws : Values) → choice t ls vs ≡ chosen e ws → Chose ls vs e ws
  unfolding choice
  choice_chose [] vs e ws h = absurd (none_never h)
  choice_chose (None ∷ ls) vs e ws h = absurd (none_never h)
  choice_chose (Some r ∷ ls) vs e ws h = by_row (is_step_row t false r) refl h
    where
      by_found : T (is_step_row t false r) → (f : Found) → read_values t r.a (asked t r.a) 2 ls vs ≡ f → choice_of r.a f ≡ chosen e ws → Chose (Some r ∷ ls) vs e ws
      by_found g (bad i) q h = absurd (none_never h)
      by_found g (found us (l ∷ rest)) q h = absurd (none_never h)
      by_found g (found us []) q h = record {
        row = r;
        others = ls;
        lines = refl;
        good = g;
        event = chosen_event h;
        reads = subst (λ e. read_values t e (asked t e) 2 ls vs ≡ found us []) (chosen_event h) q ∙ ap (λ ws. found ws []) (chosen_values h);
      }

      by_row : (b : Bool) → is_step_row t false r ≡ b → pick b (choice_of r.a (read_values t r.a (asked t r.a) 2 ls vs)) none ≡ chosen e ws → Chose (Some r ∷ ls) vs e ws
      by_row true g h = by_found (true_test _ g) (read_values t r.a (asked t r.a) 2 ls vs) refl h
      by_row false g h = absurd (none_never h)

  module _ (ok : Obeys t) where
    asked_small : (e : ℕ) → All (λ x. x < 65) (asked t e)
    asked_small e = all_in (asked t e) (λ x i. named_small t ok x (in_asked e x i).0)

    -- the values of a choice are of their types
    pub choice_of_type : (zs : List ℤ) (e : ℕ) (ls : List Line) (ws : Values) → read_values t e (asked t e) 2 ls (at_hand t zs) ≡ found ws []
        → (x : ℕ) → In x (asked t e) → is_of_type (type_of t x) (get_or (placed_of t e ws x) x (pos 0)) ≡ true
    choice_of_type zs e ls ws h = read_of_type e (asked t e) 2 ls (at_hand t zs) ws [] (hand_size zs) (asked_distinct e) (asked_small e) h

    -- its rows are those of its values
    pub choice_rows_lem : (zs : List ℤ) (e : ℕ) (ls : List Line) (ws : Values) (q k : State machine) → All LineFormed ls → read_values t e (asked t e) 2 ls (at_hand t zs) ≡ found ws []
        → ((x : ℕ) → In x (asked t e) → value_at t e ws x ≡ logged_value t (blank machine) q k x) → Some (step_row_of t e) ∷ ls ≡ map Some (choice_rows t e q k)
    choice_rows_lem zs e ls ws q k formed h are =
        ap (λ ls. Some (step_row_of t e) ∷ ls)
        (read_rows t e (asked t e) 2 ls (at_hand t zs) ws [] (hand_size zs) (asked_distinct e) (asked_small e) formed h ∙ append-nil _
        ∙ map_same _ _ (asked t e) (λ x i. ap (λ v. Some (value_row t x v)) (are x i)) ∙ sym (map-map Some (λ x. value_row t x (logged_value t (blank machine) q k x)) (asked t e)))

    -- ---- from rows to their choice
    module _ (zs : List ℤ) (e : ℕ) (q k : State machine) (writable : All (Writable greatest width) (choice_rows t e q k)) where
      abbrev pub others : List Line
      others = map (λ x. Some (value_row t x (logged_value t (blank machine) q k x))) (asked t e) ++ []

      pub rows_found : Reads t e (asked t e) 2 others (at_hand t zs) [] (logged_value t (blank machine) q k)
      rows_found =
          rows_read_lem t e (asked t e) 2 (at_hand t zs) [] (logged_value t (blank machine) q k) (hand_size zs) (asked_distinct e) (asked_small e)
          (all_unmap (λ x. value_row t x (logged_value t (blank machine) q k x)) (asked t e) (all_tail writable))

      pub rows_choice : choice t (map Some (choice_rows t e q k)) (at_hand t zs) ≡ pick (is_step_row t false (step_row_of t e)) (chosen e rows_found.values) none
      unfolding choice
      rows_choice =
          ap (λ ls. choice t (Some (step_row_of t e) ∷ ls) (at_hand t zs)) (map-map Some (λ x. value_row t x (logged_value t (blank machine) q k x)) (asked t e) ∙ sym (append-nil _))
          ∙ ap (λ (f : Found). pick (is_step_row t false (step_row_of t e)) (choice_of e f) none) rows_found.reads

-- The sequents that the list keeps of a slot are made of the slot's segments and its goal: group by group the hypotheses are the segments as `walk_then` writes them, where
-- the role of the event tells which invariants are there.
use Prim.Native.Nat.{ℕ, zero, suc, ◌+◌, ◌≤◌, ◌<◌}
use mathlib.Core.Path.{◌≡◌, refl, sym, ap, ap₂, ◌∙◌, subst, fun_ext}
use mathlib.Core.Bool.{Bool, true, false, true≢false, not, ◌&&◌, ◌||◌, and_comm}
use mathlib.Core.List.{List, [], ◌∷◌, ◌++◌, map, map-map, map-append, append_assoc, append-nil}
use native.Mathlib.Omega.{arith}
use lib.Dec.{eqb}
use lib.ListN.{length, get_or}
use borrow.Author.Tests.{eqb-true}
use Rattle.lists.specs.Choice.{pick}
use Rattle.lists.specs.All.{All, all_nil, all_cons}
use Rattle.lists.specs.Below.{one_if, numbers, keep}
use Rattle.lists.proofs.All.{all_at}
use Rattle.lists.proofs.Below.{numbers_in}
use Rattle.lists.proofs.Flat.{keep_keep, keep_map}
use Rattle.table.specs.Names.{is_variable_of}
use Rattle.table.specs.Rows.{Rows, tagged, section, count}
use Rattle.table.specs.Lookups.{is_variable_number}
use Rattle.machine.specs.Machine.{Witness, unshared_variables}
use Rattle.machine.specs.Described.{machine_of}
use Rattle.machine.proofs.Variables.{variable_numbered, unshared_numbered}
use Rattle.sequent.specs.Entry.{Entry, written, moves, variable}
use Rattle.sequent.specs.Sequent.{Sequent, sequent, WD, WFIS}
use Rattle.formula.specs.Identifiers.{divides}
use Rattle.sequent.specs.Listed.{formulas, base, guarded, moved, all_written, witness_entries, parameter_witnesses, inv_hypotheses, witness_hypotheses, needed}
use Rattle.rules.proofs.Obeys.{Obeys}
use Rattle.select.specs.Each.{divisions}
use Rattle.sequent.specs.Required.{own_variables}
use Rattle.select.specs.Selection.{row_of_event, parameter_witness, identifier_at}
use Rattle.events.specs.Events.{is_abstract, is_initial, is_new, own_kind}
use Rattle.groups.specs.Groups.{groups, group_at, witness_group}
use Rattle.walk.specs.Headers.{is_wfis, header_kind, header_item}
use Rattle.walk.specs.Slots.{slot_at, slot_count}
use Rattle.walk.proofs.Kept.{witness_divisions, witness_count}
use Rattle.walk.proofs.Find.{counted_kept}
use Rattle.walk.proofs.Groups.{role_of, written_of, base_at, guarded_at, moved_at, witnesses_at, simulation_at, witness_of, made, by_role, variables_own, guards_rows, witnesses_rows, map_identifiers}
use Rattle.segments.specs.Segments.{goal_of, hypothesis_walk}
use Rattle.segments.proofs.Segments.{rows, rooted_to, rooted, moving_by, moving, walk_then}
use Rattle.entries.specs.Sequent.{goal_at, slot_sequent}

module _ (t : Rows) where
  -- a machine's formulas as the rows that they come from
  section_written : (k : ℕ) → map written (map t.a (section t k)) ≡ rooted t t.a (tagged t k)
  unfolding section
  section_written k = map-map written t.a (keep (tagged t k) (rows t))

  guards_written : (e : ℕ) → all_written (machine_of t) ((machine_of t).guards e) ≡ rooted t t.b (row_of_event t 50 e)
  guards_written e = ap (map written) (guards_rows t e) ∙ map-map written t.b (keep (row_of_event t 50 e) (rows t))

  witnesses_written : (e : ℕ) → witness_entries (machine_of t) ((machine_of t).witnesses e) ≡ rooted t t.c (row_of_event t 60 e)
  witnesses_written e = ap (map (λ w. written w.root)) (witnesses_rows t e) ∙ map-map (λ w. written w.root) (witness_of t) (keep (row_of_event t 60 e) (rows t))

  parameters_written : (e : ℕ) → witness_entries (machine_of t) (parameter_witnesses (machine_of t) e)
      ≡ rooted t t.c (parameter_witness t e)
  parameters_written e =
      ap (λ ws. map root (keep other ws)) (witnesses_rows t e)
      ∙ ap (map root) (keep_map other (witness_of t) (keep (row_of_event t 60 e) (rows t)))
      ∙ map-map root (witness_of t) (keep (λ j. other (witness_of t j)) (keep (row_of_event t 60 e) (rows t)))
      ∙ ap (map (λ j. written (t.c j)))
      (keep_keep (λ j. other (witness_of t j)) (row_of_event t 60 e) (rows t)
      ∙ ap (λ P. keep P (rows t))
      (fun_ext (λ j. and_comm (row_of_event t 60 e j) (other (witness_of t j)) ∙ ap (λ b. not b && row_of_event t 60 e j) (variable_numbered t (t.b j)))))
    where
      root : Witness → Entry
      root w = written w.root

      other : Witness → Bool
      other w = not (variable (machine_of t) w.target)

  moves_own : (e : ℕ) → map (moves e) (own_variables (machine_of t) (role_of t e)) ≡ moving t e
  moves_own e = ap (map (moves e)) (variables_own t e) ∙ map_identifiers t (is_variable_of (own_kind t e)) (moves e)

  moves_unshared : (e : ℕ) → map (moves e) (unshared_variables (machine_of t)) ≡ moving_by t e (identifier_at t 2)
  moves_unshared e = ap (map (moves e)) (unshared_numbered t) ∙ map_identifiers t (λ k. eqb k 2) (moves e)

  -- base, guards and moves, before whatever follows them
  abbrev basic : ℕ → List Entry → List Entry
  basic e rest =
      rooted t t.a (tagged t 30)
      ++ (pick (not (is_initial t e)) (rooted t t.a (tagged t 31)) [] ++ (pick (not (is_initial t e) && not (is_abstract t e)) (rooted t t.a (tagged t 32)) [] ++ rest))

  base_then : (e : ℕ) (rest : List Entry) → base (machine_of t) (role_of t e) ++ rest ≡ basic e rest
  unfolding machine_of
  base_then e rest =
      by_role t e
      (λ a z o v r. base (machine_of t) r ++ rest ≡ A 30 ++ (pick (not z) (A 31) [] ++ (pick (not z && not a) (A 32) [] ++ rest)))
      (λ o v. refl) (λ o v. append_assoc (A 30) (A 31) rest) refl three three three
      ∙ ap₂ (λ (xs : List Entry) (ys : List Entry). xs ++ ys) (section_written 30)
      (ap₂ (λ (xs : List Entry) (ys : List Entry). pick (not (is_initial t e)) xs [] ++ (pick (not (is_initial t e) && not (is_abstract t e)) ys [] ++ rest))
      (section_written 31) (section_written 32))
    where
      A : ℕ → List Entry
      A k = map written (map t.a (section t k))

      three : (A 30 ++ (A 31 ++ A 32)) ++ rest ≡ A 30 ++ (A 31 ++ (A 32 ++ rest))
      three = append_assoc (A 30) (A 31 ++ A 32) rest ∙ ap (λ xs. A 30 ++ xs) (append_assoc (A 31) (A 32) rest)

  guarded_then : (e : ℕ) (rest : List Entry) → guarded (machine_of t) (role_of t e) e ++ rest ≡ basic e (rooted t t.b (row_of_event t 50 e) ++ rest)
  guarded_then e rest =
      append_assoc (base (machine_of t) (role_of t e)) (all_written (machine_of t) ((machine_of t).guards e)) rest
      ∙ base_then e (all_written (machine_of t) ((machine_of t).guards e) ++ rest)
      ∙ ap (λ xs. basic e (xs ++ rest)) (guards_written e)

  moved_then : (e : ℕ) (rest : List Entry)
      → moved (machine_of t) (role_of t e) e ++ rest ≡ basic e (rooted t t.b (row_of_event t 50 e) ++ (moving t e ++ rest))
  moved_then e rest =
      append_assoc (guarded (machine_of t) (role_of t e) e) (map (moves e) (own_variables (machine_of t) (role_of t e))) rest
      ∙ guarded_then e (map (moves e) (own_variables (machine_of t) (role_of t e)) ++ rest)
      ∙ ap (λ xs. basic e (rooted t t.b (row_of_event t 50 e) ++ (xs ++ rest))) (moves_own e)

  -- axioms and invariants, before whatever follows them
  three_then : (f : ℕ → Entry) (xs ys zs : List ℕ) (rest : List Entry) → map f (xs ++ (ys ++ zs)) ++ rest ≡ map f xs ++ (map f ys ++ (map f zs ++ rest))
  three_then f xs ys zs rest =
      ap (λ es. es ++ rest) (map-append f xs (ys ++ zs) ∙ ap (λ es. map f xs ++ es) (map-append f ys zs))
      ∙ append_assoc (map f xs) (map f ys ++ map f zs) rest
      ∙ ap (λ es. map f xs ++ es) (append_assoc (map f ys) (map f zs) rest)

  abbrev joined_three : List Entry → List Entry → List Entry → List Entry → List Entry
  joined_three rest xs ys zs = xs ++ (ys ++ (zs ++ rest))

  same_three : {xs xs' ys ys' zs zs' : List Entry} (rest : List Entry) → xs ≡ xs' → ys ≡ ys' → zs ≡ zs' → joined_three rest xs ys zs ≡ joined_three rest xs' ys' zs'
  same_three rest p q r = cc

  all_then : (rest : List Entry) → all_written (machine_of t) (formulas (machine_of t)) ++ rest
      ≡ joined_three rest (rooted t t.a (tagged t 30)) (rooted t t.a (tagged t 31)) (rooted t t.a (tagged t 32))
  unfolding machine_of
  all_then rest =
      three_then written (map t.a (section t 30)) (map t.a (section t 31)) (map t.a (section t 32)) rest
      ∙ same_three rest (section_written 30) (section_written 31) (section_written 32)

  axioms_written : written_of t (machine_of t).axioms ≡ rooted t t.a (tagged t 30)
  unfolding machine_of
  axioms_written = section_written 30

  invariants_then : (xs rest : List Entry) → ((written_of t (machine_of t).axioms ++ written_of t (machine_of t).abstract_invariants) ++ xs) ++ rest
      ≡ joined_three rest (rooted t t.a (tagged t 30)) (rooted t t.a (tagged t 31)) xs
  unfolding machine_of
  invariants_then xs rest =
      append_assoc (written_of t (machine_of t).axioms ++ written_of t (machine_of t).abstract_invariants) xs rest
      ∙ append_assoc (written_of t (machine_of t).axioms) (written_of t (machine_of t).abstract_invariants) (xs ++ rest)
      ∙ same_three {zs = xs} rest (section_written 30) (section_written 31) refl

  -- "moves for a variable witness"
  witness_then : (e i : ℕ) (rest : List Entry)
      → pick (variable (machine_of t) (t.b i)) (moved (machine_of t) (role_of t e) e) (guarded (machine_of t) (role_of t e) e) ++ rest
      ≡ basic e (rooted t t.b (row_of_event t 50 e) ++ (pick (is_variable_number t (t.b i)) (moving t e) [] ++ rest))
  witness_then e i rest =
      ap (λ b. pick b (moved (machine_of t) (role_of t e) e) (guarded (machine_of t) (role_of t e) e) ++ rest) (variable_numbered t (t.b i)) ∙ by_test (is_variable_number t (t.b i))
    where
      by_test : (b : Bool) → pick b (moved (machine_of t) (role_of t e) e) (guarded (machine_of t) (role_of t e) e) ++ rest
          ≡ basic e (rooted t t.b (row_of_event t 50 e) ++ (pick b (moving t e) [] ++ rest))
      by_test true = moved_then e rest
      by_test false = guarded_then e rest

  -- two lists, and then the rest
  two_then : (xs : List Entry) {ys zs : List Entry} (rest : List Entry) → ys ≡ zs → (xs ++ ys) ++ rest ≡ xs ++ (zs ++ rest)
  two_then xs {ys} rest p = append_assoc xs ys rest ∙ ap (λ es. xs ++ (es ++ rest)) p

  -- SIM: the witnesses, but not of a new event
  simulation_then : (e : ℕ) (rest : List Entry) → simulation_at t e ++ rest
      ≡ basic e (rooted t t.b (row_of_event t 50 e) ++ (moving t e ++ (pick (not (is_new t e)) (rooted t t.c (row_of_event t 60 e)) [] ++ rest)))
  simulation_then e rest = by_test (is_new t e)
    where
      by_test : (b : Bool) → pick b (moved_at t e) (moved_at t e ++ witnesses_at t e) ++ rest
          ≡ basic e (rooted t t.b (row_of_event t 50 e) ++ (moving t e ++ (pick (not b) (rooted t t.c (row_of_event t 60 e)) [] ++ rest)))
      by_test true = moved_then e rest
      by_test false = two_then (moved_at t e) rest (witnesses_written e) ∙ moved_then e (rooted t t.c (row_of_event t 60 e) ++ rest)

  -- "for a convergent event form 4 of each abstract variable instead of witnesses", and so for an anticipated one
  invariant_own : (e : ℕ) → inv_hypotheses (machine_of t) (role_of t e) e ≡ moved (machine_of t) (role_of t e) e
      ++ pick (is_new t e) (map (moves e) (unshared_variables (machine_of t))) (witness_entries (machine_of t) ((machine_of t).witnesses e))
  invariant_own e =
      by_role t e
      (λ a z o v r. inv_hypotheses (machine_of t) r e ≡ moved (machine_of t) r e
      ++ pick (not a && not (z || o)) (map (moves e) (unshared_variables (machine_of t))) (witness_entries (machine_of t) ((machine_of t).witnesses e)))
      (λ o v. refl) (λ o v. refl) refl refl refl refl

  invariant_then : (e : ℕ) (rest : List Entry) → inv_hypotheses (machine_of t) (role_of t e) e ++ rest
      ≡ basic e (rooted t t.b (row_of_event t 50 e) ++ (moving t e
      ++ (pick (not (is_new t e)) (rooted t t.c (row_of_event t 60 e)) [] ++ (pick (is_new t e) (moving_by t e (identifier_at t 2)) [] ++ rest))))
  invariant_then e rest =
      ap (λ xs. xs ++ rest)
      (invariant_own e ∙ ap₂ (λ (xs : List Entry) (ys : List Entry). moved (machine_of t) (role_of t e) e ++ pick (is_new t e) xs ys) (moves_unshared e) (witnesses_written e))
      ∙ append_assoc (moved (machine_of t) (role_of t e) e) (pick (is_new t e) (moving_by t e (identifier_at t 2)) (rooted t t.c (row_of_event t 60 e))) rest
      ∙ moved_then e (pick (is_new t e) (moving_by t e (identifier_at t 2)) (rooted t t.c (row_of_event t 60 e)) ++ rest)
      ∙ ap (λ xs. basic e (rooted t t.b (row_of_event t 50 e) ++ (moving t e ++ xs))) (by_test (is_new t e))
    where
      by_test : (b : Bool) → pick b (moving_by t e (identifier_at t 2)) (rooted t t.c (row_of_event t 60 e)) ++ rest
          ≡ pick (not b) (rooted t t.c (row_of_event t 60 e)) [] ++ (pick b (moving_by t e (identifier_at t 2)) [] ++ rest)
      by_test true = refl
      by_test false = refl

  -- group by group: the slot's sequents are made of the segments
  module _ (e i : ℕ) (d : Sequent) where
    abbrev Hypotheses : ℕ → ℕ → Type 0
    Hypotheses g w = (rest : List Entry) → (get_or (made t e g i) w d).hypotheses ++ rest ≡ hypothesis_walk t (slot_at e g i w) ++ rest

    first_hypotheses : All (λ g. Hypotheses g 0) (numbers groups 0)
    unfolding made numbers
    first_hypotheses =
        all_cons (λ r. sym (walk_then t (slot_at e 0 i 0) r))
        (all_cons (λ r. two_then (written_of t (machine_of t).axioms) r refl ∙ ap (λ xs. xs ++ (rooted_to t i t.a (tagged t 31) ++ r)) axioms_written ∙ sym (walk_then t (slot_at e 1 i 0) r))
        (all_cons (λ r. invariants_then (rooted_to t i t.a (tagged t 32)) r ∙ sym (walk_then t (slot_at e 2 i 0) r))
        (all_cons (λ r. all_then r ∙ sym (walk_then t (slot_at e 3 i 0) r))
        (all_cons (λ r. two_then (base_at t e) r refl ∙ base_then e (rooted_to t i t.b (row_of_event t 50 e) ++ r) ∙ sym (walk_then t (slot_at e 4 i 0) r))
        (all_cons (λ r. guarded_then e r ∙ sym (walk_then t (slot_at e 5 i 0) r))
        (all_cons (λ r. guarded_then e r ∙ sym (walk_then t (slot_at e 6 i 0) r))
        (all_cons (λ r. witness_then e i r ∙ sym (walk_then t (slot_at e 7 i 0) r))
        (all_cons (λ r. two_then (guarded_at t e) r (parameters_written e) ∙ guarded_then e (rooted t t.c (parameter_witness t e) ++ r) ∙ sym (walk_then t (slot_at e 8 i 0) r))
        (all_cons (λ r. simulation_then e r ∙ sym (walk_then t (slot_at e 9 i 0) r))
        (all_cons (λ r. invariant_then e r ∙ sym (walk_then t (slot_at e 10 i 0) r))
        (all_cons (λ r. guarded_then e r ∙ sym (walk_then t (slot_at e 11 i 0) r))
        (all_cons (λ r. moved_then e r ∙ sym (walk_then t (slot_at e 12 i 0) r)) all_nil))))))))))))

    -- all but the hypotheses computes
    abbrev WithOwn : ℕ → ℕ → Sequent → Type 0
    WithOwn g w s = s ≡ sequent (header_kind t e g i w) e (header_item t e g i w) s.hypotheses (goal_at t (slot_at e g i w))

    first_own : All (λ g. (eqb g witness_group ≡ false) → WithOwn g 0 (get_or (made t e g i) 0 d)) (numbers groups 0)
    unfolding made numbers goal_of group_at header_kind header_item
    first_own =
        all_cons (λ p. refl) (all_cons (λ p. refl) (all_cons (λ p. refl) (all_cons (λ p. refl) (all_cons (λ p. refl) (all_cons (λ p. refl) (all_cons (λ p. refl)
        (all_cons (λ p. absurd (true≢false p)) (all_cons (λ p. refl) (all_cons (λ p. refl) (all_cons (λ p. refl) (all_cons (λ p. refl) (all_cons (λ p. refl) all_nil))))))))))))

    segmented : (g w : ℕ) (s : Sequent) → ((rest : List Entry) → s.hypotheses ++ rest ≡ hypothesis_walk t (slot_at e g i w) ++ rest) → WithOwn g w s
        → s ≡ slot_sequent t (slot_at e g i w)
    segmented g w s hs own =
        own
        ∙ ap (λ xs. sequent (header_kind t e g i w) e (header_item t e g i w) xs (goal_at t (slot_at e g i w)))
        (sym (append-nil s.hypotheses) ∙ hs [] ∙ append-nil (hypothesis_walk t (slot_at e g i w)))

    first_segmented : (g : ℕ) → g < groups → eqb g witness_group ≡ false → get_or (made t e g i) 0 d ≡ slot_sequent t (slot_at e g i 0)
    first_segmented g l p =
        let k = numbers_in groups 0 g (omega arith) (omega arith) in
        segmented g 0 _ (all_at first_hypotheses k) (all_at first_own k p)

    -- a witness's WD and WFIS, by which of the row's sequents it is
    abbrev of_witness : Bool → Sequent
    of_witness b =
        let k = pick b WFIS WD in
        let x = pick b (t.b i) (t.c i) in
        sequent k e x (witness_hypotheses (machine_of t) (role_of t e) e (witness_of t i)) (goal_of t k e x)

    witness_segmented : (w : ℕ) (b : Bool) → is_wfis t witness_group i w ≡ b → of_witness b ≡ slot_sequent t (slot_at e witness_group i w)
    unfolding header_kind header_item group_at
    witness_segmented w b p =
        segmented witness_group w (of_witness b) (λ r. witness_then e i r ∙ sym (walk_then t (slot_at e witness_group i w) r))
        (ap (λ b. sequent (pick b WFIS WD) e (pick b (t.b i) (t.c i)) (witness_hypotheses (machine_of t) (role_of t e) e (witness_of t i)) (goal_of t (pick b WFIS WD) e (pick b (t.b i) (t.c i)))) (sym p))

  -- what is kept of one sequent
  kept_single : (P : Sequent → Bool) (s d : Sequent) (w : ℕ) → w < length (keep P (s ∷ [])) → (w ≡ 0) × (get_or (keep P (s ∷ [])) w d ≡ s)
  unfolding keep
  kept_single P s d w h = go (P s) h
    where
      go : (b : Bool) → w < length (pick b (s ∷ []) []) → (w ≡ 0) × (get_or (pick b (s ∷ []) []) w d ≡ s)
      go true k = let e : w ≡ 0 = omega arith in (e, ap (λ w. get_or (s ∷ []) w d) e)
      go false k = absurd (omega arith)

  made_single : (e g i : ℕ) (d : Sequent) → g < groups → eqb g witness_group ≡ false → made t e g i ≡ get_or (made t e g i) 0 d ∷ []
  unfolding made numbers
  made_single e g i d l p = all_at several (numbers_in groups 0 g (omega arith) (omega arith)) p
    where
      several : All (λ g. (eqb g witness_group ≡ false) → made t e g i ≡ get_or (made t e g i) 0 d ∷ []) (numbers groups 0)
      several =
          all_cons (λ p. refl) (all_cons (λ p. refl) (all_cons (λ p. refl) (all_cons (λ p. refl) (all_cons (λ p. refl) (all_cons (λ p. refl) (all_cons (λ p. refl)
          (all_cons (λ p. absurd (true≢false p)) (all_cons (λ p. refl) (all_cons (λ p. refl) (all_cons (λ p. refl) (all_cons (λ p. refl) (all_cons (λ p. refl) all_nil))))))))))))

  module _ (ok : Obeys t) (e i : ℕ) (d : Sequent) (he : e ≤ count t 40) (hi : i < t.size) where
    -- of a group of which a row has one sequent
    single_segmented : (g w : ℕ) → g < groups → eqb g witness_group ≡ false → w < slot_count t e g i
        → get_or (keep (needed (machine_of t)) (made t e g i)) w d ≡ slot_sequent t (slot_at e g i w)
    single_segmented g w l p k =
        let size = counted_kept t ok e g i he hi (omega arith) in
        let same = made_single e g i d l p in
        let kept = kept_single (needed (machine_of t)) (get_or (made t e g i) 0 d) d w (subst (λ ss. w < length (keep (needed (machine_of t)) ss)) same (omega (arith, size))) in
        ap (λ ss. get_or (keep (needed (machine_of t)) ss) w d) same ∙ kept.1 ∙ first_segmented e i d g l p ∙ ap (λ w. slot_sequent t (slot_at e g i w)) (sym kept.0)

    -- and of the witnesses
    witness_kept : (w : ℕ) → w < slot_count t e witness_group i
        → get_or (keep (needed (machine_of t)) (made t e witness_group i)) w d ≡ slot_sequent t (slot_at e witness_group i w)
    unfolding made keep goal_of
    witness_kept w k = by_test (divides ((machine_of t).tree (t.c i))) refl
      where
        noted : divisions t (t.c i) ≡ one_if (divides ((machine_of t).tree (t.c i)))
        noted = witness_divisions t ok e i hi (omega arith)

        size : slot_count t e witness_group i ≡ one_if (divides ((machine_of t).tree (t.c i))) + 1
        size = witness_count t ok e i (omega arith) ∙ ap (λ n. n + 1) noted

        place : (b c : Bool) → divides ((machine_of t).tree (t.c i)) ≡ b → eqb w (one_if b) ≡ c → is_wfis t witness_group i w ≡ c
        place b c p q = ap (eqb w) (noted ∙ ap one_if p) ∙ q

        two : (w : ℕ) → w < 2 → ((c : Bool) → eqb w 1 ≡ c → of_witness e i d c ≡ slot_sequent t (slot_at e witness_group i w))
            → get_or (of_witness e i d false ∷ (of_witness e i d true ∷ [])) w d ≡ slot_sequent t (slot_at e witness_group i w)
        two zero h f = f false refl
        two (suc zero) h f = f true refl
        two (suc (suc w)) h f = absurd (omega arith)

        one : (w : ℕ) → w < 1 → ((c : Bool) → eqb w 0 ≡ c → of_witness e i d c ≡ slot_sequent t (slot_at e witness_group i w))
            → get_or (of_witness e i d true ∷ []) w d ≡ slot_sequent t (slot_at e witness_group i w)
        one zero h f = f true refl
        one (suc w) h f = absurd (omega arith)

        by_test : (b : Bool) → divides ((machine_of t).tree (t.c i)) ≡ b
            → get_or (pick b (of_witness e i d false ∷ (of_witness e i d true ∷ [])) (of_witness e i d true ∷ [])) w d ≡ slot_sequent t (slot_at e witness_group i w)
        by_test true p = two w (omega (arith, size, ap one_if p)) (λ c q. witness_segmented e i d w c (place true c p q))
        by_test false p = one w (omega (arith, size, ap one_if p)) (λ c q. witness_segmented e i d w c (place false c p q))

    -- the w-th sequent that is kept of a slot is made of its segments
    pub slot_segmented : (g w : ℕ) → g < groups → w < slot_count t e g i
        → get_or (keep (needed (machine_of t)) (made t e g i)) w d ≡ slot_sequent t (slot_at e g i w)
    slot_segmented g w l k = by_test (eqb g witness_group) refl
      where
        by_test : (b : Bool) → eqb g witness_group ≡ b → get_or (keep (needed (machine_of t)) (made t e g i)) w d ≡ slot_sequent t (slot_at e g i w)
        by_test true p =
            let same = eqb-true g witness_group p in
            subst (λ g. get_or (keep (needed (machine_of t)) (made t e g i)) w d ≡ slot_sequent t (slot_at e g i w)) (sym same)
            (witness_kept w (subst (λ g. w < slot_count t e g i) same k))
        by_test false p = single_segmented g w l p k

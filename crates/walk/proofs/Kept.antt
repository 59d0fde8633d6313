-- What the list keeps of a slot's sequents is as many as the slot counts, in a table that meets every rule: a formula's own note says whether it divides, since every
-- root is a node, and the sets of an event and an invariant meet where the event assigns what the invariant mentions, since every identifier is one of 1 to 64.
use Prim.Native.Nat.{ℕ, ◌+◌, ◌≤◌, ◌<◌}
use mathlib.Core.Path.{◌≡◌, refl, sym, ap, ap₂, ◌∙◌, subst}
use mathlib.Core.Bool.{Bool, true, false, true≢false, not, ◌&&◌, ◌||◌}
use mathlib.Core.List.{List, [], ◌∷◌}
use native.Mathlib.Omega.{arith}
use lib.Dec.{T, ltb, eqb}
use lib.ListN.{length}
use borrow.Author.Tests.{ltb-true, ltb-false, eqb-true}
use Rattle.lists.specs.Choice.{pick}
use Rattle.lists.specs.All.{All, all_nil, all_cons}
use Rattle.lists.specs.Below.{one_if, some_below, first, numbers, keep}
use Rattle.lists.specs.Different.{some_of}
use Rattle.lists.proofs.All.{all_at, all_imp}
use Rattle.lists.proofs.Below.{numbers_in, some_passes, some_fails}
use Rattle.lists.proofs.Different.{some_same}
use Rattle.lists.proofs.First.{Least, first_least}
use Rattle.sets.specs.Set.{Identifier}
use Rattle.formula.specs.Identifiers.{identifiers, divides}
use Rattle.table.specs.Rows.{Rows, tagged, count, named}
use Rattle.table.proofs.Sections.{named_bounds}
use Rattle.machine.specs.Machine.{unassigned, becomes_equal, becomes_such_that}
use Rattle.machine.specs.Described.{tree_of, sets, action_of, machine_of}
use Rattle.sequent.specs.Entry.{Entry, defined, primed, moves, decreases, not_increased, unchanged}
use Rattle.sequent.specs.Sequent.{Sequent, sequent, WD, INV, SIM, VAR}
use Rattle.sequent.specs.Required.{keeps_invariants}
use Rattle.sequent.specs.Listed.{is_assigned as assigns, witness_sequents, touched, needed_goal, needed}
use Rattle.rules.proofs.Obeys.{Obeys}
use Rattle.rules.proofs.Full.{few_nodes, few_events}
use Rattle.rules.proofs.Mentioned.{identifier_limit_lem, node_identifiers}
use Rattle.rules.proofs.References.{root_tag, root_of, root_row_lem}
use Rattle.nodes.specs.Notes.{noted_tree, touches}
use Rattle.nodes.proofs.Touched.{noted_tree_lem, touches_some}
use Rattle.select.specs.declared.Selection.{Selection}
use Rattle.select.specs.declared.Selection.TheVariants.{None, Tagged, OfEvent, Assigned}
use Rattle.select.specs.declared.Each.TheVariants.{One, Touched}
use Rattle.select.specs.Selection.{variable_at, action_row, is_assigned, selects}
use Rattle.select.specs.Each.{divisions, weight, count_at}
use Rattle.select.proofs.Selected.{left_true}
use Rattle.events.specs.Events.{is_abstract, is_initial, is_refining, is_new, is_convergent, matched_by, own_kind, own_invariant_tag}
use Rattle.groups.specs.Groups.{groups, witness_group, group_at, group_rows, invariant_each}
use Rattle.groups.proofs.Groups.{no_group}
use Rattle.walk.specs.Slots.{slot_count}
use Rattle.walk.proofs.Groups.{role_of, witness_of, one, made, slot, by_role}

right_true : (p q : Bool) → p && q ≡ true → q ≡ true
right_true true q e = e
right_true false q e = absurd (true≢false (sym e))

-- what is kept of one sequent, and of a witness's two, of which the second is
pub kept_one : (P : Sequent → Bool) (s : Sequent) → length (keep P (s ∷ [])) ≡ one_if (P s)
unfolding keep
kept_one P s = go (P s)
  where
    go : (b : Bool) → length (pick b (s ∷ []) []) ≡ one_if b
    go true = refl
    go false = refl

kept_two : (P : Sequent → Bool) (s u : Sequent) → P u ≡ true → length (keep P (s ∷ (u ∷ []))) ≡ one_if (P s) + 1
unfolding keep
kept_two P s u p = ap (λ b. length (pick (P s) (s ∷ pick b (u ∷ []) []) (pick b (u ∷ []) []))) p ∙ go (P s)
  where
    go : (b : Bool) → length (pick b (s ∷ (u ∷ [])) (u ∷ [])) ≡ one_if b + 1
    go true = refl
    go false = refl

module _ (t : Rows) where
  -- rows of no event, and of an event
  chosen_rows : (b : Bool) (s : Selection) (i : ℕ) → selects t (pick b s None) i ≡ true → selects t s i ≡ true
  chosen_rows true s i p = p
  chosen_rows false s i p = absurd (true≢false (sym p))

  other_rows : (b : Bool) (s : Selection) (i : ℕ) → selects t (pick b None s) i ≡ true → selects t s i ≡ true
  other_rows true s i p = absurd (true≢false (sym p))
  other_rows false s i p = p

  -- an action is there where a row sets the variable
  assigned_row : (e x : ℕ) → assigns (action_of t e x) ≡ is_assigned t e x
  unfolding action_of action_row
  assigned_row e x = go (is_assigned t e x) (tagged t 51 (action_row t e x))
    where
      r : ℕ
      r = t.c (action_row t e x)

      go : (b d : Bool) → assigns (pick b (pick d (becomes_equal r) (becomes_such_that r)) unassigned) ≡ b
      go true true = refl
      go true false = refl
      go false d = refl

  assigned_some : (e x : ℕ) → is_assigned t e x ≡ some_below (sets t e x) t.size
  unfolding action_row
  assigned_some e x = go (ltb (first (sets t e x) t.size 0) t.size) refl
    where
      found : Least (sets t e x) t.size 0 (first (sets t e x) t.size 0)
      found = first_least (sets t e x) t.size 0

      go : (b : Bool) → ltb (first (sets t e x) t.size 0) t.size ≡ b → b ≡ some_below (sets t e x) t.size
      go true p =
          let h = ltb-true (first (sets t e x) t.size 0) t.size p in
          sym (some_passes (sets t e x) t.size (first (sets t e x) t.size 0) h (found.passes (omega arith)))
      go false p =
          let h = ltb-false (first (sets t e x) t.size 0) t.size p in
          sym (some_fails (sets t e x) t.size (λ j l. found.before j (omega arith) (omega arith)))

  -- the roles that keep all
  keeps_role : (e : ℕ) → keeps_invariants (role_of t e) ≡ (is_initial t e || is_refining t e)
  keeps_role e = by_role t e (λ a z o v r. keeps_invariants r ≡ (z || (not a && o))) (λ o v. refl) (λ o v. refl) refl refl refl refl

  module _ (ok : Obeys t) where
    -- the formula of a root is noted
    node_noted : (n : ℕ) → T (named t 20 n) → noted_tree t n ≡ tree_of t n
    node_noted n h = let b = named_bounds t 20 n h in noted_tree_lem t n (omega (arith, b.1, few_nodes t ok.full)) b.1

    pub row_noted : (k i : ℕ) → i < t.size → tagged t k i ≡ true → T (root_tag k) → noted_tree t (root_of t k i) ≡ tree_of t (root_of t k i)
    row_noted k i h p r = node_noted (root_of t k i) (root_row_lem t ok k i h (eqb-true (t.tag i) k p) r).1

    -- WD of a formula
    defined_kept : (e r : ℕ) (hs : List Entry) → noted_tree t r ≡ tree_of t r
        → length (keep (needed (machine_of t)) (one WD e r hs (defined r))) ≡ divisions t r
    unfolding machine_of
    defined_kept e r hs p = kept_one (needed (machine_of t)) (sequent WD e r hs (defined r)) ∙ ap (λ f. one_if (divides f)) (sym p)

    -- the root of an action
    action_noted_lem : (e x : ℕ) → is_assigned t e x ≡ true → noted_tree t (t.c (action_row t e x)) ≡ tree_of t (t.c (action_row t e x))
    unfolding action_row
    action_noted_lem e x p = by_tag (tagged t 51 r) refl
      where
        r : ℕ
        r = first (sets t e x) t.size 0

        inside : r < t.size
        inside = ltb-true r t.size p

        set : sets t e x r ≡ true
        set = (first_least (sets t e x) t.size 0).passes (omega (arith, inside))

        second : (b d : Bool) → b ≡ false → (b || d) ≡ true → d ≡ true
        second true d q s = absurd (true≢false q)
        second false d q s = s

        by_tag : (b : Bool) → tagged t 51 r ≡ b → noted_tree t (t.c r) ≡ tree_of t (t.c r)
        by_tag true q = row_noted 51 r inside q tt
        by_tag false q = row_noted 52 r inside (second (tagged t 51 r) (tagged t 52 r) q (left_true (tagged t 51 r || tagged t 52 r) _ set)) tt

    -- INV: the event assigns an identifier of the invariant where their sets meet
    touched_noted : (e n : ℕ) → e ≤ count t 40 → T (named t 20 n) → touched (machine_of t) e n ≡ touches t e n
    unfolding machine_of
    touched_noted e n h q =
        let noted = node_noted n q in
        let few = all_imp (λ x s. identifier_limit_lem t ok x s) (node_identifiers t ok n q) in
        let limit : e ≤ 32 = omega (arith, few_events t ok.full) in
        some_same _ _ (λ x. assigned_row e x ∙ assigned_some e x) (identifiers (tree_of t n))
        ∙ ap (λ f. some_of (λ x. some_below (sets t e x) t.size) (identifiers f)) (sym noted)
        ∙ sym (touches_some t e n limit (subst (λ f. All Identifier (identifiers f)) (sym noted) few))

    invariant_kept : (e i : ℕ) (hs : List Entry) → e ≤ count t 40 → T (named t 20 (t.a i))
        → length (keep (needed (machine_of t)) (one INV e (t.a i) hs (primed (t.a i)))) ≡ weight t (invariant_each t e) i
    invariant_kept e i hs h q =
        kept_one (needed (machine_of t)) (sequent INV e (t.a i) hs (primed (t.a i)))
        ∙ ap₂ (λ a b. one_if (a || b)) (keeps_role e) (touched_noted e (t.a i) h q)
        ∙ go (is_initial t e || is_refining t e)
      where
        go : (b : Bool) → one_if (b || touches t e (t.a i)) ≡ weight t (pick b One (Touched e)) i
        go true = refl
        go false = refl

    -- the tag of the own invariants names a root in column a
    own_named : (e i : ℕ) → i < t.size → tagged t (own_invariant_tag t e) i ≡ true → T (named t 20 (t.a i))
    own_named e i h p = go (is_abstract t e) p
      where
        go : (b : Bool) → tagged t (pick b 31 32) i ≡ true → T (named t 20 (t.a i))
        go true q = (root_row_lem t ok 31 i h (eqb-true (t.tag i) 31 q) tt).1
        go false q = (root_row_lem t ok 32 i h (eqb-true (t.tag i) 32 q) tt).1

    -- a witness's two
    witness_kept : (e i : ℕ) → noted_tree t (t.c i) ≡ tree_of t (t.c i)
        → length (keep (needed (machine_of t)) (witness_sequents (machine_of t) (role_of t e) e (witness_of t i))) ≡ divisions t (t.c i) + 1
    unfolding machine_of
    witness_kept e i p = kept_two (needed (machine_of t)) _ _ refl ∙ ap (λ f. one_if (divides f) + 1) (sym p)

    -- one that is needed, whichever its goal
    either_kept : (k e x : ℕ) (hs : List Entry) (b : Bool) (g h : Entry) → needed_goal (machine_of t) e g ≡ true → needed_goal (machine_of t) e h ≡ true
        → length (keep (needed (machine_of t)) (one k e x hs (pick b g h))) ≡ 1
    either_kept k e x hs true g h p q = kept_one (needed (machine_of t)) (sequent k e x hs g) ∙ ap one_if p
    either_kept k e x hs false g h p q = kept_one (needed (machine_of t)) (sequent k e x hs h) ∙ ap one_if q

    abbrev Counted : ℕ → ℕ → ℕ → Type 0
    Counted e i g = selects t (group_rows t e g) i ≡ true → length (keep (needed (machine_of t)) (made t e g i)) ≡ weight t (group_at t e g).each i

    groups_kept : (e i : ℕ) → e ≤ count t 40 → i < t.size → All (Counted e i) (numbers groups 0)
    unfolding made group_at numbers
    groups_kept e i h l =
        all_cons (λ p. defined_kept e (t.a i) _ (row_noted 30 i l (chosen_rows (eqb e 0) (Tagged 30) i p) tt))
        (all_cons (λ p. defined_kept e (t.a i) _ (row_noted 31 i l (chosen_rows (eqb e 0) (Tagged 31) i p) tt))
        (all_cons (λ p. defined_kept e (t.a i) _ (row_noted 32 i l (chosen_rows (eqb e 0) (Tagged 32) i p) tt))
        (all_cons (λ p. defined_kept e (t.a i) _ (row_noted 70 i l (chosen_rows (eqb e 0) (Tagged 70) i p) tt))
        (all_cons (λ p. defined_kept e (t.b i) _ (row_noted 50 i l (left_true (tagged t 50 i) _ (other_rows (eqb e 0) (OfEvent 50 e) i p)) tt))
        (all_cons (λ p. defined_kept e (t.c (action_row t e (i + 1))) _ (action_noted_lem e (i + 1) (right_true (variable_at t (own_kind t e) i) (is_assigned t e (i + 1)) (other_rows (eqb e 0) (Assigned (own_kind t e) e) i p))))
        (all_cons (λ p. kept_one (needed (machine_of t)) _)
        (all_cons (λ p. witness_kept e i (row_noted 60 i l (left_true (tagged t 60 i) _ (other_rows (eqb e 0) (OfEvent 60 e) i p)) tt))
        (all_cons (λ p. kept_one (needed (machine_of t)) _)
        (all_cons (λ p. either_kept SIM e (i + 1) _ (is_new t e) (unchanged (i + 1)) (moves (matched_by t e) (i + 1)) refl refl)
        (all_cons (λ p. invariant_kept e i _ h (own_named e i l (other_rows (eqb e 0) (Tagged (own_invariant_tag t e)) i p)))
        (all_cons (λ p. kept_one (needed (machine_of t)) _)
        (all_cons (λ p. either_kept VAR e (t.a i) _ (is_convergent t e) (decreases (t.a i)) (not_increased (t.a i)) refl refl) all_nil))))))))))))

    -- what the list keeps of a slot
    pub kept_count : (e g i : ℕ) → e ≤ count t 40 → i < t.size → length (keep (needed (machine_of t)) (slot t e g i)) ≡ slot_count t e g i
    unfolding slot count_at keep
    kept_count e g i h l = by_test (selects t (group_rows t e g) i) refl
      where
        by_group : (b : Bool) → ltb g groups ≡ b → Counted e i g
        by_group true q = all_at (groups_kept e i h l) (numbers_in groups 0 g (omega arith) (omega (arith, ltb-true g groups q)))
        by_group false q = λ p. absurd (true≢false (sym p ∙ ap (λ r. selects t r i) (no_group t e g (ltb-false g groups q))))

        by_test : (b : Bool) → selects t (group_rows t e g) i ≡ b
            → length (keep (needed (machine_of t)) (pick b (made t e g i) [])) ≡ pick b (weight t (group_at t e g).each i) 0
        by_test true p = by_group (ltb g groups) refl p
        by_test false p = refl

    -- a witness that is counted: whether it divides, and its sequents
    abbrev witness_of_event : ℕ → ℕ → Bool
    witness_of_event e i = selects t (group_rows t e witness_group) i

    pub witness_count : (e i : ℕ) → 0 < slot_count t e witness_group i → slot_count t e witness_group i ≡ divisions t (t.c i) + 1
    unfolding count_at group_at
    witness_count e i h = go (witness_of_event e i) h
      where
        go : (b : Bool) → 0 < pick b (divisions t (t.c i) + 1) 0 → pick b (divisions t (t.c i) + 1) 0 ≡ divisions t (t.c i) + 1
        go true k = refl
        go false k = absurd (omega arith)

    pub witness_divisions : (e i : ℕ) → i < t.size → 0 < slot_count t e witness_group i → divisions t (t.c i) ≡ one_if (divides ((machine_of t).tree (t.c i)))
    unfolding count_at group_at machine_of
    witness_divisions e i l h = go (witness_of_event e i) refl h
      where
        go : (b : Bool) → witness_of_event e i ≡ b → 0 < pick b (divisions t (t.c i) + 1) 0 → divisions t (t.c i) ≡ one_if (divides (tree_of t (t.c i)))
        go true p k = ap (λ f. one_if (divides f)) (row_noted 60 i l (left_true (tagged t 60 i) _ (other_rows (eqb e 0) (OfEvent 60 e) i p)) tt)
        go false p k = absurd (omega arith)

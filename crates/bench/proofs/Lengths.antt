-- The lengths of lists that are pressed on: what is made is as long as the state, and a list that is longer than a table may have identifiers is refused whatever it holds.
use Prim.Native.Nat.{ℕ, ◌≤◌, ◌<◌}
use mathlib.Core.Path.{◌≡◌, refl, sym, ap, ◌∙◌}
use mathlib.Core.Bool.{Bool, true, false, true≢false, ◌&&◌}
use mathlib.Core.List.{List}
use native.Mathlib.Omega.{arith}
use lib.Dec.{T, eqb, eqb→eq}
use lib.IntN.{ℤ}
use lib.ListN.{length}
use borrow.Author.Tests.{eq-eqb, ne_eqb}
use Rattle.std.specs.Prelude.{Result, Ok, Err}
use Rattle.lists.specs.Choice.{pick}
use Rattle.formula.proofs.Truth.{and_split, and_join, true_test, test_true, eq→eqb}
use Rattle.table.specs.Rows.{Rows, count}
use Rattle.rules.specs.declared.Refusal.{Refusal}
use Rattle.rules.specs.Decoded.{decoded}
use Rattle.rules.specs.Verdict.{verdict as verdict_of}
use Rattle.rules.proofs.Full.{few_identifiers}
use Rattle.rules.proofs.Accepted.{accepted_none, none_obeys}
use Rattle.recording.specs.Lines.{lines}
use Rattle.recording.specs.Replay.{Values}
use Rattle.recording.specs.Faults.{no_fault, log_fault}
use Rattle.bench.specs.State.{is_state, IsState, updated}
use Rattle.bench.specs.Choice.{Choice, chosen, none, choice}
use Rattle.bench.specs.Press.{Outcome, made, refused, completed, press_fault, press_choice, at_hand, press_on, outcome_by, outcome}
use Rattle.bench.proofs.State.{state_right, right_state, updated_size}

pub made_never : {n row : ℕ} {zs : List ℤ} → refused n row ≡ made zs → ⊥
made_never e = true≢false (ap (λ (o : Outcome). elim o [ made zs ↦ false | refused n row ↦ true ]) e)

pub made_is : {zs ys : List ℤ} → made zs ≡ made ys → zs ≡ ys
made_is {zs} e = ap (λ (o : Outcome). elim o [ made us ↦ us | refused n row ↦ zs ]) e

module _ (t : Rows) (step : List ℕ) (zs : List ℤ) (types : List ℕ) (room : ℕ) where
  -- what a state that was pressed on is
  pub record Pressing (ys : List ℤ) : Type 0 where
    pub right : IsState t zs types
    pub roomy : room ≡ count t 10
    pub event : ℕ
    pub values : Values
    pub chooses : choice t (lines step) (at_hand t zs) ≡ chosen event values
    pub faultless : press_fault t event (completed t event values).present (completed t event values).after ≡ no_fault
    pub makes : ys ≡ updated t (completed t event values).after zs

  pub made_pressing : (ys : List ℤ) → press_on t step zs types room ≡ made ys → Pressing ys
  unfolding press_on
  made_pressing ys h = by_test (is_state t zs types && eqb room (count t 10)) refl h
    where
      by_fault : T (is_state t zs types && eqb room (count t 10)) → (e : ℕ) (vs : Values) → choice t (lines step) (at_hand t zs) ≡ chosen e vs → (b : Bool)
          → eqb (press_fault t e (completed t e vs).present (completed t e vs).after) no_fault ≡ b
          → pick b (made (updated t (completed t e vs).after zs)) (refused (press_fault t e (completed t e vs).present (completed t e vs).after) 0) ≡ made ys → Pressing ys
      by_fault g e vs c true q h =
          let p = and_split (is_state t zs types) (eqb room (count t 10)) g in
          record {
            right = state_right t zs types (test_true _ p.0);
            roomy = eqb→eq room (count t 10) p.1;
            event = e;
            values = vs;
            chooses = c;
            faultless = eqb→eq _ no_fault (true_test _ q);
            makes = sym (made_is h);
          }
      by_fault g e vs c false q h = absurd (made_never h)

      by_choice : T (is_state t zs types && eqb room (count t 10)) → (c : Choice) → choice t (lines step) (at_hand t zs) ≡ c → press_choice t zs c ≡ made ys → Pressing ys
      by_choice g none q h = absurd (made_never h)
      by_choice g (chosen e vs) q h = by_fault g e vs q (eqb (press_fault t e (completed t e vs).present (completed t e vs).after) no_fault) refl h

      by_test : (b : Bool) → (is_state t zs types && eqb room (count t 10)) ≡ b → pick b (press_choice t zs (choice t (lines step) (at_hand t zs))) (refused log_fault 0) ≡ made ys → Pressing ys
      by_test true g h = by_choice (true_test _ g) (choice t (lines step) (at_hand t zs)) refl h
      by_test false g h = absurd (made_never h)

  -- the other way round
  pub pressing_made : (ys : List ℤ) → Pressing ys → press_on t step zs types room ≡ made ys
  unfolding press_on
  pressing_made ys p =
      let e = p.event in
      let us : Values = completed t e p.values in
      let test : (is_state t zs types && eqb room (count t 10)) ≡ true =
      test_true _ (and_join (is_state t zs types) (eqb room (count t 10)) (true_test _ (right_state t zs types p.right)) (eq→eqb room (count t 10) p.roomy)) in
      ap (λ b. pick b (press_choice t zs (choice t (lines step) (at_hand t zs))) (refused log_fault 0)) test ∙ ap (press_choice t zs) p.chooses
      ∙ ap (λ b. pick b (made (updated t us.after zs)) (refused (press_fault t e us.present us.after) 0)) (eq-eqb (press_fault t e us.present us.after) no_fault p.faultless)
      ∙ ap made (sym p.makes)

  -- lists or room of another length
  pub refused_where : (is_state t zs types && eqb room (count t 10)) ≡ false → press_on t step zs types room ≡ refused log_fault 0
  unfolding press_on
  refused_where h = ap (λ b. pick b (press_choice t zs (choice t (lines step) (at_hand t zs))) (refused log_fault 0)) h

  pub many_refused : count t 10 ≤ 64 → 64 < length zs → press_on t step zs types room ≡ refused log_fault 0
  many_refused few h = refused_where (go (is_state t zs types) refl)
    where
      go : (b : Bool) → is_state t zs types ≡ b → (b && eqb room (count t 10)) ≡ false
      go true s = absurd (let z = (state_right t zs types s).size in omega (arith, few, h, z))
      go false s = refl

  pub room_refused : count t 10 ≤ 64 → 64 < room → press_on t step zs types room ≡ refused log_fault 0
  room_refused few h = refused_where (ap (λ b. is_state t zs types && b) (ne_eqb room (count t 10) (λ z. omega (arith, few, h, z))) ∙ and_false (is_state t zs types))
    where
      and_false : (b : Bool) → (b && false) ≡ false
      and_false true = refl
      and_false false = refl

-- ---- over bytes
accepted_few : (table : List ℕ) (n : ℕ) → verdict_of table ≡ Ok n → count (decoded table) 10 ≤ 64
accepted_few table n a = few_identifiers (decoded table) (none_obeys table (accepted_none table n a).0).full

module _ (table step : List ℕ) where
  -- a made state is one of an accepted table
  pub outcome_made : (zs : List ℤ) (types : List ℕ) (room : ℕ) (ys : List ℤ) → outcome table step zs types room ≡ made ys
      → (n : ℕ) × (verdict_of table ≡ Ok n) × (press_on (decoded table) step zs types room ≡ made ys)
  unfolding outcome
  outcome_made zs types room ys h = go (verdict_of table) refl h
    where
      go : (v : Result ℕ Refusal) → verdict_of table ≡ v → outcome_by v (press_on (decoded table) step zs types room) ≡ made ys → (n : ℕ) × (verdict_of table ≡ Ok n) × (press_on (decoded table) step zs types room ≡ made ys)
      go (Ok n) a h = (n, a, h)
      go (Err r) a h = absurd (made_never h)

  pub outcome_length : (zs : List ℤ) (types : List ℕ) (room : ℕ) (ys : List ℤ) → outcome table step zs types room ≡ made ys
      → (length ys ≡ length zs) × (length types ≡ length zs) × (room ≡ length zs) × (length zs ≤ 64)
  outcome_length zs types room ys h =
      let (n, a, m) = outcome_made zs types room ys h in
      let t = decoded table in
      let p = made_pressing t step zs types room ys m in
      let few = accepted_few table n a in
      let size = p.right.size in
      (ap length p.makes ∙ updated_size t (completed t p.event p.values).after zs, p.right.sorts ∙ sym size, p.roomy ∙ sym size, omega (arith, size, few))

  either : (v : Result ℕ Refusal) → verdict_of table ≡ v → (o p : Outcome) → ((n : ℕ) → verdict_of table ≡ Ok n → (o ≡ refused log_fault 0) × (p ≡ refused log_fault 0)) → outcome_by v o ≡ outcome_by v p
  either (Ok n) a o p f = (f n a).0 ∙ sym (f n a).1
  either (Err r) a o p f = refl

  -- beyond 64 members a list is of another length whatever it holds
  pub outcome_long : (zs zs' : List ℤ) (types types' : List ℕ) (room room' : ℕ) → 64 < length zs → 64 < length zs' → outcome table step zs types room ≡ outcome table step zs' types' room'
  unfolding outcome
  outcome_long zs zs' types types' room room' h k =
      let t = decoded table in
      either (verdict_of table) refl (press_on t step zs types room) (press_on t step zs' types' room')
      (λ n a. (many_refused t step zs types room (accepted_few table n a) h, many_refused t step zs' types' room' (accepted_few table n a) k))

  pub outcome_room : (zs : List ℤ) (types : List ℕ) (room room' : ℕ) → 64 < room → 64 < room' → outcome table step zs types room ≡ outcome table step zs types room'
  unfolding outcome
  outcome_room zs types room room' h k =
      let t = decoded table in
      either (verdict_of table) refl (press_on t step zs types room) (press_on t step zs types room')
      (λ n a. (room_refused t step zs types room (accepted_few table n a) h, room_refused t step zs types room' (accepted_few table n a) k))

-- Rows counted behind so many others: the same reply, with a later row. And a refusal's row is at most one behind the last.
use Prim.Native.Nat.{ℕ, zero, suc, ◌+◌, ◌-◌, ◌≤◌}
use mathlib.Core.Path.{◌≡◌, refl, sym, ap, ◌∙◌}
use mathlib.Core.Bool.{Bool, true, false}
use mathlib.Core.List.{List, [], ◌∷◌}
use native.Mathlib.Omega.{arith}
use borrow.Author.Tests.{ne_eqb}
use lib.Dec.{eqb}
use lib.ListN.{length}
use Rattle.std.specs.Prelude.{Result, Ok, Err}
use Rattle.lists.specs.Choice.{pick}
use Rattle.row.specs.Reading.{Line}
use Rattle.std.specs.Prelude.{Some, None}
use Rattle.formula.specs.Values.{whole_number}
use Rattle.table.specs.Rows.{Rows}
use Rattle.rules.specs.declared.Refusal.{Refusal}
use Rattle.rules.specs.Refusal.{refused}
use Rattle.recording.specs.Rows.{logged, is_step_row, is_value_row}
use Rattle.recording.specs.Faults.{no_fault, log_fault, step_fault}
use Rattle.recording.specs.Replay.{Values, Found, found, bad, store, read_values, moved, judged, replay_from}
use Rattle.recording.proofs.Enough.{read_count}
use Rattle.steps.specs.Parts.{later_row, replay_rest}

-- ---- a later row
unfoldable pub later : ℕ → Result ℕ Refusal → Result ℕ Refusal
later k (Ok steps) = Ok steps
later k (Err r) = Err (refused r.number (later_row k r.row))

later_some : (k i : ℕ) → 1 ≤ i → later_row k i ≡ k + i
later_some k i h = ap (λ b. pick b 0 (k + i)) (ne_eqb i 0 (λ e. omega (arith, e, h)))

later_found : ℕ → Found → Found
later_found k (found vs ls) = found vs ls
later_found k (bad row) = bad (later_row k row)

module _ (t : Rows) (k : ℕ) where
  read_later : (e : ℕ) (xs : List ℕ) (i : ℕ) (ls : List Line) (vs : Values) → 1 ≤ i → read_values t e xs (k + i) ls vs ≡ later_found k (read_values t e xs i ls vs)
  unfolding read_values later_found
  read_later e [] i ls vs h = refl
  read_later e (x ∷ xs) i [] vs h = refl
  read_later e (x ∷ xs) i (None ∷ ls) vs h = ap bad (sym (later_some k i h))
  read_later e (x ∷ xs) i (Some r ∷ ls) vs h =
      let ws = store t e x (whole_number r.b) vs in
      let z : k + i + 1 ≡ k + (i + 1) = omega arith in
      go (ap (λ i. read_values t e xs i ls ws) z ∙ read_later e xs (i + 1) ls ws (omega arith)) (is_value_row t x r)
    where
      ws : Values
      ws = store t e x (whole_number r.b) vs

      go : read_values t e xs (k + i + 1) ls ws ≡ later_found k (read_values t e xs (i + 1) ls ws) → (b : Bool) → pick b (read_values t e xs (k + i + 1) ls ws) (bad (k + i)) ≡ later_found k (pick b (read_values t e xs (i + 1) ls ws) (bad i))
      go next true = next
      go next false = ap bad (sym (later_some k i h))

  judged_later : (i e : ℕ) → 1 ≤ i → (f : Found) (next next' : List Line → Values → Result ℕ Refusal) → ((rest : List Line) (ws : Values) → next' rest ws ≡ later k (next rest ws))
      → judged t (k + i) e (later_found k f) next' ≡ later k (judged t i e f next)
  unfolding later_found later
  judged_later i e h (bad row) next next' same = refl
  judged_later i e h (found vs ls) next next' same = go (eqb (step_fault t e vs.present vs.after) no_fault)
    where
      fault : ℕ
      fault = step_fault t e vs.present vs.after

      go : (b : Bool) → pick b (next' ls (moved t vs)) (Err (refused fault (k + i))) ≡ later k (pick b (next ls (moved t vs)) (Err (refused fault i)))
      go true = same ls (moved t vs)
      go false = ap (λ r. Err (refused fault r)) (sym (later_some k i h))

  from_later : (f n i : ℕ) (ls : List Line) (vs : Values) → 1 ≤ i → replay_from t f n (k + i) ls vs ≡ later k (replay_from t f n i ls vs)
  unfolding replay_from later
  from_later zero n i ls vs h = refl
  from_later (suc f) n i [] vs h = go (eqb n 0)
    where
      go : (b : Bool) → pick b (Err (refused log_fault 0)) (Ok (n - 1)) ≡ later k (pick b (Err (refused log_fault 0)) (Ok (n - 1)))
      go true = refl
      go false = refl
  from_later (suc f) n i (None ∷ ls) vs h = ap (λ r. Err (refused log_fault r)) (sym (later_some k i h))
  from_later (suc f) n i (Some r ∷ ls) vs h =
      go (λ rest ws.
      let rows = length (logged t r.a) in
      let z : k + i + 1 + rows ≡ k + (i + 1 + rows) = omega arith in
      ap (λ i. replay_from t f (n + 1) i rest ws) z ∙ from_later f (n + 1) (i + 1 + rows) rest ws (omega arith)) (is_step_row t (eqb n 0) r)
    where
      rows : ℕ
      rows = length (logged t r.a)

      Next : Type 0
      Next = (rest : List Line) (ws : Values) → replay_from t f (n + 1) (k + i + 1 + rows) rest ws ≡ later k (replay_from t f (n + 1) (i + 1 + rows) rest ws)

      taken : Next → judged t (k + i) r.a (read_values t r.a (logged t r.a) (k + i + 1) ls vs) (λ rest ws. replay_from t f (n + 1) (k + i + 1 + rows) rest ws)
          ≡ later k (judged t i r.a (read_values t r.a (logged t r.a) (i + 1) ls vs) (λ rest ws. replay_from t f (n + 1) (i + 1 + rows) rest ws))
      taken next =
          let z : k + i + 1 ≡ k + (i + 1) = omega arith in
          ap (λ (g : Found). judged t (k + i) r.a g (λ rest ws. replay_from t f (n + 1) (k + i + 1 + rows) rest ws))
          (ap (λ j. read_values t r.a (logged t r.a) j ls vs) z ∙ read_later r.a (logged t r.a) (i + 1) ls vs (omega arith))
          ∙ judged_later i r.a h (read_values t r.a (logged t r.a) (i + 1) ls vs) (λ rest ws. replay_from t f (n + 1) (i + 1 + rows) rest ws)
          (λ rest ws. replay_from t f (n + 1) (k + i + 1 + rows) rest ws) next

      go : Next → (b : Bool) → pick b (judged t (k + i) r.a (read_values t r.a (logged t r.a) (k + i + 1) ls vs) (λ rest ws. replay_from t f (n + 1) (k + i + 1 + rows) rest ws)) (Err (refused log_fault (k + i)))
          ≡ later k (pick b (judged t i r.a (read_values t r.a (logged t r.a) (i + 1) ls vs) (λ rest ws. replay_from t f (n + 1) (i + 1 + rows) rest ws)) (Err (refused log_fault i)))
      go next true = taken next
      go next false = ap (λ r. Err (refused log_fault r)) (sym (later_some k i h))

  pub rest_later : (n i : ℕ) (ls : List Line) (vs : Values) → 1 ≤ i → replay_rest t n (k + i) ls vs ≡ later k (replay_rest t n i ls vs)
  unfolding replay_rest
  rest_later n i ls vs h = from_later (suc (length ls)) n i ls vs h

-- ---- how late a row can be
row_of : Result ℕ Refusal → ℕ
row_of (Ok steps) = 0
row_of (Err r) = r.row

bad_of : Found → ℕ
bad_of (found vs ls) = 0
bad_of (bad row) = row

module _ (t : Rows) where
  bad_within : (e : ℕ) (xs : List ℕ) (i : ℕ) (ls : List Line) (vs : Values) → bad_of (read_values t e xs i ls vs) ≤ i + length ls
  unfolding read_values bad_of
  bad_within e [] i ls vs = omega arith
  bad_within e (x ∷ xs) i [] vs = omega arith
  bad_within e (x ∷ xs) i (None ∷ ls) vs = omega arith
  bad_within e (x ∷ xs) i (Some r ∷ ls) vs = go (bad_within e xs (i + 1) ls (store t e x (whole_number r.b) vs)) (is_value_row t x r)
    where
      ws : Values
      ws = store t e x (whole_number r.b) vs

      go : bad_of (read_values t e xs (i + 1) ls ws) ≤ i + 1 + length ls → (b : Bool) → bad_of (pick b (read_values t e xs (i + 1) ls ws) (bad i)) ≤ i + suc (length ls)
      go h true = omega (arith, h)
      go h false = omega arith

  judged_within : (i e most : ℕ) → i ≤ most → (f : Found) (next : List Line → Values → Result ℕ Refusal) → bad_of f ≤ most → ((ws : Values) (rest : List Line) → f ≡ found ws rest → row_of (next rest (moved t ws)) ≤ most)
      → row_of (judged t i e f next) ≤ most
  unfolding bad_of row_of
  judged_within i e most h (bad row) next k later = k
  judged_within i e most h (found vs ls) next k later = go (eqb (step_fault t e vs.present vs.after) no_fault)
    where
      fault : ℕ
      fault = step_fault t e vs.present vs.after

      go : (b : Bool) → row_of (pick b (next ls (moved t vs)) (Err (refused fault i))) ≤ most
      go true = later vs ls refl
      go false = h

  from_within : (f n i : ℕ) (ls : List Line) (vs : Values) → row_of (replay_from t f n i ls vs) ≤ i + length ls
  unfolding replay_from row_of
  from_within zero n i ls vs = omega arith
  from_within (suc f) n i [] vs = go (eqb n 0)
    where
      go : (b : Bool) → row_of (pick b (Err (refused log_fault 0)) (Ok (n - 1))) ≤ i + 0
      go true = omega arith
      go false = omega arith
  from_within (suc f) n i (None ∷ ls) vs = omega arith
  from_within (suc f) n i (Some r ∷ ls) vs = go (λ rest ws. from_within f (n + 1) (i + 1 + length (logged t r.a)) rest ws) (is_step_row t (eqb n 0) r)
    where
      e : ℕ
      e = r.a

      step : Found
      step = read_values t e (logged t e) (i + 1) ls vs

      onward : List Line → Values → Result ℕ Refusal
      onward rest ws = replay_from t f (n + 1) (i + 1 + length (logged t e)) rest ws

      go : ((rest : List Line) (ws : Values) → row_of (onward rest ws) ≤ i + 1 + length (logged t e) + length rest) → (b : Bool)
          → row_of (pick b (judged t i e step onward) (Err (refused log_fault i))) ≤ i + suc (length ls)
      go next true = judged_within i e (i + suc (length ls)) (omega arith) step onward
          (let h = bad_within e (logged t e) (i + 1) ls vs in omega (arith, h))
          (λ ws rest q.
          let h = next rest (moved t ws) in
          let l = read_count t e (logged t e) (i + 1) ls vs ws rest q in
          omega (arith, h, l))
      go next false = omega arith

  pub rest_within : (n i : ℕ) (ls : List Line) (vs : Values) (number row : ℕ) → Err (refused number row) ≡ replay_rest t n i ls vs → row ≤ i + length ls
  unfolding replay_rest row_of
  rest_within n i ls vs number row e =
      let h = from_within (suc (length ls)) n i ls vs in
      let z : row ≡ row_of (replay_from t (suc (length ls)) n i ls vs) = ap row_of e in
      omega (arith, h, z)

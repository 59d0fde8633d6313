-- How many steps a replay may take doesn't count where it is more than the log has rows: each step has a row of its own.
use Prim.Native.Nat.{ℕ, zero, suc, ◌+◌, ◌≤◌, ◌<◌}
use mathlib.Core.Path.{◌≡◌, refl, ap}
use mathlib.Core.Bool.{Bool, true, false}
use mathlib.Core.List.{List, [], ◌∷◌}
use native.Mathlib.Omega.{arith}
use lib.Dec.{ltb, eqb}
use lib.ListN.{length, take, drop}
use Rattle.std.specs.Prelude.{Result, Err}
use Rattle.lists.specs.Choice.{pick}
use Rattle.row.specs.Row.{greatest, width, row_length}
use Rattle.row.specs.Reading.{line_at, Line}
use Rattle.std.specs.Prelude.{Some, None}
use Rattle.formula.specs.Values.{whole_number}
use Rattle.table.specs.Rows.{Rows}
use Rattle.rules.specs.declared.Refusal.{Refusal}
use Rattle.rules.specs.Refusal.{refused}
use Rattle.recording.specs.Rows.{logged, is_step_row}
use Rattle.recording.specs.Lines.{lines_to, lines}
use Rattle.recording.specs.Faults.{no_fault, log_fault, step_fault}
use Rattle.recording.specs.Replay.{Values, Found, found, bad, store, read_values, moved, judged, replay_from}
use Rattle.recording.proofs.Values.{read_first}

-- at most a row a byte
to_few : (most : ℕ) (bytes : List ℕ) → length (lines_to most bytes) ≤ most
unfolding lines_to
to_few zero bytes = omega arith
to_few (suc most) bytes = go (eqb (length bytes) 0) (ltb (length bytes) (row_length width)) (to_few most (drop (row_length width) bytes))
  where
    rest : List Line
    rest = lines_to most (drop (row_length width) bytes)

    go : (a b : Bool) → length rest ≤ most → length (pick a [] (pick b (None ∷ []) (line_at greatest width (take (row_length width) bytes) ∷ rest))) ≤ suc most
    go true b h = omega arith
    go false true h = omega arith
    go false false h = omega (arith, h)

pub lines_few : (bytes : List ℕ) → length (lines bytes) ≤ length bytes
unfolding lines
lines_few bytes = to_few (length bytes) bytes

module _ (t : Rows) where
  -- a row is read for each identifier
  pub read_count : (e : ℕ) (xs : List ℕ) (i : ℕ) (ls : List Line) (vs ws : Values) (rest : List Line) → read_values t e xs i ls vs ≡ found ws rest → length xs + length rest ≡ length ls
  unfolding read_values
  read_count e [] i ls vs ws rest h = let z : length ls ≡ length rest = ap (λ (f : Found). elim f [ found us ls ↦ length ls | bad i ↦ 0 ]) h in omega (arith, z)
  read_count e (x ∷ xs) i ls vs ws rest h =
      let f = read_first t e x xs i ls vs ws rest h in
      let k = read_count e xs (i + 1) f.others (store t e x (whole_number f.row.b) vs) ws rest f.then in
      let l = ap length f.lines in
      omega (arith, k, l)

  judged_same : (i e : ℕ) (f : Found) (next next' : List Line → Values → Result ℕ Refusal) → ((ws : Values) (rest : List Line) → f ≡ found ws rest → next rest (moved t ws) ≡ next' rest (moved t ws))
      → judged t i e f next ≡ judged t i e f next'
  judged_same i e (bad j) next next' h = refl
  judged_same i e (found ws rest) next next' h =
      ap (λ r. pick (eqb (step_fault t e ws.present ws.after) no_fault) r (Err (refused (step_fault t e ws.present ws.after) i))) (h ws rest refl)

  pub replay_enough : (f g n i : ℕ) (ls : List Line) (vs : Values) → length ls < f → length ls < g → replay_from t f n i ls vs ≡ replay_from t g n i ls vs
  unfolding replay_from
  replay_enough zero g n i ls vs h k = absurd (omega (arith, h))
  replay_enough (suc f) zero n i ls vs h k = absurd (omega (arith, k))
  replay_enough (suc f) (suc g) n i [] vs h k = refl
  replay_enough (suc f) (suc g) n i (None ∷ ls) vs h k = refl
  replay_enough (suc f) (suc g) n i (Some r ∷ ls) vs h k =
      ap (λ s. pick (is_step_row t (eqb n 0) r) s (Err (refused log_fault i)))
      (judged_same i r.a (read_values t r.a (logged t r.a) (i + 1) ls vs) _ _ (λ ws rest q.
      let s = read_count r.a (logged t r.a) (i + 1) ls vs ws rest q in
      replay_enough f g (n + 1) (i + 1 + length (logged t r.a)) rest (moved t ws) (omega (arith, s, h)) (omega (arith, s, k))))

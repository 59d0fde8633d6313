-- 02, request 5: what a refusal of a log marks, by induction on the refusal: its number is 16, 17 or 18; its row is one of the log's, or it is 0, then the number is 18
-- and all the log's rows are in the row form. No log has two refusals, or is a run besides, and each is a run or has a refusal.
use Prim.Native.Nat.{ℕ, ◌+◌, ◌≤◌, ◌<◌}
use mathlib.Core.Path.{◌≡◌, refl, sym, ap, ◌∙◌}
use mathlib.Core.Bool.{Bool}
use mathlib.Core.List.{List, [], ◌∷◌, ◌++◌, flat_map}
use mathlib.Core.Logic.{◌⊎◌, inl, inr}
use native.Mathlib.Omega.{arith}
use lib.ListN.{length}
use Rattle.std.specs.Prelude.{Result, Ok, Err}
use Rattle.lists.specs.All.{All, all_nil}
use Rattle.lists.proofs.All.{all_join, first_in}
use Rattle.lists.proofs.Flat.{flat_join}
use Rattle.row.specs.Row.{greatest, width, row_bytes, Writable}
use Rattle.row.specs.declared.Row.{Row}
use Rattle.row.specs.Reading.{Line}
use Rattle.formula.specs.Values.{AnyValue}
use Rattle.formula.specs.Evaluate.{Env}
use Rattle.table.specs.Rows.{Rows}
use Rattle.machine.specs.Machine.{Action, unassigned, becomes_equal, becomes_such_that, Role, Machine}
use Rattle.machine.specs.Described.{machine_of}
use Rattle.rules.proofs.Obeys.{Obeys}
use Rattle.run.specs.Run.{State, view}
use Rattle.rules.specs.declared.Refusal as rules
use Rattle.rules.specs.Refusal.{refused}
use Rattle.recording.specs.Rows.{logged}
use Rattle.recording.specs.Lines.{lines}
use Rattle.recording.specs.Faults.{outside_fault, undefined_fault, log_fault}
use Rattle.recording.specs.Replay.{replay_log}
use Rattle.recording.specs.Refusal.{FormulaFault, outside_term, undefined_term, other_value, ActionFault}
use Rattle.recording.specs.Refusal.{StepFault, axiom_fault, guard_fault, action_at_fault, beginning, Begun}
use Rattle.recording.specs.Refusal.{Refusal, empty, bad_step, bad_value, ends_inside, step_at_fault, after_step}
use Rattle.recording.proofs.Lines.{lines_nothing}
use Rattle.recording.proofs.Runs.{steps_never, RunOf, replay_recorded, recorded_replay}
use Rattle.recording.proofs.Refusals.{refused_number, refused_row, begun_length, RefusalOf, refusal_exact}

-- "16 .. 17 .. 18"
abbrev pub LogNumber : ℕ → Type 0
LogNumber n = (n ≡ outside_fault) ⊎ (n ≡ undefined_fault) ⊎ (n ≡ log_fault)

module _ (t : Rows) where
  abbrev machine : Machine
  machine = machine_of t

  -- ---- the number
  formula_fault_number : {ρ : Env machine.type} {r : ℕ} {v : AnyValue} {n : ℕ} → FormulaFault t ρ r v n → LogNumber n
  formula_fault_number (outside_term e) = inl refl
  formula_fault_number (undefined_term e) = inr (inl refl)
  formula_fault_number (other_value w e l d) = inr (inr refl)

  action_fault_number : (ρ : Env machine.type) (x : ℕ) (a : Action) (n : ℕ) → ActionFault t ρ x a n → LogNumber n
  action_fault_number ρ x unassigned n f = inr (inr f.1)
  action_fault_number ρ x (becomes_equal r) n f = formula_fault_number f
  action_fault_number ρ x (becomes_such_that r) n f = formula_fault_number f

  step_fault_number : {ro : Role} {e : ℕ} {c s q k : State machine} {n : ℕ} → StepFault t ro e c s q k n → LogNumber n
  step_fault_number (axiom_fault i f) = formula_fault_number (first_in f).2
  step_fault_number (guard_fault a f) = formula_fault_number (first_in f).2
  step_fault_number {ro = ro} {e = e} {c = c} {s = s} {q = q} {k = k} {n = n} (action_at_fault a g f) = let (x, i, g) = first_in f in action_fault_number (view machine ro c s q k) x (machine.action e x) n g

  pub refusal_number : {first : Bool} {c s : State machine} {i : ℕ} {bytes : List ℕ} {number row : ℕ} → Refusal t first c s i bytes number row → LogNumber number
  refusal_number empty = inr (inr refl)
  refusal_number (bad_step some b) = inr (inr refl)
  refusal_number (bad_value e xs ys y v more begun are some b) = inr (inr refl)
  refusal_number (ends_inside e xs ys y v begun are) = inr (inr refl)
  refusal_number (step_at_fault e d q k more same begun f) = step_fault_number f
  refusal_number (after_step e d q k more same begun axioms step inside r) = refusal_number r

  -- ---- the row
  some_line : (bytes : List ℕ) → ¬ (bytes ≡ []) → 0 < length (lines bytes)
  some_line bytes some = go (lines bytes) refl
    where
      go : (ls : List Line) → lines bytes ≡ ls → 0 < length (lines bytes)
      go [] h = absurd (some (lines_nothing bytes h))
      go (l ∷ ls) h = let e = ap length h in omega (arith, e)

  -- bytes that consist of rows in the row form
  abbrev pub WholeRows : List ℕ → Type 0
  WholeRows bytes = (rs : List Row) × (bytes ≡ flat_map (row_bytes width) rs) × All (Writable greatest width) rs

  -- a row of these bytes, the first of which is row i; or none, where they end too early
  abbrev pub RowOf : ℕ → List ℕ → ℕ → ℕ → Type 0
  RowOf i bytes number row = ((i ≤ row) × (row < i + length (lines bytes))) ⊎ ((row ≡ 0) × (number ≡ log_fault) × WholeRows bytes)

  begun_whole : {first : Bool} {e : ℕ} {xs : List ℕ} {v : State machine} {more bytes : List ℕ} → Begun t first e xs v more bytes → WholeRows more → WholeRows bytes
  begun_whole {e = e} {xs = xs} {v = v} b (rs, are, w) =
      let begun : List Row = beginning t e xs v in
      (begun ++ rs, b.bytes_are ∙ ap (λ more. flat_map (row_bytes width) begun ++ more) are ∙ sym (flat_join (row_bytes width) begun rs), all_join b.in_form w)

  pub refusal_row : {first : Bool} {c s : State machine} {i : ℕ} {bytes : List ℕ} {number row : ℕ} → Refusal t first c s i bytes number row → RowOf i bytes number row
  unfolding flat_map
  refusal_row empty = inr (refl, refl, ([], refl, all_nil))
  refusal_row (bad_step {bytes = bytes} some b) = let l = some_line bytes some in inl (omega arith, omega (arith, l))
  refusal_row (bad_value {i = i} e xs ys y v more begun are some b) =
      let l = some_line more some in let k = begun_length t begun in inl (omega arith, omega (arith, l, k))
  refusal_row (ends_inside e xs ys y v begun are) = inr (refl, refl, begun_whole begun ([], refl, all_nil))
  refusal_row (step_at_fault e d q k more same begun f) = let l = begun_length t begun in inl (omega arith, omega (arith, l))
  refusal_row (after_step {i = i} {bytes = bytes} {n = number} {j = row} e d q k more same begun axioms step inside r) = go (refusal_row r)
    where
      go : RowOf (i + 1 + length (logged t e)) more number row → RowOf i bytes number row
      go (inl (a, b)) = let l = begun_length t begun in inl (omega (arith, a), omega (arith, b, l))
      go (inr (z, m, w)) = inr (z, m, begun_whole begun w)

  -- ---- the replies
  module _ (ok : Obeys t) (run : List ℕ) where
    module _ (number row : ℕ) (h : replay_log t run ≡ Err (refused number row)) where
      abbrev refusal : RefusalOf t run number row
      refusal = (refusal_exact t ok run number row).0 h

      pub refused_numbers : LogNumber number
      refused_numbers = refusal_number refusal

      -- the row is one of the log's, counted from 1, or 0
      pub refused_rows : row ≤ length (lines run)
      refused_rows = go (refusal_row refusal)
        where
          go : RowOf 1 run number row → row ≤ length (lines run)
          go (inl (a, b)) = omega (arith, b)
          go (inr (z, m, w)) = omega (arith, z)

      -- row 0 stands for a log that is empty or ends inside a step: it has number 18, and no row of the log is torn or in no row form
      pub refused_no_row : row ≡ 0 → (number ≡ log_fault) × WholeRows run
      refused_no_row z = go (refusal_row refusal)
        where
          go : RowOf 1 run number row → (number ≡ log_fault) × WholeRows run
          go (inl (a, b)) = absurd (omega (arith, a, z))
          go (inr (z, m, w)) = (m, w)

    -- a log is a run or has a refusal
    pub run_or_refusal : ((n : ℕ) × RunOf t run n) ⊎ ((number : ℕ) × (row : ℕ) × RefusalOf t run number row)
    run_or_refusal = go (replay_log t run) refl
      where
        go : (r : Result ℕ rules.Refusal) → replay_log t run ≡ r → ((n : ℕ) × RunOf t run n) ⊎ ((number : ℕ) × (row : ℕ) × RefusalOf t run number row)
        go (Ok n) h = inl (n, replay_recorded t ok run n h)
        go (Err r) h = inr (r.number, r.row, (refusal_exact t ok run r.number r.row).0 h)

    -- not both
    pub run_not_refused : {n number row : ℕ} → RunOf t run n → RefusalOf t run number row → ⊥
    run_not_refused {n} {number} {row} r f = steps_never (sym ((refusal_exact t ok run number row).1 f) ∙ recorded_replay t ok run n r)

    -- and not two
    pub refusal_unique : {m n i j : ℕ} → RefusalOf t run m i → RefusalOf t run n j → (m ≡ n) × (i ≡ j)
    refusal_unique {m} {n} {i} {j} f g =
        let e = sym ((refusal_exact t ok run m i).1 f) ∙ (refusal_exact t ok run n j).1 g in (refused_number e, refused_row e)

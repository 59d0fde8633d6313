-- What pressing comes to, as the code goes on: a refusal leaves the values, a performed step has the new ones.
use mathlib.Core.Path.{◌≡◌, refl, sym, ap, ap₂, ◌∙◌}
use mathlib.Core.Bool.{Bool, true, false, ◌&&◌}
use mathlib.Core.List.{List}
use Prim.Native.Nat.{ℕ, ◌≤◌}
use lib.Dec.{eqb}
use lib.IntN.{ℤ}
use lib.ListN.{length}
use Rattle.std.specs.Prelude.{Result, Ok, Err}
use Rattle.lists.specs.Choice.{pick}
use Rattle.table.specs.Rows.{Rows, count}
use Rattle.rules.specs.declared.Refusal.{Refusal}
use Rattle.rules.specs.Refusal.{refused as refusal}
use Rattle.rules.specs.Decoded.{decoded}
use Rattle.rules.specs.Verdict.{judge, verdict as verdict_of}
use Rattle.rules.proofs.Cases.{judge_passes}
use Rattle.rules.proofs.Obeys.{passes_obeys}
use Rattle.rules.proofs.Full.{few_identifiers}
use Rattle.recording.specs.Faults.{log_fault}
use Rattle.recording.specs.Lines.{lines}
use Rattle.bench.specs.State.{is_state}
use Rattle.bench.specs.Choice.{choice}
use Rattle.bench.proofs.State.{and_true, state_right}
use Rattle.bench.specs.Press.{Outcome, refused, reply_of, kept_or, press_choice, at_hand, press_on, outcome_by, outcome}

-- a reply and the values then, by an outcome
abbrev pub Answers : Outcome → List ℤ → Result (Unit {0}) Refusal → List ℤ → Type 0
Answers o zs r ys = (r ≡ reply_of o) × (ys ≡ kept_or (λ us. us) zs o)

pub refused_answers : {o : Outcome} {n row : ℕ} (zs : List ℤ) → o ≡ refused n row → Answers o zs (Err (refusal n row)) zs
refused_answers zs e = (sym (ap reply_of e), sym (ap (kept_or (λ us. us) zs) e))

pub as_answers : {o p : Outcome} {ys : List ℤ} {r : Result (Unit {0}) Refusal} (zs : List ℤ) → o ≡ p → Answers p zs r ys → Answers o zs r ys
as_answers zs e (a, b) = (a ∙ sym (ap reply_of e), b ∙ sym (ap (kept_or (λ us. us) zs) e))

-- ---- a state
module _ (t : Rows) (step : List ℕ) (zs : List ℤ) (types : List ℕ) (room : ℕ) {good : Bool} {n : ℕ} (is : good ≡ is_state t zs types) (counted : n ≡ count t 10) where
  tested : (b : Bool) → (good && eqb room n) ≡ b → press_on t step zs types room ≡ pick b (press_choice t zs (choice t (lines step) (at_hand t zs))) (refused log_fault 0)
  unfolding press_on
  tested b h = ap (λ b. pick b (press_choice t zs (choice t (lines step) (at_hand t zs))) (refused log_fault 0)) (sym (ap₂ (λ good n. good && eqb room n) is counted) ∙ h)

  pub state_pressed : {r : Result (Unit {0}) Refusal} {ys : List ℤ} → (good && eqb room n) ≡ true → Answers (press_choice t zs (choice t (lines step) (at_hand t zs))) zs r ys → Answers (press_on t step zs types room) zs r ys
  state_pressed h a = as_answers zs (tested true h) a

  pub state_refused : (good && eqb room n) ≡ false → Answers (press_on t step zs types room) zs (Err (refusal log_fault 0)) zs
  state_refused h = refused_answers zs (tested false h)

  -- a state has a value for each identifier
  pub state_length : (good && eqb room n) ≡ true → length zs ≡ count t 10
  state_length h = (state_right t zs types (sym is ∙ and_true good (eqb room n) h)).size

-- an accepted table has at most 64 identifiers
pub accepted_few : (t : Rows) (n : ℕ) → judge t ≡ Ok n → count t 10 ≤ 64
accepted_few t n h = few_identifiers t (passes_obeys t (judge_passes t n h)).full

-- the outcome of a table's bytes
pub outcome_is : (table step : List ℕ) (zs : List ℤ) (types : List ℕ) (room : ℕ) → outcome table step zs types room ≡ outcome_by (verdict_of table) (press_on (decoded table) step zs types room)
unfolding outcome
outcome_is table step zs types room = refl

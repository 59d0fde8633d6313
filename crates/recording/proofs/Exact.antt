-- 02, request 5, over bytes: the reply is a number of steps exactly where the table is accepted and the log is a run of it, with no term that leaves 64 bits; it is a
-- refusal exactly where the table is refused with it, or is accepted and the log has that refusal; and where the table's sequents are valid, a log that is a run has the
-- whole of demand 3.
use Prim.Native.Nat.{ℕ, ◌≤◌}
use mathlib.Core.Path.{◌≡◌, refl, sym, ap, ◌∙◌}
use mathlib.Core.List.{List}
use mathlib.Core.Logic.{◌⊎◌, inl, inr, ◌↔◌}
use lib.ListN.{length}
use Rattle.std.specs.Prelude.{Result, Ok, Err}
use Rattle.lists.specs.All.{All}
use Rattle.sequent.specs.Sequent.{Valid}
use Rattle.sequent.specs.Listed.{sequents}
use Rattle.rules.specs.declared.Refusal.{Refusal}
use Rattle.rules.specs.Refusal.{refused}
use Rattle.rules.specs.Decoded.{decoded}
use Rattle.rules.specs.Verdict.{verdict as verdict_of}
use Rattle.rules.specs.Offence.{machine}
use Rattle.rules.proofs.Obeys.{Obeys}
use Rattle.rules.proofs.Accepted.{accepted_none, none_obeys}
use Rattle.run.proofs.SafeRun.{safe_run}
use Rattle.recording.specs.Lines.{lines}
use Rattle.recording.specs.Faults.{log_fault}
use Rattle.recording.specs.Replay.{replay_by, replay_log, replay}
use Rattle.recording.specs.Recorded.{Recorded}
use Rattle.recording.specs.Replayed.{SafeLog}
use Rattle.recording.proofs.Runs.{steps_never, RunOf, replay_recorded, recorded_replay}
use Rattle.recording.proofs.Refusals.{RefusalOf, refusal_exact}
use Rattle.recording.proofs.Marks.{LogNumber, refused_numbers, refused_rows, refused_no_row}

accepted_obeys : (table : List ℕ) (count : ℕ) → verdict_of table ≡ Ok count → Obeys (decoded table)
accepted_obeys table count a = none_obeys table (accepted_none table count a).0

-- the table is accepted, and the log is a run of it, of n steps after the initialisation, no term of which leaves 64 bits
abbrev pub Replays : List ℕ → List ℕ → ℕ → Type 0
Replays table run n = (count : ℕ) × (verdict_of table ≡ Ok count) × RunOf (decoded table) run n

pub replay_exact : (table run : List ℕ) (n : ℕ) → (replay table run ≡ Ok n) ↔ Replays table run n
unfolding replay
replay_exact table run n = (by (verdict_of table) refl, λ (count, a, r). ap (λ v. replay_by v (replay_log (decoded table) run)) a ∙ recorded_replay (decoded table) (accepted_obeys table count a) run n r)
  where
    by : (v : Result ℕ Refusal) → verdict_of table ≡ v → replay_by v (replay_log (decoded table) run) ≡ Ok n → Replays table run n
    by (Ok count) a h = (count, a, replay_recorded (decoded table) (accepted_obeys table count a) run n h)
    by (Err r) a h = absurd (steps_never h)

-- "After the table's checks": the table's own refusal, or that of the log
abbrev pub Refuses : List ℕ → List ℕ → ℕ → ℕ → Type 0
Refuses table run number row =
    (verdict_of table ≡ Err (refused number row)) ⊎ ((count : ℕ) × (verdict_of table ≡ Ok count) × RefusalOf (decoded table) run number row)

pub replay_refused : (table run : List ℕ) (number row : ℕ) → (replay table run ≡ Err (refused number row)) ↔ Refuses table run number row
unfolding replay
replay_refused table run number row = (by (verdict_of table) refl, back)
  where
    by : (v : Result ℕ Refusal) → verdict_of table ≡ v → replay_by v (replay_log (decoded table) run) ≡ Err (refused number row) → Refuses table run number row
    by (Ok count) a h = inr (count, a, (refusal_exact (decoded table) (accepted_obeys table count a) run number row).0 h)
    by (Err r) a h = inl (a ∙ h)

    back : Refuses table run number row → replay_by (verdict_of table) (replay_log (decoded table) run) ≡ Err (refused number row)
    back (inl a) = ap (λ v. replay_by v (replay_log (decoded table) run)) a
    back (inr (count, a, r)) =
        ap (λ v. replay_by v (replay_log (decoded table) run)) a ∙ (refusal_exact (decoded table) (accepted_obeys table count a) run number row).1 r

-- what the refusal of a log by an accepted table marks: number 16, 17 or 18, and a row of the log, or 0 with number 18
pub replay_marks : (table run : List ℕ) (count number row : ℕ) → verdict_of table ≡ Ok count → replay table run ≡ Err (refused number row)
    → LogNumber number × (row ≤ length (lines run)) × (row ≡ 0 → number ≡ log_fault)
unfolding replay
replay_marks table run count number row a h =
    let ok = accepted_obeys table count a in
    let r : replay_log (decoded table) run ≡ Err (refused number row) = sym (ap (λ v. replay_by v (replay_log (decoded table) run)) a) ∙ h in (
      refused_numbers (decoded table) ok run number row r,
      refused_rows (decoded table) ok run number row r,
      λ z. (refused_no_row (decoded table) ok run number row r z).0,
    )

-- why a log is replayed
pub replay_safe : (table run : List ℕ) (n : ℕ) → All (Valid (machine table)) (sequents (machine table)) → replay table run ≡ Ok n
    → (r : Recorded (decoded table) run) × SafeLog (decoded table) r × (length r.steps ≡ n)
replay_safe table run n valid h =
    let (count, a, (r, inside, steps)) = (replay_exact table run n).0 h in
    let safe = ((safe_run table count a valid).safe r.event r.matched r.is_event r.is_initialisation).1 r.constants r.axioms in
    let (outcome, matches, start, along) = safe.runs r.outcome r.start r.steps r.follows in
    (r, record { abstract_outcome = outcome; matches = matches; abstract_start = start; along = along; runs_safe = safe }, steps)

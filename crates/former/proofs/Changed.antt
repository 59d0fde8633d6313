-- 02, request 8: "The replies that change are exactly the 17s whose first fault in this order is outside 64 bits, and they become 16", for every table, log, step and state. A reply is the
-- former one or 16 for 17 with the same row (crates/former/proofs/Evaluated.antt), and it is 16 exactly where the first fault is outside (`replay_refused`, `records_refused`).
use Prim.Native.Nat.{ℕ}
use mathlib.Core.Path.{◌≡◌, refl, sym, ap, ◌∙◌}
use mathlib.Core.List.{List}
use mathlib.Core.Logic.{◌⊎◌, inl, inr}
use native.Mathlib.Omega.{arith}
use lib.ListN.{length}
use Rattle.std.specs.Prelude.{Result, Ok, Err}
use Rattle.formula.specs.Values.{ValueType}
use Rattle.formula.specs.Tree.{Tree}
use Rattle.formula.specs.Evaluate.{Env}
use Rattle.answer.specs.Answer.{Answer, value, outside, undefined, answer}
use Rattle.answer.proofs.Answer.{answer_exact}
use Rattle.rules.specs.declared.Refusal.{Refusal}
use Rattle.rules.specs.Refusal.{refused as refusal_of}
use Rattle.rules.specs.Decoded.{decoded}
use Rattle.rules.specs.Verdict.{verdict as verdict_of}
use Rattle.recording.specs.Faults.{outside_fault, undefined_fault}
use Rattle.recording.specs.Replay.{replay_by, replay}
use Rattle.recording.proofs.Refusals.{refused_number}
use Rattle.recording.proofs.Exact.{replay_refused}
use Rattle.bench.specs.State.{values_in, types_in}
use Rattle.bench.specs.Press.{Outcome, made, refused, outcome_by, reply_of, records_outcome, Pressed, press, Previewed, preview}
use Rattle.bench.specs.declared.Record.{Record}
use Rattle.bench.proofs.Refused.{outcome_refused, records_refused}
use Rattle.former.specs.Former.{former_answer}
use Rattle.former.specs.Evaluated.{pressed_of, previewed_of, replay_log_by, replay_with, press_on_by, outcome_with, press_with, preview_with}
use Rattle.former.specs.Changed.{Changed, becomes_outside, stays, AnswerChanged, formerly, former_replay, former_press, former_preview, press_refused, preview_refused}
use Rattle.former.specs.Changed.{log_refused, LogOutside, PressOutside}
use Rattle.former.proofs.Answers.{answer_now}
use Rattle.former.proofs.Evaluated.{Reply, replay_reply, outcome_reply}

-- ---- a formula
module _ {type : ℕ → ValueType} (ρ : Env type) where
  pub answer_changes : (t : Tree) → AnswerChanged ρ t
  answer_changes t = go (answer_now ρ t)
    where
      sort : Answer → ℕ
      sort a = elim a [ value v ↦ 0 | outside ↦ 1 | undefined ↦ 2 ]

      go : (former_answer ρ t ≡ answer ρ t) ⊎ (Unit {0} × (former_answer ρ t ≡ undefined) × (answer ρ t ≡ outside)) → AnswerChanged ρ t
      go (inl e) = inr (λ (u, f). let z : ◌≡◌ {A = ℕ} 1 2 = ap sort (sym ((answer_exact ρ t outside).1 f) ∙ sym e ∙ u) in omega arith, sym e)
      go (inr (p, u, o)) = inl (u, (answer_exact ρ t outside).0 o, o)

-- ---- a reply
never_both : {m n : ℕ} → m ≡ undefined_fault → n ≡ outside_fault → m ≡ n → ⊥
never_both u o e = let z : ◌≡◌ {A = ℕ} 17 16 = sym u ∙ e ∙ o in omega arith

module _ {A : Type 0} (refusal : ℕ → ℕ → A) (number : A → ℕ) (numbered : (n row : ℕ) → number (refusal n row) ≡ n) (FirstOutside : ℕ → Type 0) (former now : A) where
  changes : Reply (Unit {0}) refusal former now → ((row : ℕ) → FirstOutside row → now ≡ refusal outside_fault row)
      → ((row : ℕ) → former ≡ refusal undefined_fault row → now ≡ refusal outside_fault row → FirstOutside row) → Changed refusal FirstOutside former now
  changes (inl e) back forth =
      stays (λ row u f. never_both (ap number u ∙ numbered undefined_fault row) (ap number (back row f) ∙ numbered outside_fault row) (ap number e)) (sym e)
  changes (inr (p, row, u, o)) back forth = becomes_outside row u (forth row u o) o

-- ---- a log
replay_number : Result ℕ Refusal → ℕ
replay_number r = elim r [ Ok n ↦ 0 | Err x ↦ x.number ]

table_refused : (table run : List ℕ) (n row : ℕ) → verdict_of table ≡ Err (refusal_of n row) → former_replay table run ≡ Err (refusal_of n row)
unfolding replay_with
table_refused table run n row v = ap (λ v. replay_by v (replay_log_by formerly (decoded table) run)) v

pub replay_changes : (table run : List ℕ) → Changed log_refused (LogOutside table run) (former_replay table run) (replay table run)
unfolding replay_number
replay_changes table run =
    changes log_refused replay_number (λ n row. refl) (LogOutside table run) (former_replay table run) (replay table run) (replay_reply (Unit {0}) formerly (λ type ρ u. answer_now ρ u) table run)
    (λ row f. (replay_refused table run outside_fault row).1 (inr f))
    (λ row u o. go row u ((replay_refused table run outside_fault row).0 o))
  where
    go : (row : ℕ) → former_replay table run ≡ Err (refusal_of undefined_fault row) → (verdict_of table ≡ Err (refusal_of outside_fault row)) ⊎ LogOutside table run row → LogOutside table run row
    go row u (inl v) = absurd (never_both refl refl (refused_number (sym u ∙ table_refused table run outside_fault row v)))
    go row u (inr f) = f

-- ---- a press and a preview, by their outcome
outcome_number : Outcome → ℕ
outcome_number o = elim o [ made zs ↦ 0 | refused n row ↦ n ]

outcome_table : (table step : List ℕ) (state : List Record) (room n row : ℕ) → verdict_of table ≡ Err (refusal_of n row) → outcome_with formerly table step state room ≡ refused n row
unfolding outcome_with
outcome_table table step state room n row v = ap (λ v. outcome_by v (press_on_by formerly (decoded table) step (values_in state) (types_in state) room)) v

outcome_changes : (table step : List ℕ) (state : List Record) (room : ℕ)
    → Changed refused (PressOutside table step state room) (outcome_with formerly table step state room) (records_outcome table step state room)
unfolding outcome_number
outcome_changes table step state room =
    changes refused outcome_number (λ n row. refl) (PressOutside table step state room) former (records_outcome table step state room)
    (outcome_reply (Unit {0}) formerly (λ type ρ u. answer_now ρ u) table step state room)
    (λ row f. outcome_refused (records_outcome table step state room) outside_fault row ((records_refused table step state room outside_fault row).1 (inr f)))
    (λ row u o. go row u ((records_refused table step state room outside_fault row).0 (ap reply_of o)))
  where
    former : Outcome
    former = outcome_with formerly table step state room

    go : (row : ℕ) → former ≡ refused undefined_fault row → (verdict_of table ≡ Err (refusal_of outside_fault row)) ⊎ PressOutside table step state room row → PressOutside table step state room row
    go row u (inl v) = absurd (never_both refl refl (ap outcome_number (sym u ∙ outcome_table table step state room outside_fault row v)))
    go row u (inr f) = f

-- what is given of an outcome, its reply among it
given_changes : {A : Type 0} (give : Outcome → A) (replyIn : A → Result (Unit {0}) Refusal) → ((o : Outcome) → replyIn (give o) ≡ reply_of o) → (FirstOutside : ℕ → Type 0) (former now : Outcome)
    → Changed refused FirstOutside former now → Changed (λ n row. give (refused n row)) FirstOutside (give former) (give now)
given_changes give replyIn is FirstOutside former now (becomes_outside row u f o) = becomes_outside row (ap give u) f (ap give o)
given_changes give replyIn is FirstOutside former now (stays h e) =
    stays (λ row u f. h row (outcome_refused former undefined_fault row (sym (is former) ∙ ap replyIn u ∙ is (refused undefined_fault row))) f) (ap give e)

pub press_changes : (table step : List ℕ) (state : List Record)
    → Changed (press_refused state) (PressOutside table step state (length state)) (former_press table step state) (press table step state)
unfolding press_with press
press_changes table step state = given_changes (pressed_of state) (λ (p : Pressed). p.reply) (λ o. refl) _ _ _ (outcome_changes table step state (length state))

pub preview_changes : (table step : List ℕ) (first second : List Record)
    → Changed (preview_refused first second) (PressOutside table step first (length second)) (former_preview table step first second) (preview table step first second)
unfolding preview_with preview
preview_changes table step first second =
    given_changes (previewed_of first second) (λ (p : Previewed). p.reply) (λ o. refl) _ _ _ (outcome_changes table step first (length second))

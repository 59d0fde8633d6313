-- 02, request 8: "The replies that change are exactly the 17s whose first fault in this order is outside 64 bits, and they become 16."
use Rattle.std.specs.Prelude.{◌≡◌, true, List, ◌⊎◌, ℕ, Result, Ok, Err}
use Rattle.formula.specs.Values.{ValueType}
use Rattle.formula.specs.Tree.{Tree}
use Rattle.formula.specs.Evaluate.{Env}
use Rattle.answer.specs.Answer.{outside, undefined, answer}
use Rattle.answer.specs.Met.{FirstFault}
use Rattle.rules.specs.declared.Refusal as rules
use Rattle.rules.specs.Refusal.{refused}
use Rattle.rules.specs.Decoded.{decoded}
use Rattle.rules.specs.Verdict.{verdict as verdict_of}
use Rattle.run.specs.Run.{blank}
use Rattle.machine.specs.Described.{machine_of}
use Rattle.recording.specs.Faults.{outside_fault, undefined_fault}
use Rattle.recording.specs.Refusal.{Refusal}
use Rattle.bench.specs.State.{values_in, types_in}
use Rattle.bench.specs.Refusal.{PressRefusal}
use Rattle.bench.specs.Press.{Pressed, Previewed}
use Rattle.bench.specs.declared.Record.{Record}
use Rattle.former.specs.Former.{former_answer}
use Rattle.former.specs.Evaluated.{Evaluation, replay_with, press_with, preview_with}

-- a reply beside the former one: 16 in the place of 17, with the same row, exactly where the first fault is outside 64 bits; everywhere else the same
pub data Changed {A : Type 0} (refusal : ℕ → ℕ → A) (FirstOutside : ℕ → Type 0) (former now : A) : Type 0 where
  becomes_outside : (row : ℕ) → former ≡ refusal undefined_fault row → FirstOutside row → now ≡ refusal outside_fault row → Changed refusal FirstOutside former now
  stays : ((row : ℕ) → former ≡ refusal undefined_fault row → FirstOutside row → ⊥) → now ≡ former → Changed refusal FirstOutside former now

-- the same of one formula's answer
module _ {type : ℕ → ValueType} (ρ : Env type) where
  abbrev pub AnswerChanged : Tree → Type 0
  AnswerChanged t =
      ((former_answer ρ t ≡ undefined) × FirstFault ρ t outside × (answer ρ t ≡ outside))
      ⊎ (¬ ((former_answer ρ t ≡ undefined) × FirstFault ρ t outside) × (answer ρ t ≡ former_answer ρ t))

-- the replies with the former order
abbrev pub formerly : Evaluation
formerly type ρ t = former_answer ρ t

abbrev pub former_replay : List ℕ → List ℕ → Result ℕ rules.Refusal
former_replay = replay_with formerly

abbrev pub former_press : List ℕ → List ℕ → List Record → Pressed
former_press = press_with formerly

abbrev pub former_preview : List ℕ → List ℕ → List Record → List Record → Previewed
former_preview = preview_with formerly

-- a log that is refused
abbrev pub log_refused : ℕ → ℕ → Result ℕ rules.Refusal
log_refused n row = Err (refused n row)

-- a press and a preview that are refused: no record changes
abbrev pub press_refused : List Record → ℕ → ℕ → Pressed
press_refused state n row = record { reply = Err (refused n row); state = state }

abbrev pub preview_refused : List Record → List Record → ℕ → ℕ → Previewed
preview_refused first second n row = record { reply = Err (refused n row); first = first; second = second }

-- the first fault of a log, at the step whose row 90 this is, or of a step that is pressed, which has row 0: a term outside 64 bits
abbrev pub LogOutside : List ℕ → List ℕ → ℕ → Type 0
LogOutside table run row =
    (count : ℕ) × (verdict_of table ≡ Ok count) × Refusal (decoded table) true (blank (machine_of (decoded table))) (blank (machine_of (decoded table))) 1 run outside_fault row

abbrev pub PressOutside : List ℕ → List ℕ → List Record → ℕ → ℕ → Type 0
PressOutside table step state room row =
    (count : ℕ) × (verdict_of table ≡ Ok count) × (row ≡ 0) × PressRefusal (decoded table) step (values_in state) (types_in state) room outside_fault

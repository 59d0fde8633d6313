-- What replaying, pressing and previewing answer with any evaluation of formulas in the place of `answer`: the definitions of crates/log/specs and crates/bench/specs with the
-- evaluation as an argument. That they are those where it is `answer` is proved (crates/former/proofs/Evaluated.antt).
use Rattle.std.specs.Prelude.{true, ◌&&◌, List, [], ◌∷◌, ◌++◌, map, ℕ, zero, suc, ◌+◌, ◌-◌, eqb, ℤ, pos, length, get_or, set, Result, Ok, Err, Some, None}
use Rattle.lists.specs.Choice.{pick}
use Rattle.row.specs.Reading.{Line}
use Rattle.formula.specs.Values.{ValueType, truth, wrap}
use Rattle.formula.specs.Tree.{Tree}
use Rattle.formula.specs.Evaluate.{Env}
use Rattle.answer.specs.Answer.{Answer}
use Rattle.answer.specs.Stored.{stored_env}
use Rattle.table.specs.Names.{identifier_tag}
use Rattle.table.specs.Rows.{Rows, count}
use Rattle.machine.specs.Machine.{Action, unassigned, becomes_equal, becomes_such_that, Machine}
use Rattle.machine.specs.Described.{machine_of}
use Rattle.rules.specs.Decoded.{decoded}
use Rattle.rules.specs.Verdict.{verdict as verdict_of}
use Rattle.recording.specs.Rows.{is_initial, logged, is_step_row}
use Rattle.recording.specs.Lines.{lines}
use Rattle.recording.specs.Faults.{no_fault, log_fault, differs, fault_of, first_fault}
use Rattle.recording.specs.Replay.{Values, Found, found, bad, no_values, read_values, moved, replay_by}
use Rattle.rules.specs.declared.Refusal.{Refusal}
use Rattle.rules.specs.Refusal.{refused as refusal}
use Rattle.bench.specs.State.{values_in, types_in, is_state, updated, with_values_of}
use Rattle.bench.specs.Choice.{Choice, chosen, none, choice}
use Rattle.bench.specs.Press.{Outcome, made, refused, answered, at_hand, outcome_by, reply_of, kept_or, Pressed, Previewed}
use Rattle.bench.specs.declared.Record.{Record}

abbrev pub Evaluation : Type 0
Evaluation = (type : ℕ → ValueType) → Env type → Tree → Answer

-- what a press and a preview give of an outcome
abbrev pub pressed_of : List Record → Outcome → Pressed
pressed_of state o = record { reply = reply_of o; state = kept_or (λ zs. with_values_of zs state) state o }

abbrev pub previewed_of : List Record → List Record → Outcome → Previewed
previewed_of first second o = record { reply = reply_of o; first = first; second = kept_or (λ zs. with_values_of zs first) second o }

module _ (evaluation : Evaluation) where
  module _ (t : Rows) where
    abbrev machine : Machine
    machine = machine_of t

    abbrev evaluated : Env machine.type → ℕ → Answer
    evaluated ρ r = evaluation machine.type ρ (machine.tree r)

    -- ---- crates/log/specs/Faults.antt
    abbrev pub untrue_by : Env machine.type → ℕ → ℕ
    untrue_by ρ r = fault_of (truth true) (evaluated ρ r)

    abbrev pub not_allowed_by : Env machine.type → ℕ → Action → ℕ
    not_allowed_by ρ x unassigned = differs (wrap (machine.type x) (ρ.after x)) (wrap (machine.type x) (ρ.present x))
    not_allowed_by ρ x (becomes_equal r) = fault_of (wrap (machine.type x) (ρ.after x)) (evaluated ρ r)
    not_allowed_by ρ x (becomes_such_that r) = untrue_by ρ r

    unfoldable pub step_fault_by : ℕ → List ℤ → List ℤ → ℕ
    step_fault_by e present after =
        let before : Env machine.type = stored_env machine.type present [] in
        let both : Env machine.type = stored_env machine.type present after in
        first_fault (
        pick (is_initial t e) (map (untrue_by before) machine.axioms) []
        ++ (map (untrue_by before) (machine.guards e)
        ++ map (λ x. not_allowed_by both x (machine.action e x)) machine.concrete_variables))

    -- ---- crates/log/specs/Replay.antt
    abbrev pub judged_by : ℕ → ℕ → Found → (List Line → Values → Result ℕ Refusal) → Result ℕ Refusal
    judged_by i e (bad j) next = Err (refusal log_fault j)
    judged_by i e (found vs ls) next =
        let fault = step_fault_by e vs.present vs.after in
        pick (eqb fault no_fault) (next ls (moved t vs)) (Err (refusal fault i))

    unfoldable pub replay_from_by : ℕ → ℕ → ℕ → List Line → Values → Result ℕ Refusal
    replay_from_by zero n i ls vs = Err (refusal log_fault 0)
    replay_from_by (suc most) n i [] vs = pick (eqb n 0) (Err (refusal log_fault 0)) (Ok (n - 1))
    replay_from_by (suc most) n i (None ∷ ls) vs = Err (refusal log_fault i)
    replay_from_by (suc most) n i (Some r ∷ ls) vs =
        let e = r.a in
        pick (is_step_row t (eqb n 0) r)
        (judged_by i e (read_values t e (logged t e) (i + 1) ls vs) (λ rest ws. replay_from_by most (n + 1) (i + 1 + length (logged t e)) rest ws))
        (Err (refusal log_fault i))

    unfoldable pub replay_log_by : List ℕ → Result ℕ Refusal
    replay_log_by run = replay_from_by (suc (length (lines run))) 0 1 (lines run) no_values

    -- ---- crates/bench/specs/Press.antt
    abbrev pub after_of : Values → ℕ → Action → ℤ
    after_of vs x unassigned = get_or vs.present x (pos 0)
    after_of vs x (becomes_equal r) = answered (evaluated (stored_env machine.type vs.present []) r)
    after_of vs x (becomes_such_that r) = get_or vs.after x (pos 0)

    unfoldable pub complete_by : ℕ → List ℕ → Values → Values
    complete_by e [] vs = vs
    complete_by e (x ∷ xs) vs = complete_by e xs (record { present = vs.present; after = set vs.after x (after_of vs x (machine.action e x)) })

    unfoldable pub press_fault_by : ℕ → List ℤ → List ℤ → ℕ
    press_fault_by e present after =
        first_fault (map (untrue_by (stored_env machine.type present [])) machine.axioms ++ (step_fault_by e present after ∷ []))

    abbrev pub press_choice_by : List ℤ → Choice → Outcome
    press_choice_by zs none = refused log_fault 0
    press_choice_by zs (chosen e vs) =
        let ws : Values = complete_by e machine.concrete_variables vs in
        let fault = press_fault_by e ws.present ws.after in
        pick (eqb fault no_fault) (made (updated t ws.after zs)) (refused fault 0)

    unfoldable pub press_on_by : List ℕ → List ℤ → List ℕ → ℕ → Outcome
    press_on_by step zs types room =
        pick (is_state t zs types && eqb room (count t identifier_tag)) (press_choice_by zs (choice t (lines step) (at_hand t zs))) (refused log_fault 0)

  -- ---- over bytes and records
  unfoldable pub replay_with : List ℕ → List ℕ → Result ℕ Refusal
  replay_with table run = replay_by (verdict_of table) (replay_log_by (decoded table) run)

  unfoldable pub outcome_with : List ℕ → List ℕ → List Record → ℕ → Outcome
  outcome_with table step rs room = outcome_by (verdict_of table) (press_on_by (decoded table) step (values_in rs) (types_in rs) room)

  unfoldable pub press_with : List ℕ → List ℕ → List Record → Pressed
  press_with table step state = pressed_of state (outcome_with table step state (length state))

  unfoldable pub preview_with : List ℕ → List ℕ → List Record → List Record → Previewed
  preview_with table step first second = previewed_of first second (outcome_with table step first (length second))

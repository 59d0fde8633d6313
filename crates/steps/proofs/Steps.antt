-- One step of the replay as the code takes it: what its rows and its judgement come to is what the definition gives, and replaying on from there gives the rest.
use mathlib.Core.Path.{◌≡◌, refl, sym, ap, ap₂, subst, ◌∙◌}
use mathlib.Core.Bool.{Bool, true, false}
use mathlib.Core.List.{List, [], ◌++◌}
use mathlib.Core.Logic.{inl, inr}
use Prim.Native.Nat.{ℕ, suc, ◌+◌, ◌-◌, ◌*◌, ◌≤◌}
use native.Mathlib.Omega.{arith}
use lib.Dec.{eqb}
use lib.ListN.{length}
use Rattle.std.specs.Prelude.{Result, Ok, Err}
use Rattle.lists.specs.Choice.{pick}
use Rattle.row.specs.Row.{greatest, width, row_length}
use Rattle.row.specs.Reading.{read_at, Line}
use Rattle.row.specs.declared.Row.{Row}
use Rattle.row.specs.declared.Place.{Place}
use Rattle.row.specs.declared.Read.{Read}
use Rattle.row.specs.declared.Read.TheVariants as read
use Rattle.table.specs.Rows.{Rows, count}
use Rattle.rules.specs.Decoded.{decoded}
use Rattle.rules.specs.Verdict.{verdict}
use Rattle.rules.specs.declared.Refusal.{Refusal}
use Rattle.rules.specs.Refusal.{refused}
use Rattle.recording.specs.Rows.{logged, is_step_row}
use Rattle.recording.specs.Faults.{no_fault, log_fault, step_fault}
use Rattle.recording.specs.Replay.{Values, Found, read_values, moved, judged, replay_from, replay_log, replay_by, replay}
use Rattle.values.specs.declared.BadRow.{BadRow}
use Rattle.values.specs.Values.{Reached, wanted, lines_at, row_at, AtHand, read_on, ReadsValues, Reaches}
use Rattle.values.proofs.Reading.{end_lines, malformed_lines, row_lines, next_place, wanted_within, wanted_logged}
use Rattle.steps.specs.declared.Progress.{Progress}
use Rattle.steps.specs.declared.Progress.TheVariants.{Going, Ended}
use Rattle.steps.specs.Steps.{ended_after, step_progress, step_values, replay_on, TakesStep, ReplaysStep, BeginsWithin}

module _ (t : Rows) where
  -- ---- a step whose rows are read
  module _ (e i : ℕ) (run : List ℕ) (at : ℕ) (vs us : Values) (r : Reached) (told : ReadsValues t e (wanted t false e) run at vs r us)
      (end : Reaches r run (at + row_length width * length (wanted t false e))) where
    reads : ReadsValues t e (logged t e) run at vs r us
    reads = subst (λ xs. ReadsValues t e xs run at vs r us) (wanted_logged t e) told

    last : Reaches r run (at + row_length width * length (logged t e))
    last = subst (λ xs. Reaches r run (at + row_length width * length xs)) (wanted_logged t e) end

    abbrev onward : ℕ → ℕ → List Line → Values → Result ℕ Refusal
    onward most n rest us = replay_from t most (n + 1) (row_at at + length (logged t e)) rest us

    pub rows_bad : (wrong : BadRow) → r ≡ Err wrong → TakesStep t e i run at vs (Err (refused log_fault wrong.row)) us
    unfolding read_on replay_on
    rows_bad wrong q more hand most n = ap (λ (f : Found). judged t i e f (onward most n)) (ap (λ r. read_on t r e [] (run ++ more) us) (sym q) ∙ reads more hand)

    -- where the next step begins
    pub next_begins : (p : Place) → r ≡ Ok p → {g : Result Progress Refusal} → g ≡ step_progress t e i p us → BeginsWithin g at (length run)
    next_begins p q is = subst (λ g. BeginsWithin g at (length run)) (sym is) (go (eqb (step_fault t e us.present us.after) no_fault))
      where
        reached : (p.at ≡ at + row_length width * length (logged t e)) × (p.at ≤ length run)
        reached = subst (λ r. Reaches r run (at + row_length width * length (logged t e))) q last

        go : (b : Bool) → BeginsWithin (pick b (Ok (Going p)) (Err (refused (step_fault t e us.present us.after) i))) at (length run)
        go true = ((let k = reached.0 in omega (arith, k)), reached.1)
        go false = tt

    pub rows_judged : (p : Place) → r ≡ Ok p → {g : Result Progress Refusal} {ws : Values} → g ≡ step_progress t e i p us → ws ≡ step_values t e us → TakesStep t e i run at vs g ws
    unfolding read_on replay_on read_values
    rows_judged p q {g} {ws} is are more hand most n =
        ap₂ (λ g ws. replay_on t g most n (run ++ more) ws) is are ∙ go (eqb (step_fault t e us.present us.after) no_fault)
        ∙ ap (λ (f : Found). judged t i e f (onward most n)) (ap (λ r. read_on t r e [] (run ++ more) us) (sym q) ∙ reads more hand)
      where
        fault : ℕ
        fault = step_fault t e us.present us.after

        place : p.at ≡ at + row_length width * length (logged t e)
        place = (subst (λ r. Reaches r run (at + row_length width * length (logged t e))) q last).0

        row : row_at p.at ≡ row_at at + length (logged t e)
        row = ap row_at place ∙ omega arith

        go : (b : Bool) → replay_on t (pick b (Ok (Going p)) (Err (refused fault i))) most n (run ++ more) (pick b (moved t us) us)
            ≡ pick b (onward most n (lines_at (run ++ more) p.at) (moved t us)) (Err (refused fault i))
        go true = ap (λ j. replay_from t most (n + 1) j (lines_at (run ++ more) p.at) (moved t us)) row
        go false = refl

  -- ---- the step at a place, by what the reader finds
  module _ (n : ℕ) (run : List ℕ) (at : ℕ) (vs : Values) {f : Read} (seen : f ≡ read_at greatest width run at) where
    first_row_lem : (more : List ℕ) → AtHand run at (1 + count t 10) more → AtHand run at 1 more
    first_row_lem more (inl h) = inl (omega (arith, h))
    first_row_lem more (inr h) = inr h

    pub step_ended : {g : Result Progress Refusal} → g ≡ ended_after n → f ≡ read.End → ReplaysStep t n run at vs g vs
    unfolding replay_on replay_from
    step_ended g q more hand most =
        ap (λ g. replay_on t g most n (run ++ more) vs) g ∙ go (eqb n 0) ∙ sym (ap (λ ls. replay_from t (suc most) n (row_at at) ls vs) (end_lines run more at (first_row_lem more hand) seen q))
      where
        go : (b : Bool) → replay_on t (pick b (Err (refused log_fault 0)) (Ok (Ended (n - 1)))) most n (run ++ more) vs ≡ pick b (Err (refused log_fault 0)) (Ok (n - 1))
        go true = refl
        go false = refl

    pub end_begins : {g : Result Progress Refusal} (low high : ℕ) → g ≡ ended_after n → BeginsWithin g low high
    end_begins low high is = subst (λ g. BeginsWithin g low high) (sym is) (go (eqb n 0))
      where
        go : (b : Bool) → BeginsWithin (pick b (Err (refused log_fault 0)) (Ok (Ended (n - 1)))) low high
        go true = tt
        go false = tt

    pub step_malformed : {row : ℕ} → f ≡ read.Malformed → row ≡ row_at at → ReplaysStep t n run at vs (Err (refused log_fault row)) vs
    unfolding replay_on replay_from
    step_malformed q k more hand most =
        ap (λ r. Err (refused log_fault r)) k ∙ sym (ap (λ ls. replay_from t (suc most) n (row_at at) ls vs) (malformed_lines run more at (first_row_lem more hand) seen q).1)

    module _ (r : Row) (p : Place) (q : f ≡ read.Next r p) {good : Bool} (is : good ≡ is_step_row t (eqb n 0) r) where
      place : p.at ≡ at + row_length width
      place = (next_place run at seen r p q).0

      module _ (more : List ℕ) (hand : AtHand run at (1 + count t 10) more) where
        abbrev step : ℕ → Result ℕ Refusal
        step most =
            judged t (row_at at) r.a (read_values t r.a (logged t r.a) (row_at at + 1) (lines_at (run ++ more) p.at) vs)
            (λ rest ws. replay_from t most (n + 1) (row_at at + 1 + length (logged t r.a)) rest ws)

        by_row : (most : ℕ) (b : Bool) → is_step_row t (eqb n 0) r ≡ b → replay_from t (suc most) n (row_at at) (lines_at (run ++ more) at) vs ≡ pick b (step most) (Err (refused log_fault (row_at at)))
        unfolding replay_from
        by_row most b w =
            ap (λ ls. replay_from t (suc most) n (row_at at) ls vs) (row_lines run more at (first_row_lem more hand) seen r p q)
            ∙ ap (λ b. pick b (step most) (Err (refused log_fault (row_at at)))) w

        rows_at_hand : AtHand run p.at (length (logged t r.a)) more
        rows_at_hand = go hand
          where
            go : AtHand run at (1 + count t 10) more → AtHand run p.at (length (logged t r.a)) more
            go (inl h) = inl (let few = subst (λ xs. length xs ≤ count t 10) (wanted_logged t r.a) (wanted_within t false r.a) in omega (arith, h, place, few))
            go (inr h) = inr h

      pub row_within : p.at ≤ length run
      row_within = (next_place run at seen r p q).1

      pub step_begins : (g : Result Progress Refusal) → BeginsWithin g p.at (length run) → BeginsWithin g (at + row_length width) (length run)
      step_begins g = subst (λ low. BeginsWithin g low (length run)) place

      pub step_taken : (g : Result Progress Refusal) (ws : Values) {row : ℕ} → good ≡ true → row ≡ row_at at → TakesStep t r.a row run p.at vs g ws → ReplaysStep t n run at vs g ws
      step_taken g ws b row takes more hand most =
          takes more (rows_at_hand more hand) most n
          ∙ ap₂ (λ i j. judged t i r.a (read_values t r.a (logged t r.a) j (lines_at (run ++ more) p.at) vs) (λ rest ws. replay_from t most (n + 1) (j + length (logged t r.a)) rest ws)) row (ap row_at place ∙ omega arith)
          ∙ sym (by_row more hand most true (sym is ∙ b))

      pub step_wrong : {row : ℕ} → good ≡ false → row ≡ row_at at → ReplaysStep t n run at vs (Err (refused log_fault row)) vs
      unfolding replay_on
      step_wrong b k more hand most = ap (λ r. Err (refused log_fault r)) k ∙ sym (by_row more hand most false (sym is ∙ b))

-- the reply of a table's bytes
pub replay_is : (table run : List ℕ) → replay table run ≡ replay_by (verdict table) (replay_log (decoded table) run)
unfolding replay
replay_is table run = refl

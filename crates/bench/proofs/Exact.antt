-- 02, request 6, over bytes and records: pressing performs a step exactly where the table is accepted, the records are a state of it and the rows are a step of the run from
-- that state, no term of which leaves 64 bits, and the new records are what the step leaves; a preview is that in another list of the same length; and a refusal changes
-- no record.
use Prim.Native.Nat.{ℕ}
use mathlib.Core.Path.{◌≡◌, refl, sym, ap, ◌∙◌, subst}
use mathlib.Core.Bool.{true, false, true≢false}
use mathlib.Core.List.{List}
use mathlib.Core.Logic.{◌↔◌}
use lib.IntN.{ℤ}
use lib.ListN.{length}
use Rattle.std.specs.Prelude.{Result, Ok, Err}
use Rattle.table.specs.Rows.{count}
use Rattle.rules.specs.declared.Refusal.{Refusal}
use Rattle.rules.specs.Refusal.{refused as refusal}
use Rattle.rules.specs.Decoded.{decoded}
use Rattle.rules.specs.Verdict.{verdict as verdict_of}
use Rattle.rules.proofs.Obeys.{Obeys}
use Rattle.rules.proofs.Accepted.{accepted_none, none_obeys}
use Rattle.bench.specs.declared.Record.{Record}
use Rattle.bench.specs.State.{values_in, types_in, with_values_of}
use Rattle.bench.specs.Press.{Outcome, made, refused, press_on, outcome_by, outcome, reply_of, kept_or, records_outcome, Pressed, press, Previewed, preview}
use Rattle.bench.specs.Pressed.{Presses}
use Rattle.bench.proofs.Lengths.{made_pressing, outcome_made, outcome_length}
use Rattle.bench.proofs.Pressed.{made_pressed, pressed_made}
use Rattle.bench.proofs.Records.{values_length}

pub performed_never : {n row : ℕ} → ◌≡◌ {A = Result (Unit {0}) Refusal} (Err (refusal n row)) (Ok tt) → ⊥
performed_never e = true≢false (ap (λ (p : Result (Unit {0}) Refusal). elim p [ Ok done ↦ false | Err r ↦ true ]) e)

pub accepted_obeys : (table : List ℕ) (n : ℕ) → verdict_of table ≡ Ok n → Obeys (decoded table)
accepted_obeys table n a = none_obeys table (accepted_none table n a).0

-- ---- a list by an outcome
module _ {A : Type 0} (f : List ℤ → List A) (xs : List A) where
  -- it is performed exactly where something is made
  by_made : (o : Outcome) (ys : List A) → reply_of o ≡ Ok tt → kept_or f xs o ≡ ys → (zs : List ℤ) × (o ≡ made zs) × (ys ≡ f zs)
  by_made (made zs) ys p q = (zs, refl, sym q)
  by_made (refused n row) ys p q = absurd (performed_never p)

  kept : (o : Outcome) (n row : ℕ) → reply_of o ≡ Err (refusal n row) → kept_or f xs o ≡ xs
  kept (made zs) n row h = absurd (performed_never (sym h))
  kept (refused m i) n row h = refl

pub press_made : (table step : List ℕ) (state state' : List Record) → press table step state ≡ record { reply = Ok tt; state = state' }
    → (zs : List ℤ) × (records_outcome table step state (length state) ≡ made zs) × (state' ≡ with_values_of zs state)
unfolding press
press_made table step state state' h =
    by_made (λ zs. with_values_of zs state) state (records_outcome table step state (length state)) state' (ap (λ (p : Pressed). p.reply) h) (ap (λ (p : Pressed). p.state) h)

pub made_press : (table step : List ℕ) (state : List Record) (zs : List ℤ) → records_outcome table step state (length state) ≡ made zs
    → press table step state ≡ record { reply = Ok tt; state = with_values_of zs state }
unfolding press
made_press table step state zs e = ap (λ (o : Outcome). record { reply = reply_of o; state = kept_or (λ zs. with_values_of zs state) state o }) e

-- the outcome on records, by the table's rows
pub records_made : (table step : List ℕ) (state : List Record) (n : ℕ) (zs : List ℤ) → verdict_of table ≡ Ok n
    → press_on (decoded table) step (values_in state) (types_in state) (length state) ≡ made zs → records_outcome table step state (length state) ≡ made zs
unfolding records_outcome outcome
records_made table step state n zs a h = ap (λ v. outcome_by v (press_on (decoded table) step (values_in state) (types_in state) (length state))) a ∙ h

pub made_records : (table step : List ℕ) (state : List Record) (room : ℕ) (zs : List ℤ) → records_outcome table step state room ≡ made zs
    → (n : ℕ) × (verdict_of table ≡ Ok n) × (press_on (decoded table) step (values_in state) (types_in state) room ≡ made zs)
unfolding records_outcome
made_records table step state room zs h = outcome_made table step (values_in state) (types_in state) room zs h

-- what is made has as many records as the state
made_room : (table step : List ℕ) (state : List Record) (room : ℕ) (zs : List ℤ) → records_outcome table step state room ≡ made zs → room ≡ length state
unfolding records_outcome
made_room table step state room zs h = (outcome_length table step (values_in state) (types_in state) room zs h).2 ∙ values_length state

pub made_size : (table step : List ℕ) (state : List Record) (room : ℕ) (zs : List ℤ) → records_outcome table step state room ≡ made zs → length zs ≡ length state
unfolding records_outcome
made_size table step state room zs h = (outcome_length table step (values_in state) (types_in state) room zs h).0 ∙ values_length state

-- a step is performed exactly where the event has it
pub press_exact : (table step : List ℕ) (state state' : List Record) → (press table step state ≡ record { reply = Ok tt; state = state' }) ↔ Presses table step state state'
press_exact table step state state' = (forth, back)
  where
    forth : press table step state ≡ record { reply = Ok tt; state = state' } → Presses table step state state'
    forth h =
        let (zs, m, w) = press_made table step state state' h in
        let (n, a, on) = made_records table step state (length state) zs m in
        let t = decoded table in
        record {
          count = n;
          accepted = a;
          is_state = (made_pressing t step (values_in state) (types_in state) (length state) zs on).right;
          values = zs;
          pressed = made_pressed t (accepted_obeys table n a) step (values_in state) (types_in state) (length state) zs on;
          records = w;
        }

    back : Presses table step state state' → press table step state ≡ record { reply = Ok tt; state = state' }
    back p =
        let room : length state ≡ count (decoded table) 10 = sym (values_length state) ∙ p.is_state.size in
        let on = pressed_made (decoded table) (accepted_obeys table p.count p.accepted) step (values_in state) (types_in state) (length state) p.values p.is_state room p.pressed in
        made_press table step state p.values (records_made table step state p.count p.values p.accepted on) ∙ ap (λ rs. record { reply = Ok tt; state = rs }) (sym p.records)

-- "no record changes on a refusal"
pub press_keeps : (table step : List ℕ) (state : List Record) (n row : ℕ) → (press table step state).reply ≡ Err (refusal n row) → (press table step state).state ≡ state
unfolding press
press_keeps table step state n row h = kept (λ zs. with_values_of zs state) state (records_outcome table step state (length state)) n row h

-- the second list of a preview is what pressing makes of the first, where it is as long, and only there
pub preview_press : (table step : List ℕ) (first second second' : List Record)
    → (preview table step first second ≡ record { reply = Ok tt; first = first; second = second' })
    ↔ ((length second ≡ length first) × (press table step first ≡ record { reply = Ok tt; state = second' }))
unfolding preview
preview_press table step first second second' = (forth, back)
  where
    forth : preview table step first second ≡ record { reply = Ok tt; first = first; second = second' }
        → (length second ≡ length first) × (press table step first ≡ record { reply = Ok tt; state = second' })
    forth h =
        let (zs, m, w) = by_made (λ zs. with_values_of zs first) second (records_outcome table step first (length second)) second' (ap (λ (p : Previewed). p.reply) h) (ap (λ (p : Previewed). p.second) h) in
        let room : length second ≡ length first = made_room table step first (length second) zs m in
        (room, made_press table step first zs (subst (λ n. records_outcome table step first n ≡ made zs) room m) ∙ ap (λ rs. record { reply = Ok tt; state = rs }) (sym w))

    back : (length second ≡ length first) × (press table step first ≡ record { reply = Ok tt; state = second' })
        → preview table step first second ≡ record { reply = Ok tt; first = first; second = second' }
    back (room, h) =
        let (zs, m, w) = press_made table step first second' h in
        ap (λ (o : Outcome). record { reply = reply_of o; first = first; second = kept_or (λ zs. with_values_of zs first) second o }) (ap (records_outcome table step first) room ∙ m)
        ∙ ap (λ rs. record { reply = Ok tt; first = first; second = rs }) (sym w)

-- "which keeps its records"
pub preview_first : (table step : List ℕ) (first second : List Record) → (preview table step first second).first ≡ first
unfolding preview
preview_first table step first second = refl

pub preview_keeps : (table step : List ℕ) (first second : List Record) (n row : ℕ) → (preview table step first second).reply ≡ Err (refusal n row) → (preview table step first second).second ≡ second
unfolding preview
preview_keeps table step first second n row h = kept (λ zs. with_values_of zs first) second (records_outcome table step first (length second)) n row h

-- What an anticipated event has of a convergent one: all its sequents but NAT, with form 9 in the place of form 8; and what form 9 says beside form 8: it is met
-- wherever form 8 is, where the variant's value stays, and nowhere else, by the order of the whole numbers.
use mathlib.Core.Path.{◌≡◌, sym, subst, ◌∙◌}
use mathlib.Core.List.{List, ◌++◌, append_assoc}
use mathlib.Core.Logic.{◌⊎◌, inl, inr}
use Prim.Native.Nat.{ℕ}
use lib.Dec.{T}
use lib.IntN.{ℤ}
use Rattle.formula.specs.Values.{as_number, at_mostℤ}
use Rattle.formula.specs.Evaluate.{Env, evaluate}
use Rattle.formula.specs.AfterValues.{at_after}
use Rattle.formula.proofs.Order.{at_most_refl, at_most_antisym, at_most_or_less, less_at_most}
use Rattle.machine.specs.Machine.{Role, convergent, anticipated, Machine}
use Rattle.sequent.specs.Entry.{decreases, not_increased, variable}
use Rattle.sequent.specs.Sequent.{Sequent, Meets}
use Rattle.sequent.specs.Listed.{sim_sequents, inv, variant_sequents, event_sequents}
use Rattle.sequent.proofs.Parts.{guard_wds, action_wds, action_fiss, of_witnesses, grds, nats, vars, event_sequents_parts}

module _ (m : Machine) (ρ : Env m.type) (r : ℕ) where
  -- the variant's value after a step, and before it
  abbrev value_after_of : ℤ
  value_after_of = as_number (evaluate ρ (at_after (variable m) (m.tree r)))

  abbrev value_before : ℤ
  value_before = as_number (evaluate ρ (m.tree r))

  pub stays_not_increased : value_after_of ≡ value_before → Meets m ρ (not_increased r)
  unfolding evaluate
  stays_not_increased e = subst (λ v. T (at_mostℤ v value_before)) (sym e) (at_most_refl value_before)

  pub decreases_not_increased : Meets m ρ (decreases r) → Meets m ρ (not_increased r)
  unfolding evaluate
  decreases_not_increased h = less_at_most value_after_of value_before h

  pub not_increased_either : Meets m ρ (not_increased r) → Meets m ρ (decreases r) ⊎ (value_after_of ≡ value_before)
  unfolding evaluate
  not_increased_either h = go (at_most_or_less value_before value_after_of)
    where
      go : T (at_mostℤ value_before value_after_of) ⊎ Meets m ρ (decreases r) → Meets m ρ (decreases r) ⊎ (value_after_of ≡ value_before)
      go (inl k) = inr (at_most_antisym value_after_of value_before h k)
      go (inr l) = inl l

module _ (m : Machine) (e : ℕ) where
  -- all sequents but NAT and VAR
  abbrev pub others : Role → List Sequent
  others ro = guard_wds m ro e ++ (action_wds m ro e ++ (action_fiss m ro e ++ (of_witnesses m ro e ++ (grds m ro e ++ (sim_sequents m ro e ++ inv m ro e)))))

  others_then : (ro : Role) → event_sequents m e ro ≡ others ro ++ variant_sequents m ro e
  others_then ro = event_sequents_parts m ro e ∙ simp append_assoc

  -- 02, request 1: "It has all sequents of a convergent event except NAT, and its VAR goal is variant after ≤ variant"
  pub convergent_sequents : event_sequents m e convergent ≡ others convergent ++ (nats m convergent e ++ vars m convergent e decreases)
  convergent_sequents = others_then convergent

  pub anticipated_sequents : event_sequents m e anticipated ≡ others convergent ++ vars m convergent e not_increased
  anticipated_sequents = others_then anticipated

-- The list has exactly the required sequents, for every machine: it keeps those of the obligations that are needed, and an obligation is dropped exactly where it
-- isn't, by its goal.
use mathlib.Core.Path.{◌≡◌, refl, subst, ap, ◌∙◌}
use mathlib.Core.Bool.{Bool, true, false, true≢false, ◌||◌}
use mathlib.Core.List.{List, [], ◌∷◌}
use mathlib.Core.Logic.{◌↔◌}
use Prim.Native.Nat.{ℕ}
use lib.Dec.{T}
use Rattle.lists.specs.All.{All, all_nil, all_cons, In}
use Rattle.lists.specs.Different.{some_of}
use Rattle.lists.proofs.Below.{keep_in, in_keep}
use Rattle.formula.specs.Identifiers.{identifiers}
use Rattle.formula.proofs.Truth.{true_test, or_neither}
use Rattle.machine.specs.Machine.{Action, unassigned, becomes_equal, becomes_such_that, Machine}
use Rattle.sequent.specs.Sequent.{Sequent}
use Rattle.sequent.specs.Required.{Obligation, wd_formula, wd_variant, wd_guard, wd_action, fis, wd_witness, wfis, grd, sim, sim_of_new, inv, inv_new, nat, var}
use Rattle.sequent.specs.Required.{var_anticipated, keeps_invariants, Dropped, no_division, untouched, Required}
use Rattle.sequent.specs.Listed.{is_assigned, touched, needed, obligations, sequents}
use Rattle.sequent.proofs.Exact.{listed_obligation, obligation_listed}

-- an event that assigns none of a list's identifiers
action_none : (a : Action) → is_assigned a ≡ false → a ≡ unassigned
action_none unassigned e = refl
action_none (becomes_equal r) e = absurd (true≢false e)
action_none (becomes_such_that r) e = absurd (true≢false e)

none_assigned : (action : ℕ → Action) (xs : List ℕ) → some_of (λ x. is_assigned (action x)) xs ≡ false → All (λ x. action x ≡ unassigned) xs
unfolding some_of
none_assigned action [] e = all_nil
none_assigned action (x ∷ xs) e =
    let p = or_neither (is_assigned (action x)) (some_of (λ x. is_assigned (action x)) xs) e in
    all_cons (action_none (action x) p.0) (none_assigned action xs p.1)

assigned_none : (action : ℕ → Action) (xs : List ℕ) → All (λ x. action x ≡ unassigned) xs → some_of (λ x. is_assigned (action x)) xs ≡ false
unfolding some_of
assigned_none action [] all_nil = refl
assigned_none action (x ∷ xs) (all_cons p ps) = ap (λ a. is_assigned a || some_of (λ x. is_assigned (action x)) xs) p ∙ assigned_none action xs ps

module _ (m : Machine) where
  pub invariant_dropped : (e r : ℕ) → keeps_invariants (m.role e) || touched m e r ≡ false
      → (keeps_invariants (m.role e) ≡ false) × All (λ x. m.action e x ≡ unassigned) (identifiers (m.tree r))
  invariant_dropped e r p =
      let q = or_neither (keeps_invariants (m.role e)) (touched m e r) p in (q.0, none_assigned (m.action e) (identifiers (m.tree r)) q.1)

  -- an obligation that isn't needed is dropped
  pub obligation_dropped : {s : Sequent} → Obligation m s → needed m s ≡ false → Dropped m s
  obligation_dropped (wd_formula before rest p) n = no_division n
  obligation_dropped (wd_variant i) n = no_division n
  obligation_dropped (wd_guard before rest at p) n = no_division n
  obligation_dropped (wd_action at i a) n = no_division n
  obligation_dropped (fis at i a) n = absurd (true≢false n)
  obligation_dropped (wd_witness at i) n = no_division n
  obligation_dropped (wfis at i) n = absurd (true≢false n)
  obligation_dropped (grd at c i) n = absurd (true≢false n)
  obligation_dropped (sim at c i) n = absurd (true≢false n)
  obligation_dropped (sim_of_new at c i) n = absurd (true≢false n)
  obligation_dropped (inv {e} {r} at c i) n = let p = invariant_dropped e r n in untouched p.0 p.1
  obligation_dropped (inv_new {e} {r} at c i) n = let p = invariant_dropped e r n in untouched p.0 p.1
  obligation_dropped (nat at c i) n = absurd (true≢false n)
  obligation_dropped (var at c i) n = absurd (true≢false n)
  obligation_dropped (var_anticipated at c i) n = absurd (true≢false n)

  -- and a dropped sequent isn't needed
  pub dropped_unneeded : {s : Sequent} → Dropped m s → needed m s ≡ false
  dropped_unneeded (no_division p) = p
  dropped_unneeded (untouched {e} {r} p q) = ap (λ b. b || touched m e r) p ∙ assigned_none (m.action e) (identifiers (m.tree r)) q

  pub listed_required : {s : Sequent} → In s (sequents m) → Required m s
  unfolding sequents
  listed_required {s} i =
      let k = in_keep (needed m) (obligations m) i in
      (listed_obligation m k.0, λ d. subst T (dropped_unneeded d) k.1)

  pub required_listed : {s : Sequent} → Required m s → In s (sequents m)
  unfolding sequents
  required_listed {s} (o, kept) = keep_in (needed m) (obligation_listed m o) (by_test (needed m s) refl)
    where
      by_test : (b : Bool) → needed m s ≡ b → T (needed m s)
      by_test true p = true_test (needed m s) p
      by_test false p = absurd (kept (obligation_dropped o p))

  pub listed_exactly : {s : Sequent} → In s (sequents m) ↔ Required m s
  listed_exactly = (listed_required, required_listed)

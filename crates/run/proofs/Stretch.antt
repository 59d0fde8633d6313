-- What `of_run`, `Matches` and the bound on stretches say in the papers' words: the steps of a run are those of the concrete events but the initialisation; the
-- abstract state stays at a new event's step; a stretch grows by a step at its front; and along a safe run every stretch is bounded, wherever it begins and ends.
-- By cases on the roles, and by recursion on the steps before the stretch.
use Prim.Native.Nat.{ℕ, zero, suc}
use mathlib.Core.Path.{◌≡◌, refl, sym, ap, ◌∙◌, subst}
use mathlib.Core.Bool.{Bool, true, false, ◌&&◌}
use mathlib.Core.List.{List, [], ◌∷◌, ◌++◌, map}
use mathlib.Core.Logic.{◌⊎◌, inl, inr}
use native.Mathlib.Omega.{arith}
use lib.Dec.{T}
use lib.ListN.{length, take}
use lib.Seq.{take-append_seam}
use Rattle.lists.specs.All.{All, all_nil, all_cons, In}
use Rattle.lists.specs.Below.{keep}
use Rattle.lists.specs.Choice.{pick}
use Rattle.lists.proofs.All.{all_imp}
use Rattle.machine.specs.Machine.{Role, abstract_initialisation, abstract_ordinary, concrete_initialisation, refining, convergent, anticipated, Machine}
use Rattle.sequent.specs.Required.{is_concrete, is_new}
use Rattle.run.specs.Run.{State, blank, world, AllReadTrue, Step, Taken, of_run, Follows, Match, Matches}
use Rattle.run.specs.SafeRun.{is_convergent, not_initial, of_stretch, Unbroken, convergent_steps, Bounded, StretchesBounded, Along, Safe}

module _ (m : Machine) where
  -- "other concrete events"
  pub of_run_others : (ro : Role) → of_run m ro ≡ is_concrete ro && not_initial m ro
  of_run_others abstract_initialisation = refl
  of_run_others abstract_ordinary = refl
  of_run_others (concrete_initialisation f) = refl
  of_run_others (refining f) = refl
  of_run_others convergent = refl
  of_run_others anticipated = refl

  -- a step of a new event is matched by no abstract step: "the abstract state stays"
  pub new_stays_lem : (ro : Role) (c a q a' : State m) → T (is_new ro) → Matches m ro c a q a' → a' ≡ a
  new_stays_lem abstract_initialisation c a q a' new h = absurd new
  new_stays_lem abstract_ordinary c a q a' new h = absurd new
  new_stays_lem (concrete_initialisation f) c a q a' new h = absurd new
  new_stays_lem (refining f) c a q a' new h = absurd new
  new_stays_lem convergent c a q a' new h = h
  new_stays_lem anticipated c a q a' new h = h

  -- no stretch begins where there are no more steps
  pub no_stretch : (c k : State m) → StretchesBounded m c k []
  unfolding keep
  no_stretch c k zero u l = absurd (omega arith)
  no_stretch c k (suc n) u l = absurd (omega arith)

  -- a step more counts where it is convergent
  steps_more : (s : Taken m) (ss : List (Taken m))
      → convergent_steps m (s ∷ ss) ≡ pick (is_convergent (m.role s.event)) (suc (convergent_steps m ss)) (convergent_steps m ss)
  unfolding keep
  steps_more s ss = go (is_convergent (m.role s.event))
    where
      rest : List (Taken m)
      rest = keep (λ s. is_convergent (m.role s.event)) ss

      go : (b : Bool) → length (pick b (s ∷ rest) rest) ≡ pick b (suc (length rest)) (length rest)
      go true = refl
      go false = refl

  -- a step before stretches that are bounded
  pub stretch_more : (c k k' : State m) (s : Taken m) (ss : List (Taken m))
      → (T (of_stretch m (m.role s.event)) → (n : ℕ) → Bounded m c k' n → Bounded m c k (pick (is_convergent (m.role s.event)) (suc n) n))
      → StretchesBounded m c k' ss → StretchesBounded m c k (s ∷ ss)
  stretch_more c k k' s ss more b zero u = no_stretch c k zero all_nil
  stretch_more c k k' s ss more b (suc n) (all_cons h hs) =
      subst (Bounded m c k) (sym (steps_more s (take n ss))) (more h (convergent_steps m (take n ss)) (b n hs))

  -- the last of the states k, ..; the state that steps from k leave
  abbrev pub last_of : State m → List (State m) → State m
  last_of k [] = k
  last_of k (s ∷ ss) = last_of s ss

  abbrev pub state_after : State m → List (Taken m) → State m
  state_after k ss = last_of k (map (λ s. s.result) ss)

  along_stretches : (c a k : State m) (before ss : List (Taken m)) (ts : List (Match m)) → Along m c a k (before ++ ss) ts
      → StretchesBounded m c (state_after k before) ss
  along_stretches c a k [] [] ts h = no_stretch c k
  along_stretches c a k [] (s ∷ ss) [] h = absurd h
  along_stretches c a k [] (s ∷ ss) (t ∷ ts) h = h.1
  along_stretches c a k (s ∷ before) ss [] h = absurd h
  along_stretches c a k (s ∷ before) ss (t ∷ ts) h = along_stretches c t.result s.result before ss ts h.3

  -- "both classes"
  both_classes : (ro : Role) → (ro ≡ convergent) ⊎ (ro ≡ anticipated) → T (of_stretch m ro)
  both_classes ro (inl e) = subst (λ ro. T (of_stretch m ro)) (sym e) tt
  both_classes ro (inr e) = subst (λ ro. T (of_stretch m ro)) (sym e) tt

  all_convergent : (ss : List (Taken m)) → All (λ s. m.role s.event ≡ convergent) ss → convergent_steps m ss ≡ length ss
  unfolding keep
  all_convergent [] all_nil = refl
  all_convergent (s ∷ ss) (all_cons h hs) =
      steps_more s ss
      ∙ ap (λ ro. pick (is_convergent ro) (suc (convergent_steps m ss)) (convergent_steps m ss)) h
      ∙ ap suc (all_convergent ss hs)

  -- a safe machine, and a run of it: constants that meet the axioms, an outcome k of the initialisation, and steps before a stretch, of the stretch and after it
  module _ (safe : Safe m) {e f : ℕ} (i : In e m.events) (role : m.role e ≡ concrete_initialisation f) (c : State m)
      (axioms : AllReadTrue m (world m c (blank m) (blank m) (blank m) (blank m) (blank m) (blank m)) m.axioms) (k : State m)
      (start : Step m (concrete_initialisation f) e c (blank m) (blank m) k) (before stretch rest : List (Taken m))
      (follows : Follows m c k (before ++ (stretch ++ rest))) where
    -- 02, request 1: "in an unbroken stretch of both classes that holds a convergent step, the convergent steps number at most the variant's value before the
    -- stretch plus one", wherever the stretch begins and ends
    pub stretch_bounded : All (λ s. (m.role s.event ≡ convergent) ⊎ (m.role s.event ≡ anticipated)) stretch
        → Bounded m c (state_after k before) (convergent_steps m stretch)
    stretch_bounded both =
        let (a, ts, _, along) = ((safe.safe e f i role).1 c axioms).runs k start (before ++ (stretch ++ rest)) follows in
        let front = take-append_seam stretch rest in
        subst (λ ss. Bounded m c (state_after k before) (convergent_steps m ss)) front
        (along_stretches c a k before (stretch ++ rest) ts along (length stretch)
        (subst (Unbroken m) (sym front) (all_imp (λ s h. both_classes (m.role s.event) h) both)))

    -- 01, demand 3: "every unbroken stretch of one or more convergent steps has at most as many steps as the variant's value before it plus one"
    pub convergent_stretch_bounded : All (λ s. m.role s.event ≡ convergent) stretch → Bounded m c (state_after k before) (length stretch)
    convergent_stretch_bounded alone =
        subst (Bounded m c (state_after k before)) (all_convergent stretch alone) (stretch_bounded (all_imp (λ s h. inl h) alone))

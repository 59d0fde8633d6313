-- One concrete step is matched and leaves a pair of states that agree on the shared variables and at which the invariants are true. With the hidden values
-- that meet the witnesses, and the concrete ones of the shared variables, GRD and SIM make the abstract event's guards and moves true, so that it has a step
-- there, and INV of both events holds in the same world. At a new event's step the abstract state stays, and SIM keeps the shared variables.
use mathlib.Core.Path.{◌≡◌, refl, sym, subst, ◌∙◌}
use mathlib.Core.Bool.{not}
use mathlib.Core.Logic.{⊎_elim}
use mathlib.Core.List.{[], ◌++◌, map}
use Prim.Native.Nat.{ℕ, suc}
use lib.Dec.{T}
use Rattle.lists.specs.Choice.{pick}
use Rattle.lists.specs.All.{All, all_nil, In, here}
use Rattle.lists.proofs.All.{all_left, all_right, all_join, all_at, all_in, all_imp, all_map, all_unmap}
use Rattle.lists.proofs.Below.{in_keep}
use Rattle.formula.specs.Evaluate.{Env, True}
use Rattle.machine.specs.Machine.{Machine, abstractVariable, sharedVariable, is_shared, shared_variables, unshared_variables}
use Rattle.machine.specs.Machine.{Role, abstract_initialisation, abstract_ordinary, concrete_initialisation, refining, convergent, anticipated}
use Rattle.machine.proofs.Variables.{is_shared_lem}
use Rattle.sequent.specs.Entry.{written, primed, moves, natural, decreases, not_increased, unchanged, action_tree}
use Rattle.sequent.specs.Sequent.{Meets, Valid, sequent, NAT, VAR}
use Rattle.sequent.specs.Listed.{refined, base, guarded, moved, witness_entries, sim, sim_new, sim_sequents, inv_hypotheses, obligations}
use Rattle.sequent.specs.Required.{is_new, own_invariants}
use Rattle.sequent.proofs.Shared.{unchanged_same, same_unchanged}
use Rattle.run.specs.Run.{State, blank, world, Step, of_run, Match, Matches, AgreeOnShared}
use Rattle.run.specs.SafeRun.{is_convergent, own_state, not_initial, of_stretch, Bounded}
use Rattle.run.proofs.WellFormed.{WitnessSees, WellFormed}
use Rattle.run.proofs.Reading.{AllTrue}
use Rattle.run.proofs.Views.{same_shared, Shares}
use Rattle.run.proofs.Events.{EventValid, event_sees_lem, events_valid}
use Rattle.run.proofs.Steps.{step_moved, moved_step}
use Rattle.run.proofs.Witnesses.{matched, hidden_values, shared_values, entries_true, parameter_entries_true}
use Rattle.run.proofs.Pair.{AxiomsTrue, PairTrue, axioms_world, abstract_world, base_true, abstract_after_lem, concrete_after, pair_safe}
use Rattle.run.proofs.Variant.{convergent_bounded, anticipated_bounded}

-- the goals of an event's INV are true where the hypotheses are
invariants_true : (m : Machine) (ro : Role) (e : ℕ) → EventValid m ro e → (ρ : Env m.type) → All (Meets m ρ) (inv_hypotheses m ro e)
    → All (λ r. Meets m ρ (primed r)) (own_invariants m ro)
unfolding Valid
invariants_true m ro e valid ρ h = all_imp (λ r v. v ρ h) valid.invariant

-- a concrete event whose guards and moves are true, whatever the hidden values are
module _ (m : Machine) (ro : Role) (e : ℕ) (ws : All (WitnessSees m e) (m.witnesses e)) (valid : EventValid m ro e) (c a k p k' : State m)
    (mv : (q a' : State m) → All (Meets m (world m c a k q p a' k')) (moved m ro e)) where
  -- the abstract parameters and after values
  abstract_values : State m
  abstract_values = hidden_values m c a k p k' ro e ws valid (all_left _ _ (mv (blank m) (blank m))) (mv (blank m) (blank m))

  abbrev W : Env m.type
  W = matched m c a k p k' abstract_values

  witnessed_true : All (Meets m W) (moved m ro e ++ witness_entries m (m.witnesses e))
  unfolding abstract_values
  witnessed_true =
      all_join (mv abstract_values abstract_values)
      (entries_true m c a k p k' ro e ws valid (all_left _ _ (mv (blank m) (blank m))) (mv (blank m) (blank m)))

  simulated_true : (f : ℕ) → sim_sequents m ro e ≡ sim m ro e f → All (λ x. Meets m W (moves f x)) m.abstract_variables
  unfolding Valid
  simulated_true f p = all_imp (λ x v. v W witnessed_true) (all_unmap _ m.abstract_variables (subst (All (Valid m)) p valid.simulated))

  -- they agree with the concrete machine's on the shared variables
  agree_after : AgreeOnShared m abstract_values k'
  unfolding abstract_values
  agree_after = shared_values m c a k p k' ro e ws valid (all_left _ _ (mv (blank m) (blank m))) (mv (blank m) (blank m))

  strengthened_true : {f : ℕ} → In f (refined ro) → AllTrue m W (m.guards f)
  unfolding Valid abstract_values
  strengthened_true i =
      all_imp
      (λ r v. v W (all_join (all_left (guarded m ro e) _ (mv abstract_values abstract_values))
      (parameter_entries_true m c a k p k' ro e ws valid (all_left _ _ (mv (blank m) (blank m))) (mv (blank m) (blank m)))))
      (all_at valid.strengthened i)

-- an event without witnesses, whose base hypotheses, guards and moves are true
unwitnessed_true : (m : Machine) (ro : Role) (e : ℕ) (ρ : Env m.type) → m.witnesses e ≡ [] → All (Meets m ρ) (moved m ro e)
    → All (Meets m ρ) (moved m ro e ++ witness_entries m (m.witnesses e))
unwitnessed_true m ro e ρ n h = all_join h (subst (λ ws. All (Meets m ρ) (witness_entries m ws)) (sym n) all_nil)

module _ (m : Machine) where
  -- a concrete step from k to k' is matched
  pub record Matched (ro : Role) (c a k k' : State m) : Type 0 where
    pub match : Match m
    pub pair : PairTrue m c match.result k'
    pub matches : Matches m ro c a match.parameters match.result
    -- a step of a stretch bounds the stretch that it begins, where the stretch after it has n convergent steps and is bounded
    pub bounded : T (of_stretch m ro) → (n : ℕ) → Bounded m c k' n → Bounded m c k (pick (is_convergent ro) (suc n) n)

module _ (m : Machine) (wf : WellFormed m) (vs : All (Valid m) (obligations m)) where
  -- the guards and moves of a step from the pair are true, beside whatever the other machine does
  moved_true : (e : ℕ) → In e m.events → {ro : Role} → m.role e ≡ ro → T (not_initial m ro) → (c a k q p a' k' : State m) → PairTrue m c a k
      → Shares m ro a' k' → Step m ro e c (own_state m ro a k) (own_state m ro q p) (own_state m ro a' k') → All (Meets m (world m c a k q p a' k')) (moved m ro e)
  moved_true e i {ro} role l c a k q p a' k' h z s =
      step_moved m ro e (event_sees_lem m wf e i role) c a k q p a' k' (own_state m ro q p) (λ t. refl) (λ t. h.shared) z (base_true m wf c a k h q p a' k' ro l) s

  refining_matched : (e f : ℕ) → In e m.events → m.role e ≡ refining f → (c a k p k' : State m) → PairTrue m c a k → Step m (refining f) e c k p k'
      → Matched m (refining f) c a k k'
  refining_matched e f i role c a k p k' h s =
      let (j, abstract, none) = wf.refines e f i role in
      let ws = wf.witnesses_see e i in
      let valid = events_valid m vs e i role in
      let valid' = events_valid m vs f j abstract in
      let mv : (q a' : State m) → All (Meets m (world m c a k q p a' k')) (moved m (refining f) e) = λ q a'. moved_true e i role tt c a k q p a' k' h (λ t. absurd t) s in
      let w : State m = abstract_values m (refining f) e ws valid c a k p k' mv in
      let ρ : Env m.type = matched m c a k p k' w in
      let same : AgreeOnShared m w k' = agree_after m (refining f) e ws valid c a k p k' mv in
      let b : All (Meets m ρ) (base m abstract_ordinary) = base_true m wf c a k h w p w k' abstract_ordinary tt in
      let g : AllTrue m ρ (m.guards f) = strengthened_true m (refining f) e ws valid c a k p k' mv (here refl) in
      let ts : All (λ x. Meets m ρ (moves f x)) m.abstract_variables = simulated_true m (refining f) e ws valid c a k p k' mv f refl in
      let known : All (Meets m ρ) (moved m abstract_ordinary f) = all_join (all_join b (all_map written g)) (all_map (moves f) ts) in
      record {
        match = record { parameters = w; result = w };
        pair = record {
          shared = same;
          axioms = h.axioms;
          abstract_invariants =
              abstract_after_lem m wf c a k w p w k' (invariants_true m abstract_ordinary f valid' ρ (unwitnessed_true m abstract_ordinary f ρ none known));
          concrete_invariants =
              concrete_after m wf c a k w p w k' (invariants_true m (refining f) e valid ρ (witnessed_true m (refining f) e ws valid c a k p k' mv));
        };
        matches = (j, abstract, moved_step m abstract_ordinary f (event_sees_lem m wf f j abstract) c a k w p w k' w (λ t. refl) (λ t. h.shared) (λ t. same) valid' b g ts);
        bounded = λ t. absurd t;
      }

  -- an outcome of the concrete initialisation is matched by one of the abstract initialisation
  pub initialisation_matched : (e f : ℕ) → In e m.events → m.role e ≡ concrete_initialisation f → (c k' : State m)
      → AxiomsTrue m c → Step m (concrete_initialisation f) e c (blank m) (blank m) k'
      → (a : State m) × PairTrue m c a k' × Step m abstract_initialisation f c (blank m) (blank m) a
  initialisation_matched e f i role c k' x s =
      let z : State m = blank m in
      let (j, abstract, _, free, none) = wf.initialises e f i role in
      let ws = wf.witnesses_see e i in
      let valid = events_valid m vs e i role in
      let valid' = events_valid m vs f j abstract in
      let mv : (q a' : State m) → All (Meets m (world m c z z q z a' k')) (moved m (concrete_initialisation f) e) =
      λ q a'. step_moved m (concrete_initialisation f) e (event_sees_lem m wf e i role) c z z q z a' k' z (λ t. absurd t) (λ t. absurd t) (λ t. absurd t)
      (all_map written (axioms_world m wf c x z z q z a' k')) s in
      let w : State m = abstract_values m (concrete_initialisation f) e ws valid c z z z k' mv in
      let ρ : Env m.type = matched m c z z z k' w in
      let same : AgreeOnShared m w k' = agree_after m (concrete_initialisation f) e ws valid c z z z k' mv in
      let b : All (Meets m ρ) (base m abstract_initialisation) = all_map written (axioms_world m wf c x z z w z w k') in
      let g : AllTrue m ρ (m.guards f) = subst (AllTrue m ρ) (sym free) all_nil in
      let ts : All (λ x. Meets m ρ (moves f x)) m.abstract_variables = simulated_true m (concrete_initialisation f) e ws valid c z z z k' mv f refl in
      let known : All (Meets m ρ) (moved m abstract_initialisation f) = all_join (all_join b (all_map written g)) (all_map (moves f) ts) in (
        w,
        record {
          shared = same;
          axioms = x;
          abstract_invariants =
              abstract_after_lem m wf c z z w z w k'
              (invariants_true m abstract_initialisation f valid' ρ (unwitnessed_true m abstract_initialisation f ρ none known));
          concrete_invariants =
              concrete_after m wf c z z w z w k'
              (invariants_true m (concrete_initialisation f) e valid ρ (witnessed_true m (concrete_initialisation f) e ws valid c z z z k' mv));
        },
        moved_step m abstract_initialisation f (event_sees_lem m wf f j abstract) c z z w z w k' z (λ t. absurd t) (λ t. same_shared m z) (λ t. same) valid' b g ts,
      )

  -- a variable of the abstract machine that is not shared is of its own kind
  unshared_kind : (x : ℕ) → In x (unshared_variables m) → m.kind x ≡ abstractVariable
  unshared_kind x i =
      let (j, other) = in_keep (λ x. not (is_shared (m.kind x))) m.abstract_variables i in
      ⊎_elim (λ e. e) (λ e. absurd (subst (λ K. T (not (is_shared K))) e.0 other)) (all_at wf.abstract_variables_kind j)

  -- a new event's abstract variables keep their values
  stays_true : (e : ℕ) → In e m.events → T (is_new (m.role e)) → (c a k q p k' : State m)
      → All (Meets m (world m c a k q p a k')) (map (moves e) (unshared_variables m))
  stays_true e i new c a k q p k' = all_map (moves e) (all_in (unshared_variables m) (λ x j.
      let ρ : Env m.type = world m c a k q p a k' in
      let kept : ρ.after x ≡ ρ.present x = rw (unshared_kind x j) in
      subst (λ A. True ρ (action_tree m A x)) (sym (all_at (wf.new_stays e i new) j)) (same_unchanged m ρ x kept)))

  -- by its SIM its shared variables keep theirs
  shared_stays : (ro : Role) (e : ℕ) → In e m.events → m.role e ≡ ro → T (is_new ro) → (c a k q p a' k' : State m)
      → All (Meets m (world m c a k q p a' k')) (moved m ro e) → AgreeOnShared m k k'
  unfolding Valid
  shared_stays ro e i role new c a k q p a' k' mv = all_in (shared_variables m) (λ x j.
      go x (is_shared_lem (m.kind x) (in_keep (λ x. is_shared (m.kind x)) m.abstract_variables j).1)
      (all_at (all_unmap _ (shared_variables m) (subst (All (Valid m)) (new_sims ro new) (events_valid m vs e i role).simulated)) j ρ mv))
    where
      ρ : Env m.type
      ρ = world m c a k q p a' k'

      new_sims : (ro : Role) → T (is_new ro) → sim_sequents m ro e ≡ sim_new m ro e
      new_sims abstract_initialisation t = absurd t
      new_sims abstract_ordinary t = absurd t
      new_sims (concrete_initialisation f) t = absurd t
      new_sims (refining f) t = absurd t
      new_sims convergent t = refl
      new_sims anticipated t = refl

      go : (x : ℕ) → m.kind x ≡ sharedVariable → Meets m ρ (unchanged x) → k x ≡ k' x
      go x q h =
          let before : ρ.present x ≡ k x = rw q in
          let later : ρ.after x ≡ k' x = rw q in
          sym before ∙ sym (unchanged_same m ρ x h) ∙ later

  -- after a new event's step the invariants are true, with the abstract state as it was
  new_pair : (ro : Role) (e : ℕ) → In e m.events → m.role e ≡ ro → T (is_new ro) → (c a k p k' : State m) → PairTrue m c a k
      → All (Meets m (world m c a k (blank m) p a k')) (moved m ro e) → PairTrue m c a k'
  new_pair ro e i role new c a k p k' h mv = record {
    shared = all_in (shared_variables m) (λ x j. all_at h.shared j ∙ all_at stay j);
    axioms = h.axioms;
    abstract_invariants = abstract_world m wf c a k h k' _ _ _ _ stay;
    concrete_invariants = concrete_after m wf c a k (blank m) p a k' (go ro new (events_valid m vs e i role) mv);
  }
    where
      ρ : Env m.type
      ρ = world m c a k (blank m) p a k'

      stay : AgreeOnShared m k k'
      stay = shared_stays ro e i role new c a k (blank m) p a k' mv

      stays : All (Meets m ρ) (map (moves e) (unshared_variables m))
      stays = stays_true e i (subst (λ o. T (is_new o)) (sym role) new) c a k (blank m) p k'

      go : (ro : Role) → T (is_new ro) → EventValid m ro e → All (Meets m ρ) (moved m ro e) → All (λ r. Meets m ρ (primed r)) m.concrete_invariants
      go abstract_initialisation t valid mv = absurd t
      go abstract_ordinary t valid mv = absurd t
      go (concrete_initialisation f) t valid mv = absurd t
      go (refining f) t valid mv = absurd t
      go convergent t valid mv = invariants_true m convergent e valid ρ (all_join mv stays)
      go anticipated t valid mv = invariants_true m anticipated e valid ρ (all_join mv stays)

  convergent_matched : (e : ℕ) → In e m.events → m.role e ≡ convergent → (c a k p k' : State m) → PairTrue m c a k → Step m convergent e c k p k'
      → Matched m convergent c a k k'
  unfolding Valid
  convergent_matched e i role c a k p k' h s =
      let valid = events_valid m vs e i role in
      let ρ : Env m.type = world m c a k (blank m) p a k' in
      let mv : All (Meets m ρ) (moved m convergent e) = moved_true e i role tt c a k (blank m) p a k' h (λ t. absurd t) s in
      let ns = all_unmap (λ r. sequent NAT e r (guarded m convergent e) (natural r)) m.variants (all_left _ _ valid.variant) in
      let fs = all_unmap (λ r. sequent VAR e r (moved m convergent e) (decreases r)) m.variants
      (all_right (map (λ r. sequent NAT e r (guarded m convergent e) (natural r)) m.variants) valid.variant) in
      let (r, j) = wf.convergent_variant e i role in
      record {
        match = record { parameters = blank m; result = a };
        pair = new_pair convergent e i role tt c a k p k' h mv;
        matches = refl;
        bounded = λ _. convergent_bounded m wf c a k (blank m) p a k' (pair_safe m wf vs c a k h).variant
            (all_imp (λ r v. v ρ (all_left _ _ mv)) ns) (all_imp (λ r v. v ρ mv) fs) r j;
      }

  anticipated_matched : (e : ℕ) → In e m.events → m.role e ≡ anticipated → (c a k p k' : State m) → PairTrue m c a k → Step m anticipated e c k p k'
      → Matched m anticipated c a k k'
  unfolding Valid
  anticipated_matched e i role c a k p k' h s =
      let ρ : Env m.type = world m c a k (blank m) p a k' in
      let mv : All (Meets m ρ) (moved m anticipated e) = moved_true e i role tt c a k (blank m) p a k' h (λ t. absurd t) s in
      let ks = all_unmap (λ r. sequent VAR e r (moved m anticipated e) (not_increased r)) m.variants (events_valid m vs e i role).variant in
      record {
        match = record { parameters = blank m; result = a };
        pair = new_pair anticipated e i role tt c a k p k' h mv;
        matches = refl;
        bounded = λ _. anticipated_bounded m wf c a k (blank m) p a k' (pair_safe m wf vs c a k h).variant (all_imp (λ r v. v ρ mv) ks);
      }

  pub step_matched : (ro : Role) (e : ℕ) → In e m.events → m.role e ≡ ro → T (of_run m ro) → (c a k p k' : State m) → PairTrue m c a k
      → Step m ro e c k p k' → Matched m ro c a k k'
  step_matched abstract_initialisation e i role l c a k p k' h s = absurd l
  step_matched abstract_ordinary e i role l c a k p k' h s = absurd l
  step_matched (concrete_initialisation f) e i role l c a k p k' h s = absurd l
  step_matched (refining f) e i role l c a k p k' h s = refining_matched e f i role c a k p k' h s
  step_matched convergent e i role l c a k p k' h s = convergent_matched e i role c a k p k' h s
  step_matched anticipated e i role l c a k p k' h s = anticipated_matched e i role c a k p k' h s

-- One event's share of what is given: the parts of its sequents, and what its formulas mention.
use mathlib.Core.Path.{◌≡◌, subst}
use mathlib.Core.List.{[], ◌++◌, map, flat_map}
use Prim.Native.Nat.{ℕ}
use Rattle.lists.specs.All.{All, In}
use Rattle.lists.proofs.All.{all_left, all_right, all_at, all_imp, all_unmap, all_unflat}
use Rattle.machine.specs.Machine.{Machine, Role, abstract_initialisation, abstract_ordinary, concrete_initialisation, refining, convergent, anticipated}
use Rattle.sequent.specs.Entry.{written, primed, defined}
use Rattle.sequent.specs.Sequent.{Valid, sequent, WD, INV, GRD}
use Rattle.sequent.specs.Listed.{in_order, action_wd, action_fis, refined, all_written, base, guarded}
use Rattle.sequent.specs.Listed.{witness_entries, witness_sequents, parameter_witnesses, grd, sim_sequents, inv_hypotheses, inv, variant_sequents, event_sequents}
use Rattle.sequent.specs.Listed.{formulas, obligations}
use Rattle.sequent.specs.Required.{own_invariants, own_variables}
use Rattle.run.proofs.WellFormed.{own_kinds, never, variable_kind, Variable, Sees, ActionSees, WellFormed}

module _ (m : Machine) (ro : Role) (e : ℕ) where
  -- what the formulas of an event with this role mention
  pub record EventSees : Type 0 where
    pub guards : All (Sees m (own_kinds ro) never) (m.guards e)
    pub actions : All (λ x. ActionSees m (own_kinds ro) x (m.action e x)) (own_variables m ro)
    pub kind : All (Variable m (variable_kind ro)) (own_variables m ro)

  -- the event's sequents are valid, kind by kind
  pub record EventValid : Type 0 where
    pub guards : All (Valid m) (in_order e (base m ro) (m.guards e))
    pub actions : All (λ x. All (Valid m) (action_wd e (guarded m ro e) (m.action e x))) (own_variables m ro)
    pub feasible : All (λ x. All (Valid m) (action_fis e x (guarded m ro e) (m.action e x))) (own_variables m ro)
    pub witnesses : All (λ w. All (Valid m) (witness_sequents m ro e w)) (m.witnesses e)
    pub strengthened : All (λ f. All (λ r. Valid m (sequent GRD e r (guarded m ro e ++ witness_entries m (parameter_witnesses m e)) (written r))) (m.guards f))
        (refined ro)
    pub simulated : All (Valid m) (sim_sequents m ro e)
    pub invariant : All (λ r. Valid m (sequent INV e r (inv_hypotheses m ro e) (primed r))) (own_invariants m ro)
    pub variant : All (Valid m) (variant_sequents m ro e)

  pub event_valid : All (Valid m) (event_sequents m e ro) → EventValid
  unfolding event_sequents
  event_valid v₁ =
      let v₂ = all_right (in_order e (base m ro) (m.guards e)) v₁ in
      let v₃ = all_right (flat_map (λ x. action_wd e (guarded m ro e) (m.action e x)) (own_variables m ro)) v₂ in
      let v₄ = all_right (flat_map (λ x. action_fis e x (guarded m ro e) (m.action e x)) (own_variables m ro)) v₃ in
      let v₅ = all_right (flat_map (witness_sequents m ro e) (m.witnesses e)) v₄ in
      let v₆ = all_right (flat_map (grd m ro e) (refined ro)) v₅ in
      let v₇ = all_right (sim_sequents m ro e) v₆ in
      record {
        guards = all_left _ _ v₁;
        actions = all_unflat _ (own_variables m ro) (all_left _ _ v₂);
        feasible = all_unflat _ (own_variables m ro) (all_left _ _ v₃);
        witnesses = all_unflat _ (m.witnesses e) (all_left _ _ v₄);
        strengthened = all_imp (λ f v. all_unmap _ (m.guards f) v) (all_unflat _ (refined ro) (all_left _ _ v₅));
        simulated = all_left _ _ v₆;
        invariant = all_unmap _ (own_invariants m ro) (all_left _ _ v₇);
        variant = all_right (inv m ro e) v₇;
      }

module _ (m : Machine) (wf : WellFormed m) where
  variables_kind : (ro : Role) → All (Variable m (variable_kind ro)) (own_variables m ro)
  variables_kind abstract_initialisation = wf.abstract_variables_kind
  variables_kind abstract_ordinary = wf.abstract_variables_kind
  variables_kind (concrete_initialisation f) = wf.concrete_variables_kind
  variables_kind (refining f) = wf.concrete_variables_kind
  variables_kind convergent = wf.concrete_variables_kind
  variables_kind anticipated = wf.concrete_variables_kind

  pub event_sees_lem : (e : ℕ) → In e m.events → {ro : Role} → m.role e ≡ ro → EventSees m ro e
  event_sees_lem e i {ro} q = record {
    guards = subst (λ o. All (Sees m (own_kinds o) never) (m.guards e)) q (wf.guards_see e i);
    actions = subst (λ o. All (λ x. ActionSees m (own_kinds o) x (m.action e x)) (own_variables m o)) q (wf.actions_see e i);
    kind = variables_kind ro;
  }

module _ (m : Machine) (vs : All (Valid m) (obligations m)) where
  pub formulas_valid : All (Valid m) (in_order 0 [] (formulas m))
  unfolding obligations
  formulas_valid = all_left _ _ vs

  pub variants_valid : All (λ r. Valid m (sequent WD 0 r (all_written m (formulas m)) (defined r))) m.variants
  unfolding obligations
  variants_valid = all_unmap _ m.variants (all_left _ _ (all_right (in_order 0 [] (formulas m)) vs))

  pub events_valid : (e : ℕ) → In e m.events → {ro : Role} → m.role e ≡ ro → EventValid m ro e
  unfolding obligations
  events_valid e i {ro} q =
      let v = all_right (in_order 0 [] (formulas m)) vs in
      let es = all_unflat (λ e. event_sequents m e (m.role e)) m.events
      (all_right (map (λ r. sequent WD 0 r (all_written m (formulas m)) (defined r)) m.variants) v) in
      event_valid m ro e (subst (λ o. All (Valid m) (event_sequents m e o)) q (all_at es i))

-- Names for the parts of an event's sequents, in the list's order, for the laws that go part by part; and formulas in order as two parts.
use mathlib.Core.Path.{◌≡◌, refl, sym, ap, ◌∙◌}
use mathlib.Core.List.{List, [], ◌∷◌, ◌++◌, map, flat_map, append_assoc, append-nil}
use Prim.Native.Nat.{ℕ}
use Rattle.machine.specs.Machine.{Role, Machine}
use Rattle.sequent.specs.Entry.{Entry, written, defined, natural}
use Rattle.sequent.specs.Sequent.{Sequent, sequent, WD, NAT, VAR}
use Rattle.sequent.specs.Listed.{in_order, action_wd, action_fis, refined, base, guarded, moved}
use Rattle.sequent.specs.Listed.{witness_sequents, grd, sim_sequents, inv, variant_sequents, event_sequents}
use Rattle.sequent.specs.Required.{own_variables}

module _ (m : Machine) (ro : Role) (e : ℕ) where
  abbrev pub guard_wds : List Sequent
  guard_wds = in_order e (base m ro) (m.guards e)

  abbrev pub action_wds : List Sequent
  action_wds = flat_map (λ x. action_wd e (guarded m ro e) (m.action e x)) (own_variables m ro)

  abbrev pub action_fiss : List Sequent
  action_fiss = flat_map (λ x. action_fis e x (guarded m ro e) (m.action e x)) (own_variables m ro)

  abbrev pub of_witnesses : List Sequent
  of_witnesses = flat_map (witness_sequents m ro e) (m.witnesses e)

  abbrev pub grds : List Sequent
  grds = flat_map (grd m ro e) (refined ro)

  abbrev pub nats : List Sequent
  nats = map (λ r. sequent NAT e r (guarded m ro e) (natural r)) m.variants

  -- with the goal of the event's class
  abbrev pub vars : (ℕ → Entry) → List Sequent
  vars goal = map (λ r. sequent VAR e r (moved m ro e) (goal r)) m.variants

  -- what stands from a part on
  abbrev pub from_invs : List Sequent
  from_invs = inv m ro e ++ variant_sequents m ro e

  abbrev pub from_sims : List Sequent
  from_sims = sim_sequents m ro e ++ from_invs

  abbrev pub from_grds : List Sequent
  from_grds = grds ++ from_sims

  abbrev pub from_witnesses : List Sequent
  from_witnesses = of_witnesses ++ from_grds

  abbrev pub from_fiss : List Sequent
  from_fiss = action_fiss ++ from_witnesses

  abbrev pub from_actions : List Sequent
  from_actions = action_wds ++ from_fiss

  pub event_sequents_parts : event_sequents m e ro ≡ guard_wds ++ from_actions
  unfolding event_sequents
  event_sequents_parts = refl

-- formulas of which each is defined under those before it: those of a second list under all of the first
pub in_order_join : (e : ℕ) (hs : List Entry) (rs qs : List ℕ) → in_order e hs (rs ++ qs) ≡ in_order e hs rs ++ in_order e (hs ++ map written rs) qs
unfolding in_order
in_order_join e hs [] qs = ap (λ gs. in_order e gs qs) (sym (append-nil hs))
in_order_join e hs (r ∷ rs) qs =
    ap (λ ss. sequent WD e r hs (defined r) ∷ ss)
    (in_order_join e (hs ++ (written r ∷ [])) rs qs
    ∙ ap (λ gs. in_order e (hs ++ (written r ∷ [])) rs ++ in_order e gs qs) (append_assoc hs (written r ∷ []) (map written rs)))

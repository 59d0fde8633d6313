-- 01, Sequents: the hypotheses and goals of each kind, and the order of the list; 02, request 4: which of them are listed.
use Rattle.std.specs.Prelude.{Bool, true, false, not, ◌||◌, ℕ}
use mathlib.Core.List.{List, [], ◌∷◌, ◌++◌, map, flat_map}
use Rattle.lists.specs.Choice.{pick}
use Rattle.lists.specs.Below.{keep}
use Rattle.lists.specs.Different.{some_of}
use Rattle.formula.specs.Identifiers.{identifiers, divides}
use Rattle.machine.specs.Machine.{Action, unassigned, becomes_equal, becomes_such_that, Witness, Machine, shared_variables, unshared_variables}
use Rattle.machine.specs.Machine.{Role, abstract_initialisation, abstract_ordinary, concrete_initialisation, refining, convergent, anticipated}
use Rattle.sequent.specs.Entry.{Entry, written, primed, defined, moves, feasible, witnessed, natural, decreases, not_increased, unchanged, variable}
use Rattle.sequent.specs.Required.{own_variables, own_invariants, keeps_invariants}
use Rattle.sequent.specs.Sequent.{Sequent, sequent, WD, INV, FIS, GRD, SIM, WFIS, NAT, VAR}

-- "WD of axiom, invariant: those before it", "WD of guard: base, earlier guards": each formula under the hypotheses and those before it
unfoldable pub in_order : ℕ → List Entry → List ℕ → List Sequent
in_order e hs [] = []
in_order e hs (r ∷ rs) = sequent WD e r hs (defined r) ∷ in_order e (hs ++ (written r ∷ [])) rs

-- "WD of action: base, guards"
abbrev pub action_wd : ℕ → List Entry → Action → List Sequent
action_wd e hs unassigned = []
action_wd e hs (becomes_equal r) = sequent WD e r hs (defined r) ∷ []
action_wd e hs (becomes_such_that r) = sequent WD e r hs (defined r) ∷ []

-- "FIS (52 only): base, guards"
abbrev pub action_fis : ℕ → ℕ → List Entry → Action → List Sequent
action_fis e x hs unassigned = []
action_fis e x hs (becomes_equal r) = []
action_fis e x hs (becomes_such_that r) = sequent FIS e x hs (feasible e x) ∷ []

-- an action that is there
abbrev pub is_assigned : Action → Bool
is_assigned unassigned = false
is_assigned (becomes_equal r) = true
is_assigned (becomes_such_that r) = true

-- the abstract event that an event refines
abbrev pub refined : Role → List ℕ
refined abstract_initialisation = []
refined abstract_ordinary = []
refined (concrete_initialisation f) = []
refined (refining f) = f ∷ []
refined convergent = []
refined anticipated = []

module _ (m : Machine) where
  abbrev pub all_written : List ℕ → List Entry
  all_written rs = map written rs

  -- "Base hypotheses: the axioms; then, except for initialisations, the abstract invariants and, for concrete events, the concrete ones."
  abbrev pub base : Role → List Entry
  base abstract_initialisation = all_written m.axioms
  base abstract_ordinary = all_written m.axioms ++ all_written m.abstract_invariants
  base (concrete_initialisation f) = all_written m.axioms
  base (refining f) = all_written m.axioms ++ (all_written m.abstract_invariants ++ all_written m.concrete_invariants)
  base convergent = all_written m.axioms ++ (all_written m.abstract_invariants ++ all_written m.concrete_invariants)
  base anticipated = all_written m.axioms ++ (all_written m.abstract_invariants ++ all_written m.concrete_invariants)

  -- "base, guards"
  abbrev pub guarded : Role → ℕ → List Entry
  guarded ro e = base ro ++ all_written (m.guards e)

  -- "'Moves' means form 4 of the event for its machine's variables in identifier order."
  abbrev pub moved : Role → ℕ → List Entry
  moved ro e = guarded ro e ++ map (moves e) (own_variables m ro)

  abbrev pub witness_entries : List Witness → List Entry
  witness_entries ws = map (λ w. written w.root) ws

  -- "base, guards, and moves for a variable witness"
  abbrev pub witness_hypotheses : Role → ℕ → Witness → List Entry
  witness_hypotheses ro e w = pick (variable m w.target) (moved ro e) (guarded ro e)

  -- "each witness's WD then WFIS"
  abbrev pub witness_sequents : Role → ℕ → Witness → List Sequent
  witness_sequents ro e w =
      sequent WD e w.root (witness_hypotheses ro e w) (defined w.root)
      ∷ (sequent WFIS e w.target (witness_hypotheses ro e w) (witnessed e w.target) ∷ [])

  -- "GRD, each abstract guard: base, guards, parameter witnesses"
  abbrev pub parameter_witnesses : ℕ → List Witness
  parameter_witnesses e = keep (λ w. not (variable m w.target)) (m.witnesses e)

  abbrev pub grd : Role → ℕ → ℕ → List Sequent
  grd ro e f = map (λ r. sequent GRD e r (guarded ro e ++ witness_entries (parameter_witnesses e)) (written r)) (m.guards f)

  -- "SIM, each abstract variable: base, guards, moves, witnesses", goal "4 of the abstract event"
  abbrev pub sim : Role → ℕ → ℕ → List Sequent
  sim ro e f = map (λ x. sequent SIM e x (moved ro e ++ witness_entries (m.witnesses e)) (moves f x)) m.abstract_variables

  -- 02, request 2: "SIM is made for it also at convergent and anticipated events, .. with base, guards and moves; its goal there is form 10"
  abbrev pub sim_new : Role → ℕ → List Sequent
  sim_new ro e = map (λ x. sequent SIM e x (moved ro e) (unchanged x)) (shared_variables m)

  abbrev pub sim_sequents : Role → ℕ → List Sequent
  sim_sequents abstract_initialisation e = []
  sim_sequents abstract_ordinary e = []
  sim_sequents (concrete_initialisation f) e = sim (concrete_initialisation f) e f
  sim_sequents (refining f) e = sim (refining f) e f
  sim_sequents convergent e = sim_new convergent e
  sim_sequents anticipated e = sim_new anticipated e

  -- "INV: base, guards, moves, witnesses; for a convergent event form 4 of each abstract variable instead of witnesses", but of a shared one
  abbrev pub inv_hypotheses : Role → ℕ → List Entry
  inv_hypotheses abstract_initialisation e = moved abstract_initialisation e ++ witness_entries (m.witnesses e)
  inv_hypotheses abstract_ordinary e = moved abstract_ordinary e ++ witness_entries (m.witnesses e)
  inv_hypotheses (concrete_initialisation f) e = moved (concrete_initialisation f) e ++ witness_entries (m.witnesses e)
  inv_hypotheses (refining f) e = moved (refining f) e ++ witness_entries (m.witnesses e)
  inv_hypotheses convergent e = moved convergent e ++ map (moves e) (unshared_variables m)
  inv_hypotheses anticipated e = moved anticipated e ++ map (moves e) (unshared_variables m)

  abbrev pub inv : Role → ℕ → List Sequent
  inv ro e = map (λ r. sequent INV e r (inv_hypotheses ro e) (primed r)) (own_invariants m ro)

  -- "NAT; VAR (convergent): base, guards; VAR also moves"; an anticipated event has VAR alone, with form 9
  abbrev pub variant_sequents : Role → ℕ → List Sequent
  variant_sequents abstract_initialisation e = []
  variant_sequents abstract_ordinary e = []
  variant_sequents (concrete_initialisation f) e = []
  variant_sequents (refining f) e = []
  variant_sequents convergent e =
      map (λ r. sequent NAT e r (guarded convergent e) (natural r)) m.variants
      ++ map (λ r. sequent VAR e r (moved convergent e) (decreases r)) m.variants
  variant_sequents anticipated e = map (λ r. sequent VAR e r (moved anticipated e) (not_increased r)) m.variants

  -- "event by event: WD of guards, of actions by variable, FIS by variable, each witness's WD then WFIS, GRD, SIM, INV, NAT, VAR"
  unfoldable pub event_sequents : ℕ → Role → List Sequent
  event_sequents e ro =
      in_order e (base ro) (m.guards e)
      ++ (flat_map (λ x. action_wd e (guarded ro e) (m.action e x)) (own_variables m ro)
      ++ (flat_map (λ x. action_fis e x (guarded ro e) (m.action e x)) (own_variables m ro)
      ++ (flat_map (witness_sequents ro e) (m.witnesses e)
      ++ (flat_map (grd ro e) (refined ro)
      ++ (sim_sequents ro e
      ++ (inv ro e
      ++ variant_sequents ro e))))))

  -- "Order: WD of axioms, invariants, variant; then event by event"
  abbrev pub formulas : List ℕ
  formulas = m.axioms ++ (m.abstract_invariants ++ m.concrete_invariants)

  unfoldable pub obligations : List Sequent
  obligations =
      in_order 0 [] formulas
      ++ (map (λ r. sequent WD 0 r (all_written formulas) (defined r)) m.variants
      ++ flat_map (λ e. event_sequents e (m.role e)) m.events)

  -- 02, request 4: an event assigns an identifier that a formula mentions
  abbrev pub touched : ℕ → ℕ → Bool
  touched e r = some_of (λ x. is_assigned (m.action e x)) (identifiers (m.tree r))

  -- WD is kept where the formula divides, INV by its event's role, or where the event assigns what the invariant mentions; all else is
  abbrev pub needed_goal : ℕ → Entry → Bool
  needed_goal e (written r) = true
  needed_goal e (primed r) = keeps_invariants (m.role e) || touched e r
  needed_goal e (defined r) = divides (m.tree r)
  needed_goal e (moves f x) = true
  needed_goal e (feasible f x) = true
  needed_goal e (witnessed f x) = true
  needed_goal e (natural r) = true
  needed_goal e (decreases r) = true
  needed_goal e (not_increased r) = true
  needed_goal e (unchanged x) = true

  abbrev pub needed : Sequent → Bool
  needed s = needed_goal s.event s.goal

  unfoldable pub sequents : List Sequent
  sequents = keep needed obligations

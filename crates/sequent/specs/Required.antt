-- The sequents that are required of a machine and its refinement: the published obligations, which are 01's table "Sequents" row by row, with the hypotheses and
-- goals of document 004, 02's anticipated events (request 1) and shared variables (request 2), but those that nobody need read (request 4). Relations: they say
-- which sequents there are, of which events, and nothing of how a list of them is made.
use Rattle.std.specs.Prelude.{◌≡◌, Bool, true, false, not, List, [], ◌∷◌, ◌++◌, map, ◌⊎◌, ℕ}
use Rattle.lists.specs.All.{All, In}
use Rattle.lists.specs.Choice.{pick}
use Rattle.lists.specs.Below.{keep}
use Rattle.formula.specs.Identifiers.{identifiers, divides}
use Rattle.machine.specs.Machine.{unassigned, becomes_equal, becomes_such_that, Witness, Machine, shared_variables, unshared_variables}
use Rattle.machine.specs.Machine.{Role, abstract_initialisation, abstract_ordinary, concrete_initialisation, refining, convergent, anticipated}
use Rattle.sequent.specs.Entry.{Entry, written, primed, defined, moves, feasible, witnessed, natural, decreases, not_increased, unchanged, variable}
use Rattle.sequent.specs.Sequent.{Sequent, sequent, WD, INV, FIS, GRD, SIM, WFIS, NAT, VAR}

abbrev pub is_initialisation : Role → Bool
is_initialisation abstract_initialisation = true
is_initialisation abstract_ordinary = false
is_initialisation (concrete_initialisation f) = true
is_initialisation (refining f) = false
is_initialisation convergent = false
is_initialisation anticipated = false

abbrev pub is_concrete : Role → Bool
is_concrete abstract_initialisation = false
is_concrete abstract_ordinary = false
is_concrete (concrete_initialisation f) = true
is_concrete (refining f) = true
is_concrete convergent = true
is_concrete anticipated = true

-- a new event refines nothing: convergent or, 02, request 1: "Event class 3, concrete only, .. refines nothing", anticipated
abbrev pub is_new : Role → Bool
is_new abstract_initialisation = false
is_new abstract_ordinary = false
is_new (concrete_initialisation f) = false
is_new (refining f) = false
is_new convergent = true
is_new anticipated = true

-- 01, The run: an initialisation is matched by the abstract initialisation, "a concrete ordinary step .. by a step of the event it refines"
pub data MatchedBy (f : ℕ) : Role → Type 0 where
  by_initialisation : MatchedBy f (concrete_initialisation f)
  by_refined : MatchedBy f (refining f)

abbrev pub as_written : List ℕ → List Entry
as_written rs = map written rs

module _ (m : Machine) where
  -- axioms and invariants "in tag order"
  abbrev pub axioms_invariants : List ℕ
  axioms_invariants = m.axioms ++ (m.abstract_invariants ++ m.concrete_invariants)

  -- "the axioms; then, except for initialisations, the abstract invariants and, for concrete events, the concrete ones"
  abbrev pub base_of : Role → List Entry
  base_of ro =
      as_written m.axioms
      ++ pick (is_initialisation ro) [] (as_written m.abstract_invariants ++ pick (is_concrete ro) (as_written m.concrete_invariants) [])

  -- the variables of the event's machine, the shared ones among them
  abbrev pub own_variables : Role → List ℕ
  own_variables ro = pick (is_concrete ro) m.concrete_variables m.abstract_variables

  abbrev pub own_invariants : Role → List ℕ
  own_invariants ro = pick (is_concrete ro) m.concrete_invariants m.abstract_invariants

  -- "base, guards"
  abbrev pub base_guards : ℕ → List Entry
  base_guards e = base_of (m.role e) ++ as_written (m.guards e)

  -- "'Moves' means form 4 of the event for its machine's variables in identifier order."
  abbrev pub moves_of : ℕ → List Entry
  moves_of e = map (moves e) (own_variables (m.role e))

  abbrev pub witnesses_of : ℕ → List Entry
  witnesses_of e = map (λ w. written w.root) (m.witnesses e)

  abbrev pub parameter_witnesses_of : ℕ → List Entry
  parameter_witnesses_of e = map (λ w. written w.root) (keep (λ w. not (variable m w.target)) (m.witnesses e))

-- "SIM, GRD and witnesses belong to the concrete initialisation (no GRD) and ordinary concrete events": no other event of an accepted table has witnesses.
pub data Obligation (m : Machine) : Sequent → Type 0 where
  -- "1 WD of axiom, invariant | those before it, in tag order | 3 | root"
  wd_formula : (before : List ℕ) {r : ℕ} (rest : List ℕ) → axioms_invariants m ≡ before ++ (r ∷ rest)
      → Obligation m (sequent WD 0 r (as_written before) (defined r))
  -- "WD of variant | axioms, all invariants | 3 | root"
  wd_variant : {r : ℕ} → In r m.variants
      → Obligation m (sequent WD 0 r (as_written (axioms_invariants m)) (defined r))
  -- "WD of guard | base, earlier guards | 3 | root"
  wd_guard : {e : ℕ} (before : List ℕ) {r : ℕ} (rest : List ℕ) → In e m.events → m.guards e ≡ before ++ (r ∷ rest)
      → Obligation m (sequent WD e r (base_of m (m.role e) ++ as_written before) (defined r))
  -- "WD of action | base, guards | 3 | root"
  wd_action : {e x r : ℕ} → In e m.events → In x (own_variables m (m.role e)) → (m.action e x ≡ becomes_equal r) ⊎ (m.action e x ≡ becomes_such_that r)
      → Obligation m (sequent WD e r (base_guards m e) (defined r))
  -- "3 FIS (52 only) | base, guards | 5 | variable"
  fis : {e x r : ℕ} → In e m.events → In x (own_variables m (m.role e)) → m.action e x ≡ becomes_such_that r
      → Obligation m (sequent FIS e x (base_guards m e) (feasible e x))
  -- "WD of witness | base, guards, and moves for a variable witness | 3 | root"
  wd_witness : {e : ℕ} {w : Witness} → In e m.events → In w (m.witnesses e)
      → Obligation m (sequent WD e w.root (base_guards m e ++ pick (variable m w.target) (moves_of m e) []) (defined w.root))
  -- "6 WFIS | base, guards, and moves for a variable witness | 6 | identifier"
  wfis : {e : ℕ} {w : Witness} → In e m.events → In w (m.witnesses e)
      → Obligation m (sequent WFIS e w.target (base_guards m e ++ pick (variable m w.target) (moves_of m e) []) (witnessed e w.target))
  -- "4 GRD, each abstract guard | base, guards, parameter witnesses | 1 | root"
  grd : {e f r : ℕ} → In e m.events → m.role e ≡ refining f → In r (m.guards f)
      → Obligation m (sequent GRD e r (base_guards m e ++ parameter_witnesses_of m e) (written r))
  -- "5 SIM, each abstract variable | base, guards, moves, witnesses | 4 of the abstract event | variable", each shared one too
  sim : {e f x : ℕ} → In e m.events → MatchedBy f (m.role e) → In x m.abstract_variables
      → Obligation m (sequent SIM e x ((base_guards m e ++ moves_of m e) ++ witnesses_of m e) (moves f x))
  -- 02, request 2: "SIM is made for it also at convergent and anticipated events, before INV, with base, guards and moves; its goal there is form 10"
  sim_of_new : {e x : ℕ} → In e m.events → is_new (m.role e) ≡ true → In x (shared_variables m)
      → Obligation m (sequent SIM e x (base_guards m e ++ moves_of m e) (unchanged x))
  -- "2 INV, own machine's invariants | base, guards, moves, witnesses | 2 | root"
  inv : {e r : ℕ} → In e m.events → is_new (m.role e) ≡ false → In r (own_invariants m (m.role e))
      → Obligation m (sequent INV e r ((base_guards m e ++ moves_of m e) ++ witnesses_of m e) (primed r))
  -- "for a convergent event form 4 of each abstract variable instead of witnesses"; an anticipated one "has all sequents of a convergent event except NAT"; 02,
  -- request 2: "Form 4 of it stands once among hypotheses, that of the concrete event": a shared variable's is among the moves
  inv_new : {e r : ℕ} → In e m.events → is_new (m.role e) ≡ true → In r (own_invariants m (m.role e))
      → Obligation m (sequent INV e r ((base_guards m e ++ moves_of m e) ++ map (moves e) (unshared_variables m)) (primed r))
  -- "7 NAT (convergent) | base, guards | 7 | root"
  nat : {e r : ℕ} → In e m.events → m.role e ≡ convergent → In r m.variants
      → Obligation m (sequent NAT e r (base_guards m e) (natural r))
  -- "8 VAR (convergent) | base, guards; VAR also moves | 8 | root"
  var : {e r : ℕ} → In e m.events → m.role e ≡ convergent → In r m.variants
      → Obligation m (sequent VAR e r (base_guards m e ++ moves_of m e) (decreases r))
  -- 02, request 1: "its VAR goal is variant after ≤ variant (form 9, root, 0), made only where a variant row exists"
  var_anticipated : {e r : ℕ} → In e m.events → m.role e ≡ anticipated → In r m.variants
      → Obligation m (sequent VAR e r (base_guards m e ++ moves_of m e) (not_increased r))

-- 02, request 4: "an abstract, convergent or anticipated event"; "initialisations keep theirs", and so do events that refine
abbrev pub keeps_invariants : Role → Bool
keeps_invariants abstract_initialisation = true
keeps_invariants abstract_ordinary = false
keeps_invariants (concrete_initialisation f) = true
keeps_invariants (refining f) = true
keeps_invariants convergent = false
keeps_invariants anticipated = false

-- 02, request 4: what is left out; hypotheses are not
pub data Dropped (m : Machine) : Sequent → Type 0 where
  -- "WD is dropped where the formula has no ÷ and no mod."
  no_division : {e r : ℕ} {hs : List Entry} → divides (m.tree r) ≡ false → Dropped m (sequent WD e r hs (defined r))
  -- "INV is dropped for an abstract, convergent or anticipated event that assigns no variable the invariant mentions"
  untouched : {e r : ℕ} {hs : List Entry} → keeps_invariants (m.role e) ≡ false → All (λ x. m.action e x ≡ unassigned) (identifiers (m.tree r))
      → Dropped m (sequent INV e r hs (primed r))

abbrev pub Required : Machine → Sequent → Type 0
Required m s = Obligation m s × ¬ Dropped m s

-- the numbers of row 80: "kind, event or 0, item"
pub record SameHeader (s t : Sequent) : Type 0 where
  pub kind : s.kind ≡ t.kind
  pub event : s.event ≡ t.event
  pub item : s.item ≡ t.item

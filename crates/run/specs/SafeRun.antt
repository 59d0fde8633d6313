-- Demand 3: what is claimed of every run, as one statement about runs of any length.
use Rattle.std.specs.Prelude.{◌≡◌, Bool, true, false, not, List, [], ◌∷◌, ◌++◌, ℕ, ◌<◌, T, ℤ, pos, ◌+ℤ◌, length, take}
use Rattle.std.proofs.Math.Option.{some}
use Rattle.lists.specs.All.{All, In}
use Rattle.lists.specs.Below.{keep}
use Rattle.formula.specs.Values.{number, at_mostℤ}
use Rattle.formula.specs.Evaluate.{read_tree}
use Rattle.machine.specs.Machine.{Role, abstract_initialisation, abstract_ordinary, concrete_initialisation, refining, convergent, anticipated, Machine}
use Rattle.sequent.specs.Required.{is_initialisation, is_new, own_variables}
use Rattle.run.specs.Run.{State, blank, world, view, Defined, AllReadTrue, NoneUndefined, ActionDefined, Enabled, Step, Taken, Follows, Match, Matches, AgreeOnShared}

-- "at most the variant's value before the stretch plus one"
abbrev pub within_bound : ℕ → ℤ → Bool
within_bound n v = at_mostℤ (pos n) (v +ℤ pos 1)

abbrev pub is_convergent : Role → Bool
is_convergent abstract_initialisation = false
is_convergent abstract_ordinary = false
is_convergent (concrete_initialisation f) = false
is_convergent (refining f) = false
is_convergent convergent = true
is_convergent anticipated = false

module _ (m : Machine) where
  -- an event at a state of its machine, with some parameter values: "nothing divides by zero", for any after values, and
  -- "every event enabled at a state of the run has a successor there"
  pub record EventSafe (ro : Role) (e : ℕ) (c s p : State m) : Type 0 where
    pub guards_defined : NoneUndefined m (view m ro c s p (blank m)) (m.guards e)
    pub actions_defined : Enabled m ro e c s p → (s' : State m) → All (λ x. ActionDefined m (view m ro c s p s') (m.action e x)) (own_variables m ro)
    pub successor : Enabled m ro e c s p → (s' : State m) × Step m ro e c s p s'

  -- the state of an event's own machine, and whether the event is no initialisation
  abbrev pub own_state : Role → State m → State m → State m
  own_state abstract_initialisation a k = a
  own_state abstract_ordinary a k = a
  own_state (concrete_initialisation f) a k = k
  own_state (refining f) a k = k
  own_state convergent a k = k
  own_state anticipated a k = k

  abbrev pub not_initial : Role → Bool
  not_initial ro = not (is_initialisation ro)

  -- a matched pair of states: they agree on the shared variables, "every invariant of both machines is true", the variant is defined, and every event is safe
  -- there
  pub record PairSafe (c a k : State m) : Type 0 where
    pub shared : AgreeOnShared m a k
    pub invariants : AllReadTrue m (world m c a k (blank m) (blank m) (blank m) (blank m)) (m.abstract_invariants ++ m.concrete_invariants)
    pub variant : All (Defined m (world m c (blank m) k (blank m) (blank m) (blank m) (blank m))) m.variants
    pub events : (e : ℕ) → In e m.events → T (not_initial (m.role e)) → (p : State m) → EventSafe (m.role e) e c (own_state (m.role e) a k) p

  -- 02, request 1: "an unbroken stretch of both classes": all its steps are convergent or anticipated
  abbrev pub of_stretch : Role → Bool
  of_stretch ro = is_new ro

  abbrev pub Unbroken : List (Taken m) → Type 0
  Unbroken ss = All (λ s. T (of_stretch (m.role s.event))) ss

  -- "the convergent steps number"
  abbrev pub convergent_steps : List (Taken m) → ℕ
  convergent_steps ss = length (keep (λ s. is_convergent (m.role s.event)) ss)

  -- n convergent steps of a stretch that "holds a convergent step", and the variant's value before it
  abbrev pub Bounded : State m → State m → ℕ → Type 0
  Bounded c k n = 0 < n → (r : ℕ) × (v : ℤ) × In r m.variants
      × (read_tree (world m c (blank m) k (blank m) (blank m) (blank m) (blank m)) (m.tree r) ≡ some (number v)) × T (within_bound n v)

  -- of every stretch that begins at k, the next n steps for any n
  abbrev pub StretchesBounded : State m → State m → List (Taken m) → Type 0
  StretchesBounded c k ss = (n : ℕ) → Unbroken (take n ss) → Bounded c k (convergent_steps (take n ss))

  -- along the whole run, at every matched pair of states; the abstract steps match the concrete ones one by one
  abbrev pub Along : State m → State m → State m → List (Taken m) → List (Match m) → Type 0
  Along c a k [] [] = PairSafe c a k
  Along c a k [] (t ∷ ts) = ⊥
  Along c a k (s ∷ ss) [] = ⊥
  Along c a k (s ∷ ss) (t ∷ ts) =
      PairSafe c a k × StretchesBounded c k (s ∷ ss) × Matches m (m.role s.event) c a t.parameters t.result × Along c t.result s.result ss ts

  -- the concrete initialisation e and the abstract one f, with constants that meet the axioms: e has an outcome, and for every outcome and
  -- every list of further steps, one sequence of the abstract machine, from an outcome of f on, matches the whole run
  pub record RunsSafe (c : State m) (e f : ℕ) : Type 0 where
    pub concrete_start : EventSafe (concrete_initialisation f) e c (blank m) (blank m)
    pub abstract_start : EventSafe abstract_initialisation f c (blank m) (blank m)
    pub outcome : (k : State m) × Step m (concrete_initialisation f) e c (blank m) (blank m) k
    pub runs : (k : State m) → Step m (concrete_initialisation f) e c (blank m) (blank m) k → (ss : List (Taken m)) → Follows m c k ss
        → (a : State m) × (ts : List (Match m)) × Step m abstract_initialisation f c (blank m) (blank m) a × Along c a k ss ts

  -- the machine has its initialisations, and its runs are safe, "whatever constants meet the axioms"
  pub record Safe : Type 0 where
    pub initialisation : (e : ℕ) × (f : ℕ) × In e m.events × (m.role e ≡ concrete_initialisation f)
    pub safe : (e f : ℕ) → In e m.events → m.role e ≡ concrete_initialisation f
        → (In f m.events × (m.role f ≡ abstract_initialisation))
        × ((c : State m) → AllReadTrue m (world m c (blank m) (blank m) (blank m) (blank m) (blank m) (blank m)) m.axioms → RunsSafe c e f)

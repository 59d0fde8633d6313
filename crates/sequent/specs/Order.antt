-- 01, Sequents: "Order: WD of axioms, invariants, variant; then event by event: WD of guards, of actions by variable, FIS by variable, each witness's WD then
-- WFIS, GRD, SIM, INV, NAT, VAR. Table order otherwise." An order of the headers alone: kind, event and item.
use Rattle.std.specs.Prelude.{◌≡◌, Bool, ◌||◌, ◌⊎◌, ℕ, suc, ◌<◌, ltb, eqb, length}
use mathlib.Core.List.{List, [], ◌∷◌, ◌++◌, map, flat_map}
use Rattle.lists.specs.Choice.{pick}
use Rattle.machine.specs.Machine.{Action, unassigned, becomes_equal, becomes_such_that, Machine}
use Rattle.machine.specs.Machine.{Role, abstract_initialisation, abstract_ordinary, concrete_initialisation, refining, convergent, anticipated}
use Rattle.sequent.specs.Sequent.{Sequent, WD, INV, FIS, GRD, SIM, WFIS, NAT, VAR}
use Rattle.sequent.specs.Required.{axioms_invariants, own_variables, own_invariants}

-- the place of a number in a list, counted from 0; the list's length where it is not a member
unfoldable pub place_in : List ℕ → ℕ → ℕ
place_in [] r = 0
place_in (x ∷ xs) r = pick (eqb r x) 0 (suc (place_in xs r))

unfoldable pub is_in : List ℕ → ℕ → Bool
is_in xs r = ltb (place_in xs r) (length xs)

-- an event's groups: "WD of .., FIS .., each witness's .. WFIS, GRD, SIM, INV, NAT, VAR"
abbrev pub kinds_in_order : List ℕ
kinds_in_order = WD ∷ FIS ∷ WFIS ∷ GRD ∷ SIM ∷ INV ∷ NAT ∷ VAR ∷ []

abbrev pub group : ℕ → ℕ
group kind = place_in kinds_in_order kind

-- the root of an action, if it has one
abbrev pub action_roots : Action → List ℕ
action_roots unassigned = []
action_roots (becomes_equal r) = r ∷ []
action_roots (becomes_such_that r) = r ∷ []

-- the variable whose action has a root; 0, which is no identifier, where there is none
unfoldable pub variable_of : (ℕ → Action) → List ℕ → ℕ → ℕ
variable_of action [] r = 0
variable_of action (x ∷ xs) r = pick (is_in (action_roots (action x)) r) x (variable_of action xs r)

module _ (m : Machine) where
  abbrev pub action_roots_of : ℕ → List ℕ
  action_roots_of e = flat_map (λ x. action_roots (m.action e x)) (own_variables m (m.role e))

  -- the guards of the event that an event refines
  abbrev pub refined_guards : Role → List ℕ
  refined_guards abstract_initialisation = []
  refined_guards abstract_ordinary = []
  refined_guards (concrete_initialisation f) = []
  refined_guards (refining f) = m.guards f
  refined_guards convergent = []
  refined_guards anticipated = []

  -- The group and the place in it. "Table order otherwise": the place of the root or target among the machine's, which are in table order; "by variable": the
  -- identifier. A root of an event is in one of the lists, as each node has one use.
  abbrev pub wd_place : ℕ → ℕ → List ℕ
  wd_place e r =
      -- "WD of axioms, invariants, variant"
      pick (eqb e 0) (group WD ∷ place_in (axioms_invariants m ++ m.variants) r ∷ [])
      -- "WD of guards"
      (pick (is_in (m.guards e) r) (group WD ∷ 0 ∷ place_in (m.guards e) r ∷ [])
      -- "of actions by variable"
      (pick (is_in (action_roots_of e) r) (group WD ∷ 1 ∷ variable_of (m.action e) (own_variables m (m.role e)) r ∷ [])
      -- "each witness's WD"
      (group WFIS ∷ place_in (map (λ w. w.root) (m.witnesses e)) r ∷ 0 ∷ [])))

  abbrev pub group_place : ℕ → ℕ → ℕ → List ℕ
  group_place kind e i =
      -- "FIS by variable", "SIM, each abstract variable"
      pick (eqb kind FIS || eqb kind SIM) (i ∷ [])
      -- "each witness's WD then WFIS"
      (pick (eqb kind WFIS) (place_in (map (λ w. w.target) (m.witnesses e)) i ∷ 1 ∷ [])
      -- "GRD, each abstract guard"
      (pick (eqb kind GRD) (place_in (refined_guards (m.role e)) i ∷ [])
      -- "INV, own machine's invariants"
      (pick (eqb kind INV) (place_in (own_invariants m (m.role e)) i ∷ [])
      -- "NAT; VAR"
      (place_in m.variants i ∷ []))))

  -- "event by event"; WD of axioms, invariants and variant have event 0
  unfoldable pub key : ℕ → ℕ → ℕ → List ℕ
  key kind e i = e ∷ pick (eqb kind WD) (wd_place e i) (group kind ∷ group_place kind e i)

-- of two lists of numbers the lesser: the first number that differs decides
abbrev pub Less : List ℕ → List ℕ → Type 0
Less [] ys = ⊥
Less (x ∷ xs) [] = ⊥
Less (x ∷ xs) (y ∷ ys) = (x < y) ⊎ ((x ≡ y) × Less xs ys)

-- s stands before t
abbrev pub key_of : Machine → Sequent → List ℕ
key_of m s = key m s.kind s.event s.item

abbrev pub Before : Machine → Sequent → Sequent → Type 0
Before m s t = Less (key_of m s) (key_of m t)

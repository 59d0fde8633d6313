-- A run of the worked machine with N = 3: after the initialisation a = 3 and u = 3; event 4 with p = 2 makes a = 1; event 5 makes u = 2; event 6 with r = 0
-- leaves u = 2; event 5 makes u = 1. The anticipated step stands between two convergent ones.
use Rattle.std.specs.Prelude.{false, List, [], ◌∷◌, ℕ, pos, get_or}
use Rattle.formula.specs.Values.{AnyValue, number, truth, as_value}
use Rattle.machine.specs.Machine.{Machine}
use Rattle.run.specs.Run.{State, Taken}

-- the values of identifiers 1 to 7, N, a, b, u, q, p, r, of which a state, constants or parameters need only their own
abbrev values : ℕ → ℕ → ℕ → ℕ → ℕ → List AnyValue
values n a u p r =
    number (pos 0) ∷ number (pos n) ∷ number (pos a) ∷ truth false ∷ number (pos u) ∷ number (pos 0) ∷ number (pos p) ∷ number (pos r) ∷ []

module _ (m : Machine) where
  abbrev valued : ℕ → ℕ → ℕ → ℕ → ℕ → State m
  valued n a u p r x = as_value (m.type x) (get_or (values n a u p r) x (number (pos 0)))

  -- N = 3
  abbrev pub constants : State m
  constants = valued 3 0 0 0 0

  -- a and u
  abbrev pub concrete : ℕ → ℕ → State m
  concrete a u = valued 0 a u 0 0

  -- p and r
  abbrev pub chosen : ℕ → ℕ → State m
  chosen p r = valued 0 0 0 p r

  -- the steps of events 5, 6 and 5, an unbroken stretch
  abbrev pub stretch : List (Taken m)
  stretch =
      record { event = 5; parameters = chosen 0 0; result = concrete 1 2 }
      ∷ record { event = 6; parameters = chosen 0 0; result = concrete 1 2 }
      ∷ record { event = 5; parameters = chosen 0 0; result = concrete 1 1 }
      ∷ []

  abbrev pub steps : List (Taken m)
  steps = record { event = 4; parameters = chosen 2 0; result = concrete 1 3 } ∷ stretch

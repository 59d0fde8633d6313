-- 02, request 2: "Matched runs agree on shared variables at every step, and the promised run includes that." What `Along` says at the matched pair after any
-- number of steps, the first pair included; by recursion on the steps.
use Prim.Native.Nat.{ℕ, zero, suc}
use mathlib.Core.Path.{◌≡◌}
use mathlib.Core.List.{List, [], ◌∷◌, map}
use lib.ListN.{take}
use Rattle.lists.specs.All.{In}
use Rattle.machine.specs.Machine.{abstract_initialisation, concrete_initialisation, Machine}
use Rattle.run.specs.Run.{State, blank, world, AllReadTrue, Step, Taken, Follows, Match, AgreeOnShared}
use Rattle.run.specs.SafeRun.{PairSafe, Along, Safe}
use Rattle.run.proofs.Stretch.{last_of, state_after}

module _ (m : Machine) where
  -- the abstract state that matching steps from a leave
  abbrev pub abstract_after : State m → List (Match m) → State m
  abstract_after a ts = last_of m a (map (λ t. t.result) ts)

  pub pair_after : (c a k : State m) (ss : List (Taken m)) (ts : List (Match m)) → Along m c a k ss ts → (n : ℕ)
      → PairSafe m c (abstract_after a (take n ts)) (state_after m k (take n ss))
  pair_after c a k [] [] h zero = h
  pair_after c a k [] [] h (suc n) = h
  pair_after c a k [] (t ∷ ts) h n = absurd h
  pair_after c a k (s ∷ ss) [] h n = absurd h
  pair_after c a k (s ∷ ss) (t ∷ ts) h zero = h.0
  pair_after c a k (s ∷ ss) (t ∷ ts) h (suc n) = pair_after c t.result s.result ss ts h.3 n

  -- a safe machine, and a run of it: constants that meet the axioms, an outcome k of the initialisation, and further steps
  module _ (safe : Safe m) {e f : ℕ} (i : In e m.events) (role : m.role e ≡ concrete_initialisation f) (c : State m)
      (axioms : AllReadTrue m (world m c (blank m) (blank m) (blank m) (blank m) (blank m) (blank m)) m.axioms) (k : State m)
      (start : Step m (concrete_initialisation f) e c (blank m) (blank m) k) (ss : List (Taken m)) (follows : Follows m c k ss) where
    pub runs_agree : (a : State m) × (ts : List (Match m)) × Step m abstract_initialisation f c (blank m) (blank m) a
        × ((n : ℕ) → AgreeOnShared m (abstract_after a (take n ts)) (state_after m k (take n ss)))
    runs_agree =
        let (a, ts, initial, along) = ((safe.safe e f i role).1 c axioms).runs k start ss follows in
        (a, ts, initial, λ n. (pair_after c a k ss ts along n).shared)

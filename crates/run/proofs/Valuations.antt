-- Values found one by one for the identifiers of a list make one valuation: by deciding membership.
use mathlib.Core.List.{List}
use Prim.Native.Nat.{ℕ}
use Rattle.lists.specs.All.{In}
use Rattle.lists.proofs.All.{in_dec}
use Rattle.formula.specs.Values.{Value}
use Rattle.machine.specs.Machine.{Machine}
use Rattle.run.specs.Run.{State, blank}

module _ (m : Machine) (xs : List ℕ) (P : (x : ℕ) → Value (m.type x) → Type 0) (found : (x : ℕ) → In x xs → (v : Value (m.type x)) × P x v) where
  choose : (x : ℕ) → Dec (In x xs) → Value (m.type x)
  choose x (yes i) = (found x i).0
  choose x (no n) = blank m x

  choose_found : (x : ℕ) → In x xs → (d : Dec (In x xs)) → P x (choose x d)
  unfolding choose
  choose_found x i (yes j) = (found x j).1
  choose_found x i (no n) = absurd (n i)

  pub values_found : (s : State m) × ((x : ℕ) → In x xs → P x (s x))
  values_found = (λ x. choose x (in_dec x xs), λ x i. choose_found x i (in_dec x xs))

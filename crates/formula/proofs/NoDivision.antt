-- A formula with no ÷ and no mod is well defined everywhere.
use mathlib.Core.Bool.{Bool, true, false, true≢false, not, ◌&&◌, ◌||◌}
use mathlib.Core.Path.{◌≡◌, refl}
use Prim.Native.Nat.{ℕ}
use lib.Dec.{T}
use Rattle.formula.specs.Values.{ValueType, as_truth}
use Rattle.formula.specs.Tree.{Tree, constant, identifier, after, unary, binary, division, connective, and, or, implies}
use Rattle.formula.specs.Evaluate.{Env, evaluate, True}
use Rattle.formula.specs.WellDefined.{well_defined}
use Rattle.formula.specs.Identifiers.{divides}
use Rattle.formula.proofs.Truth.{and_join, or_right}

-- a pair of tests, each from one of another pair
both : (a b c d : Bool) → a || b ≡ false → (a ≡ false → T c) → (b ≡ false → T d) → T (c && d)
both true b c d h f g = absurd (true≢false h)
both false b c d h f g = and_join c d (f refl) (g h)

module _ {type : ℕ → ValueType} (ρ : Env type) where
  -- the truth of a tree, and of its well-definedness
  abbrev true? : Tree → Bool
  true? t = as_truth (evaluate ρ t)

  abbrev wd? : Tree → Bool
  wd? t = as_truth (evaluate ρ (well_defined t))

  pub no_division_defined : (t : Tree) → divides t ≡ false → True ρ (well_defined t)
  unfolding evaluate well_defined divides
  no_division_defined (constant c) h = tt
  no_division_defined (identifier x) h = tt
  no_division_defined (after x) h = tt
  no_division_defined (unary o t) h = no_division_defined t h
  no_division_defined (binary o t u) h = both (divides t) (divides u) (wd? t) (wd? u) h (no_division_defined t) (no_division_defined u)
  no_division_defined (division o t u) h = absurd (true≢false h)
  no_division_defined (connective and t u) h =
      both (divides t) (divides u) (wd? t) (not (true? t) || wd? u) h (no_division_defined t) (λ k. or_right (not (true? t)) (wd? u) (no_division_defined u k))
  no_division_defined (connective or t u) h =
      both (divides t) (divides u) (wd? t) (true? t || wd? u) h (no_division_defined t) (λ k. or_right (true? t) (wd? u) (no_division_defined u k))
  no_division_defined (connective implies t u) h =
      both (divides t) (divides u) (wd? t) (not (true? t) || wd? u) h (no_division_defined t) (λ k. or_right (not (true? t)) (wd? u) (no_division_defined u k))

-- Division at each pair of signs, at the least operands and at divisor 0, and what ∧, ⇒ and ∨ protect, for every dividend: all computed from the definitions.
use mathlib.Core.Path.{◌≡◌, refl, ap}
use mathlib.Core.Bool.{Bool, true, false, ◌&&◌}
use mathlib.Core.Option.{Option, none, some}
use Prim.Native.Nat.{ℕ, zero, suc}
use lib.IntN.{ℤ, pos, negsuc}
use Rattle.lists.specs.Choice.{pick}
use Rattle.formula.specs.Values.{integer, AnyValue, number, truth, at_mostℤ}
use Rattle.formula.specs.Tree.{literal, top, logicalNot, equal, less, at_most, Division, quotient, remainder, and, or, implies, Tree, constant}
use Rattle.formula.specs.Tree.{identifier, unary, binary, division, connective}
use Rattle.formula.specs.Evaluate.{Env, evaluate, read_tree, division_defined, division_value}
use Rattle.formula.specs.WellDefined.{well_defined}

-- identifier 1 has the value a, identifier 2 the value b
abbrev pair : ℤ → ℤ → ℕ → ℤ
pair a b zero = pos 0
pair a b (suc zero) = a
pair a b (suc (suc x)) = b

abbrev at : ℤ → ℤ → Env (λ x. integer)
at a b = record { present = pair a b; after = pair a b }

abbrev divided : Division → Tree
divided o = division o (identifier 1) (identifier 2)

-- what a run reads
abbrev reading : Division → ℤ → ℤ → Option AnyValue
reading o a b = read_tree (at a b) (divided o)

-- what sequents speak of
abbrev total : Division → ℤ → ℤ → AnyValue
total o a b = evaluate (at a b) (divided o)

-- a literal's word
words : (evaluate (at (pos 0) (pos 0)) (constant (literal 18446744073709551609)) ≡ number (negsuc 6)) × (evaluate (at (pos 0) (pos 0)) (constant (literal 7)) ≡ number (pos 7))
unfolding evaluate
words = (refl, refl)

-- an undefined division: a run reads nothing, sequents read 0
abbrev Undefined : Division → ℤ → ℤ → Type 0
Undefined o a b = (reading o a b ≡ none) × (total o a b ≡ number (pos 0))

-- −8 ÷ 3 = −2, −8 mod 3 is undefined
negative_dividend : (reading quotient (negsuc 7) (pos 3) ≡ some (number (negsuc 1))) × Undefined remainder (negsuc 7) (pos 3)
unfolding evaluate read_tree
negative_dividend = (refl, (refl, refl))

negative_divisor : (reading quotient (pos 7) (negsuc 1) ≡ some (number (negsuc 2))) × Undefined remainder (pos 7) (negsuc 1)
unfolding evaluate read_tree
negative_divisor = (refl, (refl, refl))

both_negative : (reading quotient (negsuc 6) (negsuc 1) ≡ some (number (pos 3))) × Undefined remainder (negsuc 6) (negsuc 1)
unfolding evaluate read_tree
both_negative = (refl, (refl, refl))

both_positive : (reading quotient (pos 7) (pos 2) ≡ some (number (pos 3))) × (reading remainder (pos 7) (pos 2) ≡ some (number (pos 1)))
unfolding read_tree
both_positive = (refl, refl)

-- the least operands of mod: 0 mod 1 = 0; −1 mod 1 and 0 mod 0 are undefined
least_operands : (reading remainder (pos 0) (pos 1) ≡ some (number (pos 0))) × Undefined remainder (negsuc 0) (pos 1) × Undefined remainder (pos 0) (pos 0)
unfolding evaluate read_tree
least_operands = (refl, (refl, refl), (refl, refl))

-- of every division that isn't defined
not_defined : (o : Division) (a b : ℤ) → division_defined o (number a) (number b) ≡ false → Undefined o a b
unfolding evaluate read_tree
not_defined o a b h =
    (ap (λ d. pick d (some (division_value o (number a) (number b))) none) h, ap (λ d. pick d (division_value o (number a) (number b)) (number (pos 0))) h)

-- divisor 0, whatever the dividend
zero_divisor : (o : Division) (a : ℤ) → Undefined o a (pos 0)
zero_divisor quotient a = not_defined quotient a (pos 0) refl
zero_divisor remainder a = not_defined remainder a (pos 0) (go (at_mostℤ (pos 0) a))
  where
    go : (b : Bool) → (b && false) ≡ false
    go true = refl
    go false = refl

abbrev ⊤ᵗ : Tree
⊤ᵗ = constant top

-- with a and b the identifiers 1 and 2: ¬(b = 0) and a ÷ b = 1
abbrev nonzero : Tree
nonzero = unary logicalNot (binary equal (identifier 2) (constant (literal 0)))

abbrev one_quotient : Tree
one_quotient = binary equal (division quotient (identifier 1) (identifier 2)) (constant (literal 1))

-- where b = 0, ∧, ⇒ and ∨ protect their right side
protected : (a : ℤ) →
    (read_tree (at a (pos 0)) (connective and nonzero one_quotient) ≡ some (truth false))
    × (read_tree (at a (pos 0)) (connective implies nonzero one_quotient) ≡ some (truth true))
    × (read_tree (at a (pos 0)) (connective or (unary logicalNot nonzero) one_quotient) ≡ some (truth true))
unfolding read_tree
protected a = (refl, refl, refl)

-- and not their left side
unprotected : (a : ℤ) → read_tree (at a (pos 0)) (connective and one_quotient nonzero) ≡ none
unfolding read_tree
unprotected a = refl

-- the well-definedness formula of ¬(b = 0) ∧ a ÷ b = 1, with its brackets: (⊤ ∧ ⊤) ∧ (¬(b = 0) ⇒ (((⊤ ∧ ⊤) ∧ ¬(b = 0)) ∧ ⊤))
well_defined_shape :
    well_defined (connective and nonzero one_quotient)
    ≡ connective and (connective and ⊤ᵗ ⊤ᵗ) (connective implies nonzero (connective and (connective and (connective and ⊤ᵗ ⊤ᵗ) nonzero) ⊤ᵗ))
unfolding well_defined
well_defined_shape = refl

-- that of a mod b: (⊤ ∧ ⊤) ∧ (0 ≤ a ∧ 0 < b)
remainder_shape :
    well_defined (divided remainder)
    ≡ connective and (connective and ⊤ᵗ ⊤ᵗ)
    (connective and (binary at_most (constant (literal 0)) (identifier 1)) (binary less (constant (literal 0)) (identifier 2)))
unfolding well_defined
remainder_shape = refl

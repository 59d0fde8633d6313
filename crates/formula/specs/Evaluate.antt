-- What a formula says at given values: its total value, as sequents have it, and its reading in order, as a run has it.
use Rattle.std.specs.Prelude.{Bool, true, false, not, ◌&&◌, ◌||◌, ℕ, T, eqb, pos, neg_ℤ, ◌+ℤ◌, ◌-ℤ◌, ◌*ℤ◌}
use Rattle.std.specs.Bool.{beq}
use Rattle.std.proofs.Math.Option.{Option, none, some, map}
use Rattle.lists.specs.Choice.{pick}
use Rattle.formula.specs.Values.{ValueType, Value, AnyValue, number, truth, wrap, as_number, as_truth, as_value, at_mostℤ, lessℤ, equal_value}
use Rattle.formula.specs.Values.{whole_number, quotientℤ, remainderℤ}
use Rattle.formula.specs.Tree.{Constant, literal, TRUE, FALSE, top, bottom, Unary, bool, negation, logicalNot, Binary, plus, minus, times}
use Rattle.formula.specs.Tree.{equal, less, at_most, iff, Division, quotient, remainder, Connective, and, or, implies, Tree, constant}
use Rattle.formula.specs.Tree.{identifier, after, unary, binary, division, connective}

-- 01, Sequents: "for all values, by type, of identifiers": a value for each identifier
abbrev pub Valuation : (ℕ → ValueType) → Type 0
Valuation type = (x : ℕ) → Value (type x)

-- 01, Sequents: the values "of identifiers and after values"
pub record Env (type : ℕ → ValueType) : Type 0 where
  pub present : Valuation type
  pub after : Valuation type

-- the valuation with the value of x replaced by v, which at y = x is a value of y's type
unfoldable pub override : (type : ℕ → ValueType) → Valuation type → (x : ℕ) → Value (type x) → Valuation type
override type f x v y = pick (eqb y x) (as_value (type y) (wrap (type x) v)) (f y)

module _ {type : ℕ → ValueType} (ρ : Env type) (x : ℕ) (v : Value (type x)) where
  -- the environment with the value of x replaced
  abbrev pub with_present : Env type
  with_present = record { present = override type ρ.present x v; after = ρ.after }

  -- the environment with the after value of x replaced
  abbrev pub with_after : Env type
  with_after = record { present = ρ.present; after = override type ρ.after x v }

abbrev pub constant_value : Constant → AnyValue
constant_value (literal w) = number (whole_number w)
constant_value TRUE = truth true
constant_value FALSE = truth false
constant_value top = truth true
constant_value bottom = truth false

-- 01, Rows: "bool(P) makes a boolean expression of a predicate"
abbrev pub unary_value : Unary → AnyValue → AnyValue
unary_value bool v = truth (as_truth v)
unary_value negation v = number (neg_ℤ (as_number v))
unary_value logicalNot v = truth (not (as_truth v))

abbrev pub binary_value : Binary → AnyValue → AnyValue → AnyValue
binary_value plus v w = number (as_number v +ℤ as_number w)
binary_value minus v w = number (as_number v -ℤ as_number w)
binary_value times v w = number (as_number v *ℤ as_number w)
binary_value equal v w = truth (equal_value v w)
binary_value less v w = truth (lessℤ (as_number v) (as_number w))
binary_value at_most v w = truth (at_mostℤ (as_number v) (as_number w))
binary_value iff v w = truth (beq (as_truth v) (as_truth w))

-- 01, Rows: ÷ is "undefined for b = 0"; 02, request 7: "a mod b only for 0 ≤ a and 0 < b"
abbrev pub division_defined : Division → AnyValue → AnyValue → Bool
division_defined quotient v w = not (equal_value w (number (pos 0)))
division_defined remainder v w = at_mostℤ (pos 0) (as_number v) && lessℤ (pos 0) (as_number w)

-- the value of a division that is defined
abbrev pub division_value : Division → AnyValue → AnyValue → AnyValue
division_value quotient v w = number (quotientℤ (as_number v) (as_number w))
division_value remainder v w = number (remainderℤ (as_number v) (as_number w))

abbrev pub connective_value : Connective → Bool → Bool → Bool
connective_value and p q = p && q
connective_value or p q = p || q
connective_value implies p q = not p || q

-- 01, The run: "∧ and ⇒ read their right side only where the left is true, ∨ only where it is false"
abbrev pub reads_right : Connective → Bool → Bool
reads_right and p = p
reads_right or p = not p
reads_right implies p = p

-- 01, Rows: "sequents read such a term as 0"
abbrev pub total_division : Division → AnyValue → AnyValue → AnyValue
total_division o v w = pick (division_defined o v w) (division_value o v w) (number (pos 0))

-- an undefined division has no value
abbrev pub read_division : Division → AnyValue → AnyValue → Option AnyValue
read_division o v w = pick (division_defined o v w) (some (division_value o v w)) none

-- a left side read as v, and what reading the right side would give
abbrev pub read_connective : Connective → AnyValue → Option AnyValue → Option AnyValue
read_connective o v r =
    pick
    (reads_right o (as_truth v))
    (map (λ w. truth (connective_value o (as_truth v) (as_truth w))) r)
    (some (truth (connective_value o (as_truth v) false)))

-- a value that was read, and what is read next
abbrev pub and_then : Option AnyValue → (AnyValue → Option AnyValue) → Option AnyValue
and_then none f = none
and_then (some v) f = f v

module _ {type : ℕ → ValueType} (ρ : Env type) where
  -- the value that sequents speak of: every term has one
  unfoldable pub evaluate : Tree → AnyValue
  evaluate (constant c) = constant_value c
  evaluate (identifier x) = wrap (type x) (ρ.present x)
  evaluate (after x) = wrap (type x) (ρ.after x)
  evaluate (unary o t) = unary_value o (evaluate t)
  evaluate (binary o t u) = binary_value o (evaluate t) (evaluate u)
  evaluate (division o t u) = total_division o (evaluate t) (evaluate u)
  evaluate (connective o t u) = truth (connective_value o (as_truth (evaluate t)) (as_truth (evaluate u)))

  -- the value that a run reads, if it reaches no undefined term
  unfoldable pub read_tree : Tree → Option AnyValue
  read_tree (constant c) = some (constant_value c)
  read_tree (identifier x) = some (wrap (type x) (ρ.present x))
  read_tree (after x) = some (wrap (type x) (ρ.after x))
  read_tree (unary o t) = map (unary_value o) (read_tree t)
  read_tree (binary o t u) = and_then (read_tree t) (λ v. map (binary_value o v) (read_tree u))
  read_tree (division o t u) = and_then (read_tree t) (λ v. and_then (read_tree u) (read_division o v))
  read_tree (connective o t u) = and_then (read_tree t) (λ v. read_connective o v (read_tree u))

  abbrev pub True : Tree → Type 0
  True t = T (as_truth (evaluate t))

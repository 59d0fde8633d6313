-- The type of a tree's value, from its root alone; a predicate's value is a truth value, as a boolean expression's is. A tree's value has the tree's type, whatever its
-- operands are: by cases on the operator.
use mathlib.Core.Path.{◌≡◌, refl, sym, ap}
use mathlib.Core.Bool.{Bool, true, false}
use Prim.Native.Nat.{ℕ}
use Rattle.lists.specs.Choice.{pick}
use Rattle.formula.specs.Values.{ValueType, integer, boolean, Value, AnyValue, wrap, as_value}
use Rattle.formula.specs.Tree.{Constant, literal, TRUE, FALSE, top, bottom, Unary, bool, negation, logicalNot, Binary, plus, minus, times}
use Rattle.formula.specs.Tree.{equal, less, at_most, iff, Division, quotient, remainder, Tree, constant, identifier, after, unary, binary}
use Rattle.formula.specs.Tree.{division, connective}
use Rattle.formula.specs.Evaluate.{Env, evaluate, constant_value, unary_value, binary_value, division_defined, division_value, total_division}
use Rattle.formula.proofs.Values.{as_value_wrap}

abbrev pub constant_type : Constant → ValueType
constant_type (literal w) = integer
constant_type TRUE = boolean
constant_type FALSE = boolean
constant_type top = boolean
constant_type bottom = boolean

abbrev pub unary_type_of : Unary → ValueType
unary_type_of bool = boolean
unary_type_of negation = integer
unary_type_of logicalNot = boolean

-- 01, Rows: "integers 10 plus, 11 minus, 12 times", "predicates 20 =", "21 <, 22 ≤", "36 ⇔"
abbrev pub binary_type : Binary → ValueType
binary_type plus = integer
binary_type minus = integer
binary_type times = integer
binary_type equal = boolean
binary_type less = boolean
binary_type at_most = boolean
binary_type iff = boolean

abbrev pub tree_type : (ℕ → ValueType) → Tree → ValueType
tree_type type (constant c) = constant_type c
tree_type type (identifier x) = type x
tree_type type (after x) = type x
tree_type type (unary o t) = unary_type_of o
tree_type type (binary o t u) = binary_type o
tree_type type (division o t u) = integer
tree_type type (connective o t u) = boolean

-- v is a value of the type t
abbrev pub HasType : ValueType → AnyValue → Type 0
HasType t v = v ≡ wrap t (as_value t v)

wrap_type : (t : ValueType) (v : Value t) → HasType t (wrap t v)
wrap_type t v = ap (wrap t) (sym (as_value_wrap t v))

constant_type_lem : (c : Constant) → HasType (constant_type c) (constant_value c)
constant_type_lem (literal w) = refl
constant_type_lem TRUE = refl
constant_type_lem FALSE = refl
constant_type_lem top = refl
constant_type_lem bottom = refl

unary_type : (o : Unary) (v : AnyValue) → HasType (unary_type_of o) (unary_value o v)
unary_type bool v = refl
unary_type negation v = refl
unary_type logicalNot v = refl

binary_type_lem : (o : Binary) (v w : AnyValue) → HasType (binary_type o) (binary_value o v w)
binary_type_lem plus v w = refl
binary_type_lem minus v w = refl
binary_type_lem times v w = refl
binary_type_lem equal v w = refl
binary_type_lem less v w = refl
binary_type_lem at_most v w = refl
binary_type_lem iff v w = refl

division_type : (o : Division) (v w : AnyValue) → HasType integer (total_division o v w)
division_type o v w = either (division_defined o v w) (division_value o v w) _ (value o) refl
  where
    value : (o : Division) → HasType integer (division_value o v w)
    value quotient = refl
    value remainder = refl

    either : (d : Bool) (x y : AnyValue) → HasType integer x → HasType integer y → HasType integer (pick d x y)
    either true x y e f = e
    either false x y e f = f

pub evaluate_type : {type : ℕ → ValueType} (ρ : Env type) (t : Tree) →
    evaluate ρ t ≡ wrap (tree_type type t) (as_value (tree_type type t) (evaluate ρ t))
unfolding evaluate
evaluate_type ρ (constant c) = constant_type_lem c
evaluate_type {type} ρ (identifier x) = wrap_type (type x) (ρ.present x)
evaluate_type {type} ρ (after x) = wrap_type (type x) (ρ.after x)
evaluate_type ρ (unary o t) = unary_type o (evaluate ρ t)
evaluate_type ρ (binary o t u) = binary_type_lem o (evaluate ρ t) (evaluate ρ u)
evaluate_type ρ (division o t u) = division_type o (evaluate ρ t) (evaluate ρ u)
evaluate_type ρ (connective o t u) = refl

-- 01, Sequents: "An entry spelled out is rows 83 in prefix order (operator, b of operators 1 to 3, 0), with 40 "some value of" and 41 "some after
-- value of" the identifier in b."
use Rattle.std.specs.Prelude.{ℕ, List, [], ◌∷◌, ◌++◌}
use Rattle.row.specs.declared.Row.{Row}
use Rattle.formula.specs.Tree.{Constant, literal, TRUE, FALSE, top, bottom, Unary, bool, negation, logicalNot, Binary, plus, minus, times, equal, less, at_most, iff}
use Rattle.formula.specs.Tree.{Division, quotient, remainder, Connective, and, or, implies, Tree, constant, identifier, after, unary, binary, division, connective}
use Rattle.formula.specs.Formula.{Formula, plain, some_value, some_after_value}
use Rattle.reply.specs.Row.{row}

abbrev pub spelled_tag : ℕ
spelled_tag = 83

-- "40 'some value of' and 41 'some after value of' the identifier in b"
abbrev pub some_value_number : ℕ
some_value_number = 40

abbrev pub some_after_value_number : ℕ
some_after_value_number = 41

abbrev pub spelled : ℕ → ℕ → Row
spelled operator b = row spelled_tag operator b 0

abbrev pub constant_row : Constant → Row
constant_row (literal w) = spelled 1 w
constant_row TRUE = spelled 4 0
constant_row FALSE = spelled 5 0
constant_row top = spelled 30 0
constant_row bottom = spelled 31 0

abbrev pub unary_number : Unary → ℕ
unary_number bool = 6
unary_number negation = 15
unary_number logicalNot = 32

abbrev pub binary_number : Binary → ℕ
binary_number plus = 10
binary_number minus = 11
binary_number times = 12
binary_number equal = 20
binary_number less = 21
binary_number at_most = 22
binary_number iff = 36

abbrev pub division_number : Division → ℕ
division_number quotient = 13
division_number remainder = 14

abbrev pub connective_number : Connective → ℕ
connective_number and = 33
connective_number or = 34
connective_number implies = 35

unfoldable pub spell_tree : Tree → List Row
spell_tree (constant c) = constant_row c ∷ []
spell_tree (identifier x) = spelled 2 x ∷ []
spell_tree (after x) = spelled 3 x ∷ []
spell_tree (unary o a) = spelled (unary_number o) 0 ∷ spell_tree a
spell_tree (binary o a b) = spelled (binary_number o) 0 ∷ (spell_tree a ++ spell_tree b)
spell_tree (division o a b) = spelled (division_number o) 0 ∷ (spell_tree a ++ spell_tree b)
spell_tree (connective o a b) = spelled (connective_number o) 0 ∷ (spell_tree a ++ spell_tree b)

unfoldable pub spell : Formula → List Row
spell (plain f) = spell_tree f
spell (some_value x f) = spelled some_value_number x ∷ spell_tree f
spell (some_after_value x f) = spelled some_after_value_number x ∷ spell_tree f

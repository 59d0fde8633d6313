-- 01, Well-definedness: the formula that is true exactly where a formula's reading reaches no undefined term.
use Rattle.formula.specs.Tree.{literal, top, logicalNot, equal, less, at_most, Division, quotient, remainder, and, or, implies, Tree, constant, identifier}
use Rattle.formula.specs.Tree.{after, unary, binary, division, connective}

-- 01: "(WD(a) ∧ WD(b)) ∧ ¬(b = 0)" of ÷, 02, request 7: "(WD(a) ∧ WD(b)) ∧ (0 ≤ a ∧ 0 < b)" of mod, the last part
abbrev pub division_condition : Division → Tree → Tree → Tree
division_condition quotient a b = unary logicalNot (binary equal b (constant (literal 0)))
division_condition remainder a b = connective and (binary at_most (constant (literal 0)) a) (binary less (constant (literal 0)) b)

unfoldable pub well_defined : Tree → Tree
-- 01: "Literals, identifiers, after values, TRUE, FALSE, ⊤, ⊥: ⊤"
well_defined (constant c) = constant top
well_defined (identifier x) = constant top
well_defined (after x) = constant top
-- 01: "Negation, ¬, bool: that of the operand"
well_defined (unary o a) = well_defined a
-- 01: "Other pairs: WD(a) ∧ WD(b)"
well_defined (binary o a b) = connective and (well_defined a) (well_defined b)
-- 01: "but ÷ and mod: (WD(a) ∧ WD(b)) ∧ .."
well_defined (division o a b) = connective and (connective and (well_defined a) (well_defined b)) (division_condition o a b)
-- 01: "P ∧ Q and P ⇒ Q: WD(P) ∧ (P ⇒ WD(Q))"
well_defined (connective and p q) = connective and (well_defined p) (connective implies p (well_defined q))
well_defined (connective implies p q) = connective and (well_defined p) (connective implies p (well_defined q))
-- 01: "P ∨ Q: WD(P) ∧ (P ∨ WD(Q))"
well_defined (connective or p q) = connective and (well_defined p) (connective or p (well_defined q))

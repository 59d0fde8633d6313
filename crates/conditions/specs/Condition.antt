-- 01, Well-definedness: the condition that an operator adds, by what its nodes are.
use Rattle.formula.specs.Tree.{quotient, remainder, and, or, implies}
use Rattle.machine.specs.Operator.{Operator, literalOf, identifierOf, after_of, constant_of, unary_of, binary_of, division_of, connective_of, unknown}
use Rattle.conditions.specs.declared.Condition.{Condition}
use Rattle.conditions.specs.declared.Condition.TheVariants.{Nothing, Divisor, Operands, LeftTrue, LeftFalse}

-- "÷ ..: (WD(a) ∧ WD(b)) ∧ ¬(b = 0)", 02, request 7: "mod .. (WD(a) ∧ WD(b)) ∧ (0 ≤ a ∧ 0 < b)"; "P ∧ Q and P ⇒ Q: WD(P) ∧ (P ⇒ WD(Q)); P ∨ Q: WD(P) ∧ (P ∨ WD(Q))"
abbrev pub condition_of : Operator → Condition
condition_of literalOf = Nothing
condition_of identifierOf = Nothing
condition_of after_of = Nothing
condition_of (constant_of c) = Nothing
condition_of (unary_of o) = Nothing
condition_of (binary_of o) = Nothing
condition_of (division_of quotient) = Divisor
condition_of (division_of remainder) = Operands
condition_of (connective_of and) = LeftTrue
condition_of (connective_of or) = LeftFalse
condition_of (connective_of implies) = LeftTrue
condition_of unknown = Nothing

-- What the entries of the worked table's sequents spell, computed from its nodes.
use mathlib.Core.Path.{◌≡◌, refl}
use Rattle.lists.specs.Below.{count_below, first, numbers, keep}
use Rattle.table.specs.Rows.{section, count, start}
use Rattle.formula.specs.Values.{integer, boolean}
use Rattle.formula.specs.Tree.{literal, FALSE, top, logicalNot, minus, equal, less, at_most, quotient, remainder, and, constant, identifier, after, unary, binary, division, connective}
use Rattle.formula.specs.Formula.{plain, some_value, some_after_value}
use Rattle.formula.specs.AfterValues.{at_after}
use Rattle.formula.specs.WellDefined.{well_defined}
use Rattle.machine.specs.Operator.{operator_numbered}
use Rattle.machine.specs.Described.{type_numbered, kind_numbered, tree_to, tree_of, action_of, belonging, machine_of}
use Rattle.sequent.specs.Entry.{written, primed, defined, moves, feasible, witnessed, natural, decreases, not_increased, unchanged, formula}
use Rattle.worked.proofs.Decoded.{words}
use Rattle.worked.proofs.Listed.{worked}

-- 0 ≤ N
pub written_3 : formula worked (written 3) ≡ plain (binary at_most (constant (literal 0)) (identifier 1))
unfolding worked words machine_of tree_of tree_to start count count_below operator_numbered type_numbered kind_numbered action_of first belonging section numbers keep at_after well_defined
written_3 = refl

-- 0 ≤ a
pub written_6 : formula worked (written 6) ≡ plain (binary at_most (constant (literal 0)) (identifier 2))
unfolding worked words machine_of tree_of tree_to start count count_below operator_numbered type_numbered kind_numbered action_of first belonging section numbers keep at_after well_defined
written_6 = refl

-- b = FALSE
pub written_9 : formula worked (written 9) ≡ plain (binary equal (identifier 3) (constant FALSE))
unfolding worked words machine_of tree_of tree_to start count count_below operator_numbered type_numbered kind_numbered action_of first belonging section numbers keep at_after well_defined
written_9 = refl

-- u ≤ N
pub written_12 : formula worked (written 12) ≡ plain (binary at_most (identifier 4) (identifier 1))
unfolding worked words machine_of tree_of tree_to start count count_below operator_numbered type_numbered kind_numbered action_of first belonging section numbers keep at_after well_defined
written_12 = refl

-- ¬(q = 0)
pub written_18 : formula worked (written 18) ≡ plain (unary logicalNot (binary equal (identifier 5) (constant (literal 0))))
unfolding worked words machine_of tree_of tree_to start count count_below operator_numbered type_numbered kind_numbered action_of first belonging section numbers keep at_after well_defined
written_18 = refl

-- 0 ≤ a ÷ q
pub written_23 : formula worked (written 23) ≡ plain (binary at_most (constant (literal 0)) (division quotient (identifier 2) (identifier 5)))
unfolding worked words machine_of tree_of tree_to start count count_below operator_numbered type_numbered kind_numbered action_of first belonging section numbers keep at_after well_defined
written_23 = refl

-- b' = FALSE
pub written_31 : formula worked (written 31) ≡ plain (binary equal (after 3) (constant FALSE))
unfolding worked words machine_of tree_of tree_to start count count_below operator_numbered type_numbered kind_numbered action_of first belonging section numbers keep at_after well_defined
written_31 = refl

-- ¬(p = 0)
pub written_35 : formula worked (written 35) ≡ plain (unary logicalNot (binary at_most (identifier 6) (constant (literal 0))))
unfolding worked words machine_of tree_of tree_to start count count_below operator_numbered type_numbered kind_numbered action_of first belonging section numbers keep at_after well_defined
written_35 = refl

-- 0 ≤ a ÷ p
pub written_40 : formula worked (written 40) ≡ plain (binary at_most (constant (literal 0)) (division quotient (identifier 2) (identifier 6)))
unfolding worked words machine_of tree_of tree_to start count count_below operator_numbered type_numbered kind_numbered action_of first belonging section numbers keep at_after well_defined
written_40 = refl

-- q = p
pub written_46 : formula worked (written 46) ≡ plain (binary equal (identifier 5) (identifier 6))
unfolding worked words machine_of tree_of tree_to start count count_below operator_numbered type_numbered kind_numbered action_of first belonging section numbers keep at_after well_defined
written_46 = refl

-- b' = FALSE
pub written_49 : formula worked (written 49) ≡ plain (binary equal (after 3) (constant FALSE))
unfolding worked words machine_of tree_of tree_to start count count_below operator_numbered type_numbered kind_numbered action_of first belonging section numbers keep at_after well_defined
written_49 = refl

-- 0 < u
pub written_52 : formula worked (written 52) ≡ plain (binary less (constant (literal 0)) (identifier 4))
unfolding worked words machine_of tree_of tree_to start count count_below operator_numbered type_numbered kind_numbered action_of first belonging section numbers keep at_after well_defined
written_52 = refl

-- 0 ≤ r
pub written_59 : formula worked (written 59) ≡ plain (binary at_most (constant (literal 0)) (identifier 7))
unfolding worked words machine_of tree_of tree_to start count count_below operator_numbered type_numbered kind_numbered action_of first belonging section numbers keep at_after well_defined
written_59 = refl

-- 0 ≤ a'
pub primed_6 : formula worked (primed 6) ≡ plain (binary at_most (constant (literal 0)) (after 2))
unfolding worked words machine_of tree_of tree_to start count count_below operator_numbered type_numbered kind_numbered action_of first belonging section numbers keep at_after well_defined
primed_6 = refl

-- b' = FALSE
pub primed_9 : formula worked (primed 9) ≡ plain (binary equal (after 3) (constant FALSE))
unfolding worked words machine_of tree_of tree_to start count count_below operator_numbered type_numbered kind_numbered action_of first belonging section numbers keep at_after well_defined
primed_9 = refl

-- u' ≤ N
pub primed_12 : formula worked (primed 12) ≡ plain (binary at_most (after 4) (identifier 1))
unfolding worked words machine_of tree_of tree_to start count count_below operator_numbered type_numbered kind_numbered action_of first belonging section numbers keep at_after well_defined
primed_12 = refl

-- WD of 0 ≤ a ÷ q
pub defined_23 : formula worked (defined 23) ≡ plain (connective and (constant top) (connective and (connective and (constant top) (constant top)) (unary logicalNot (binary equal (identifier 5) (constant (literal 0))))))
unfolding worked words machine_of tree_of tree_to start count count_below operator_numbered type_numbered kind_numbered action_of first belonging section numbers keep at_after well_defined
defined_23 = refl

-- WD of 0 ≤ a ÷ p
pub defined_40 : formula worked (defined 40) ≡ plain (connective and (constant top) (connective and (connective and (constant top) (constant top)) (unary logicalNot (binary equal (identifier 6) (constant (literal 0))))))
unfolding worked words machine_of tree_of tree_to start count count_below operator_numbered type_numbered kind_numbered action_of first belonging section numbers keep at_after well_defined
defined_40 = refl

-- WD of a ÷ p
pub defined_43 : formula worked (defined 43) ≡ plain (connective and (connective and (constant top) (constant top)) (connective and (binary at_most (constant (literal 0)) (identifier 2)) (binary less (constant (literal 0)) (identifier 6))))
unfolding worked words machine_of tree_of tree_to start count count_below operator_numbered type_numbered kind_numbered action_of first belonging section numbers keep at_after well_defined
defined_43 = refl

-- a' = N
pub moves_1_2 : formula worked (moves 1 2) ≡ plain (binary equal (after 2) (identifier 1))
unfolding worked words machine_of tree_of tree_to start count count_below operator_numbered type_numbered kind_numbered action_of first belonging section numbers keep at_after well_defined
moves_1_2 = refl

-- b' = FALSE
pub moves_1_3 : formula worked (moves 1 3) ≡ plain (binary equal (after 3) (constant FALSE))
unfolding worked words machine_of tree_of tree_to start count count_below operator_numbered type_numbered kind_numbered action_of first belonging section numbers keep at_after well_defined
moves_1_3 = refl

-- 0 ≤ a'
pub moves_2_2 : formula worked (moves 2 2) ≡ plain (binary at_most (constant (literal 0)) (after 2))
unfolding worked words machine_of tree_of tree_to start count count_below operator_numbered type_numbered kind_numbered action_of first belonging section numbers keep at_after well_defined
moves_2_2 = refl

-- b' = b
pub moves_2_3 : formula worked (moves 2 3) ≡ plain (binary equal (after 3) (identifier 3))
unfolding worked words machine_of tree_of tree_to start count count_below operator_numbered type_numbered kind_numbered action_of first belonging section numbers keep at_after well_defined
moves_2_3 = refl

-- a' = N
pub moves_3_2 : formula worked (moves 3 2) ≡ plain (binary equal (after 2) (identifier 1))
unfolding worked words machine_of tree_of tree_to start count count_below operator_numbered type_numbered kind_numbered action_of first belonging section numbers keep at_after well_defined
moves_3_2 = refl

-- u' = N
pub moves_3_4 : formula worked (moves 3 4) ≡ plain (binary equal (after 4) (identifier 1))
unfolding worked words machine_of tree_of tree_to start count count_below operator_numbered type_numbered kind_numbered action_of first belonging section numbers keep at_after well_defined
moves_3_4 = refl

-- a' = a ÷ p
pub moves_4_2 : formula worked (moves 4 2) ≡ plain (binary equal (after 2) (division remainder (identifier 2) (identifier 6)))
unfolding worked words machine_of tree_of tree_to start count count_below operator_numbered type_numbered kind_numbered action_of first belonging section numbers keep at_after well_defined
moves_4_2 = refl

-- u' = u
pub moves_4_4 : formula worked (moves 4 4) ≡ plain (binary equal (after 4) (identifier 4))
unfolding worked words machine_of tree_of tree_to start count count_below operator_numbered type_numbered kind_numbered action_of first belonging section numbers keep at_after well_defined
moves_4_4 = refl

-- a' = a
pub moves_5_2 : formula worked (moves 5 2) ≡ plain (binary equal (after 2) (identifier 2))
unfolding worked words machine_of tree_of tree_to start count count_below operator_numbered type_numbered kind_numbered action_of first belonging section numbers keep at_after well_defined
moves_5_2 = refl

-- u' = u − 1
pub moves_5_4 : formula worked (moves 5 4) ≡ plain (binary equal (after 4) (binary minus (identifier 4) (constant (literal 1))))
unfolding worked words machine_of tree_of tree_to start count count_below operator_numbered type_numbered kind_numbered action_of first belonging section numbers keep at_after well_defined
moves_5_4 = refl

-- a' = a
pub moves_6_2 : formula worked (moves 6 2) ≡ plain (binary equal (after 2) (identifier 2))
unfolding worked words machine_of tree_of tree_to start count count_below operator_numbered type_numbered kind_numbered action_of first belonging section numbers keep at_after well_defined
moves_6_2 = refl

-- u' = u − r
pub moves_6_4 : formula worked (moves 6 4) ≡ plain (binary equal (after 4) (binary minus (identifier 4) (identifier 7)))
unfolding worked words machine_of tree_of tree_to start count count_below operator_numbered type_numbered kind_numbered action_of first belonging section numbers keep at_after well_defined
moves_6_4 = refl

-- some a' with 0 ≤ a'
pub feasible_2_2 : formula worked (feasible 2 2) ≡ some_after_value 2 (binary at_most (constant (literal 0)) (after 2))
unfolding worked words machine_of tree_of tree_to start count count_below operator_numbered type_numbered kind_numbered action_of first belonging section numbers keep at_after well_defined
feasible_2_2 = refl

-- some b' with b' = FALSE
pub witnessed_3_3 : formula worked (witnessed 3 3) ≡ some_after_value 3 (binary equal (after 3) (constant FALSE))
unfolding worked words machine_of tree_of tree_to start count count_below operator_numbered type_numbered kind_numbered action_of first belonging section numbers keep at_after well_defined
witnessed_3_3 = refl

-- some b' with b' = FALSE
pub witnessed_4_3 : formula worked (witnessed 4 3) ≡ some_after_value 3 (binary equal (after 3) (constant FALSE))
unfolding worked words machine_of tree_of tree_to start count count_below operator_numbered type_numbered kind_numbered action_of first belonging section numbers keep at_after well_defined
witnessed_4_3 = refl

-- some q with q = p
pub witnessed_4_5 : formula worked (witnessed 4 5) ≡ some_value 5 (binary equal (identifier 5) (identifier 6))
unfolding worked words machine_of tree_of tree_to start count count_below operator_numbered type_numbered kind_numbered action_of first belonging section numbers keep at_after well_defined
witnessed_4_5 = refl

-- 0 ≤ u
pub natural_56 : formula worked (natural 56) ≡ plain (binary at_most (constant (literal 0)) (identifier 4))
unfolding worked words machine_of tree_of tree_to start count count_below operator_numbered type_numbered kind_numbered action_of first belonging section numbers keep at_after well_defined
natural_56 = refl

-- u' < u
pub decreases_56 : formula worked (decreases 56) ≡ plain (binary less (after 4) (identifier 4))
unfolding worked words machine_of tree_of tree_to start count count_below operator_numbered type_numbered kind_numbered action_of first belonging section numbers keep at_after well_defined
decreases_56 = refl

-- u' ≤ u
pub not_increased_56 : formula worked (not_increased 56) ≡ plain (binary at_most (after 4) (identifier 4))
unfolding worked words machine_of tree_of tree_to start count count_below operator_numbered type_numbered kind_numbered action_of first belonging section numbers keep at_after well_defined
not_increased_56 = refl

-- a' = a
pub unchanged_2 : formula worked (unchanged 2) ≡ plain (binary equal (after 2) (identifier 2))
unfolding worked words machine_of tree_of tree_to start count count_below operator_numbered type_numbered kind_numbered action_of first belonging section numbers keep at_after well_defined
unchanged_2 = refl

pub type_2 : worked.type 2 ≡ integer
unfolding worked words machine_of type_numbered start count_below
type_2 = refl

pub type_3 : worked.type 3 ≡ boolean
unfolding worked words machine_of type_numbered start count_below
type_3 = refl

pub type_5 : worked.type 5 ≡ integer
unfolding worked words machine_of type_numbered start count_below
type_5 = refl

pub type_6 : worked.type 6 ≡ integer
unfolding worked words machine_of type_numbered start count_below
type_6 = refl

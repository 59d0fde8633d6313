-- The list of the worked table's sequents, computed, event by event: no axiom, invariant or variant divides.
use mathlib.Core.Path.{◌≡◌, refl}
use mathlib.Core.List.{List, [], ◌∷◌, ◌++◌, flat_map}
use Rattle.lists.specs.Below.{count_below, first, numbers, keep}
use Rattle.lists.specs.Different.{some_of}
use Rattle.formula.specs.Identifiers.{identifiers, divides}
use Rattle.table.specs.Rows.{rows_of, section, count, start}
use Rattle.machine.specs.Machine.{Machine}
use Rattle.machine.specs.Operator.{operator_numbered}
use Rattle.machine.specs.Described.{tree_to, tree_of, kind_numbered, role_numbered, action_of, belonging, variables_of, machine_of}
use Rattle.sequent.specs.Entry.{Entry, written, primed, defined, moves, feasible, witnessed, natural, decreases, not_increased, unchanged}
use Rattle.sequent.specs.Sequent.{Sequent, sequent, WD, INV, FIS, GRD, SIM, WFIS, NAT, VAR}
use Rattle.sequent.specs.Listed.{in_order, event_sequents, obligations, sequents}
use Rattle.worked.proofs.Decoded.{words}

unfoldable pub worked : Machine
worked = machine_of (rows_of words)

-- base and guards of an event, then its moves, then its witnesses
abbrev pub abstract_base : List Entry
abstract_base = written 3 ∷ written 6 ∷ written 9 ∷ []

abbrev pub concrete_base : List Entry
concrete_base = written 3 ∷ written 6 ∷ written 9 ∷ written 12 ∷ []

abbrev pub guarded2 : List Entry
guarded2 = written 3 ∷ written 6 ∷ written 9 ∷ written 18 ∷ written 23 ∷ []

abbrev pub guarded4 : List Entry
guarded4 = written 3 ∷ written 6 ∷ written 9 ∷ written 12 ∷ written 35 ∷ written 40 ∷ []

abbrev pub guarded5 : List Entry
guarded5 = written 3 ∷ written 6 ∷ written 9 ∷ written 12 ∷ written 52 ∷ []

abbrev pub moved1 : List Entry
moved1 = written 3 ∷ moves 1 2 ∷ moves 1 3 ∷ []

abbrev pub moved3 : List Entry
moved3 = written 3 ∷ moves 3 2 ∷ moves 3 4 ∷ []

abbrev pub moved2 : List Entry
moved2 = written 3 ∷ written 6 ∷ written 9 ∷ written 18 ∷ written 23 ∷ moves 2 2 ∷ moves 2 3 ∷ []

abbrev pub moved4 : List Entry
moved4 = written 3 ∷ written 6 ∷ written 9 ∷ written 12 ∷ written 35 ∷ written 40 ∷ moves 4 2 ∷ moves 4 4 ∷ []

abbrev pub moved5 : List Entry
moved5 = written 3 ∷ written 6 ∷ written 9 ∷ written 12 ∷ written 52 ∷ moves 5 2 ∷ moves 5 4 ∷ []

abbrev pub moved6 : List Entry
moved6 = written 3 ∷ written 6 ∷ written 9 ∷ written 12 ∷ written 59 ∷ moves 6 2 ∷ moves 6 4 ∷ []

abbrev pub list1 : List Sequent
list1 =
    sequent INV 1 6 moved1 (primed 6)
    ∷ sequent INV 1 9 moved1 (primed 9)
    ∷ []

abbrev pub list2 : List Sequent
list2 =
    sequent WD 2 23 (abstract_base ++ (written 18 ∷ [])) (defined 23)
    ∷ sequent FIS 2 2 guarded2 (feasible 2 2)
    ∷ sequent INV 2 6 moved2 (primed 6)
    ∷ []

abbrev pub list3 : List Sequent
list3 =
    sequent WFIS 3 3 moved3 (witnessed 3 3)
    ∷ sequent SIM 3 2 (moved3 ++ (written 31 ∷ [])) (moves 1 2)
    ∷ sequent SIM 3 3 (moved3 ++ (written 31 ∷ [])) (moves 1 3)
    ∷ sequent INV 3 12 (moved3 ++ (written 31 ∷ [])) (primed 12)
    ∷ []

abbrev pub list4 : List Sequent
list4 =
    sequent WD 4 40 (concrete_base ++ (written 35 ∷ [])) (defined 40)
    ∷ sequent WD 4 43 guarded4 (defined 43)
    ∷ sequent WFIS 4 5 guarded4 (witnessed 4 5)
    ∷ sequent WFIS 4 3 moved4 (witnessed 4 3)
    ∷ sequent GRD 4 18 (guarded4 ++ (written 46 ∷ [])) (written 18)
    ∷ sequent GRD 4 23 (guarded4 ++ (written 46 ∷ [])) (written 23)
    ∷ sequent SIM 4 2 (moved4 ++ (written 46 ∷ written 49 ∷ [])) (moves 2 2)
    ∷ sequent SIM 4 3 (moved4 ++ (written 46 ∷ written 49 ∷ [])) (moves 2 3)
    ∷ sequent INV 4 12 (moved4 ++ (written 46 ∷ written 49 ∷ [])) (primed 12)
    ∷ []

abbrev pub list5 : List Sequent
list5 =
    sequent SIM 5 2 moved5 (unchanged 2)
    ∷ sequent INV 5 12 (moved5 ++ (moves 5 3 ∷ [])) (primed 12)
    ∷ sequent NAT 5 56 guarded5 (natural 56)
    ∷ sequent VAR 5 56 moved5 (decreases 56)
    ∷ []

abbrev pub list6 : List Sequent
list6 =
    sequent SIM 6 2 moved6 (unchanged 2)
    ∷ sequent INV 6 12 (moved6 ++ (moves 6 3 ∷ [])) (primed 12)
    ∷ sequent VAR 6 56 moved6 (not_increased 56)
    ∷ []

pub listed : sequents worked ≡ list1 ++ (list2 ++ (list3 ++ (list4 ++ (list5 ++ list6))))
unfolding worked words machine_of obligations sequents event_sequents in_order flat_map section count start count_below first numbers keep kind_numbered role_numbered action_of belonging variables_of tree_of tree_to operator_numbered some_of identifiers divides
listed = refl

-- The note of a formula's node is made from those of its operands: by the case of the operator, where a list of identifiers that is joined of two makes the
-- union of their sets.
use Prim.Native.Nat.{ℕ, ◌≤◌}
use mathlib.Core.Path.{◌≡◌, refl, ap, ap₂, sym, ◌∙◌}
use mathlib.Core.Bool.{Bool}
use mathlib.Core.List.{List, [], ◌++◌, append-nil}
use lib.Bits.{bit_or}
use Rattle.formula.specs.Tree.{bottom, quotient, remainder, and, or, implies, Tree, constant}
use Rattle.formula.specs.Identifiers.{identifiers, divides}
use Rattle.formula.specs.WellDefined.{well_defined}
use Rattle.table.specs.Rows.{Rows, operator_of, left_of, right_of}
use Rattle.table.specs.Lookups.{operand_node}
use Rattle.machine.specs.Operator as meaning
use Rattle.machine.specs.Operator.{Operator, literalOf, identifierOf, after_of, constant_of, unary_of, binary_of, division_of, connective_of, operator_numbered}
use Rattle.machine.specs.Described.{node, tree_of}
use Rattle.machine.proofs.Described.{tree_step}
use Rattle.rules.specs.Sorts.{shape, shape_of}
use Rattle.conditions.specs.Condition.{condition_of}
use Rattle.sets.specs.Set.{set_of}
use Rattle.sets.proofs.Set.{set_none, set_join}
use Rattle.notes.specs.declared.Note.{Note}
use Rattle.notes.specs.Notes.{note_of, empty_note, note_by}

-- a note from its parts
pub note_parts : {m m' d d' : ℕ} {b b' : Bool} → m ≡ m' → d ≡ d' → b ≡ b'
    → ◌≡◌ {A = Note} (record { mentioned = m; defined = d; divides = b }) (record { mentioned = m'; defined = d'; divides = b' })
note_parts {m'} {d'} {b} p q e =
    ap₂ (λ m d. record { mentioned = m; defined = d; divides = b }) p q ∙ ap (λ b. record { mentioned = m'; defined = d'; divides = b }) e

-- the union of three sets, with brackets on either side
join_three : (xs ys zs : List ℕ) → set_of (xs ++ (ys ++ zs)) ≡ bit_or (set_of xs) (bit_or (set_of ys) (set_of zs))
join_three xs ys zs = sym (set_join xs (ys ++ zs)) ∙ ap (bit_or (set_of xs)) (sym (set_join ys zs))

join_again : (xs ys zs : List ℕ) → set_of ((xs ++ ys) ++ zs) ≡ bit_or (bit_or (set_of xs) (set_of ys)) (set_of zs)
join_again xs ys zs = sym (set_join (xs ++ ys) zs) ∙ ap (λ n. bit_or n (set_of zs)) (sym (set_join xs ys))

-- the parts of a pair's note
mentioned_pair : (l r : Tree) → set_of (identifiers l ++ identifiers r) ≡ bit_or (set_of (identifiers l)) (set_of (identifiers r))
mentioned_pair l r = sym (set_join (identifiers l) (identifiers r))

-- of a division, from what its condition mentions again
defined_division : (l r : Tree) (zs : List ℕ) {again : ℕ} → set_of zs ≡ again → set_of ((identifiers (well_defined l) ++ identifiers (well_defined r)) ++ zs)
    ≡ bit_or (bit_or (set_of (identifiers (well_defined l))) (set_of (identifiers (well_defined r)))) again
defined_division l r zs e =
    join_again (identifiers (well_defined l)) (identifiers (well_defined r)) zs
    ∙ ap (bit_or (bit_or (set_of (identifiers (well_defined l))) (set_of (identifiers (well_defined r))))) e

defined_guarded : (l r : Tree) → set_of (identifiers (well_defined l) ++ (identifiers l ++ identifiers (well_defined r)))
    ≡ bit_or (set_of (identifiers (well_defined l))) (bit_or (set_of (identifiers l)) (set_of (identifiers (well_defined r))))
defined_guarded l r = join_three (identifiers (well_defined l)) (identifiers l) (identifiers (well_defined r))

pub note_node : (o : Operator) (b : ℕ) (l r : Tree) → note_of (node o b l r) ≡ note_by (shape o) (condition_of o) b (note_of l) (note_of r)
unfolding identifiers divides well_defined
note_node literalOf b l r = note_parts set_none set_none refl
note_node identifierOf b l r = note_parts refl set_none refl
note_node after_of b l r = note_parts refl set_none refl
note_node (constant_of c) b l r = note_parts set_none set_none refl
note_node (unary_of o) b l r = refl
note_node (binary_of o) b l r = note_parts (mentioned_pair l r) (mentioned_pair (well_defined l) (well_defined r)) refl
note_node (division_of quotient) b l r = note_parts (mentioned_pair l r) (defined_division l r (identifiers r ++ []) (ap set_of (append-nil (identifiers r)))) refl
note_node (division_of remainder) b l r = note_parts (mentioned_pair l r) (defined_division l r (identifiers l ++ identifiers r) (mentioned_pair l r)) refl
note_node (connective_of and) b l r = note_parts (mentioned_pair l r) (defined_guarded l r) refl
note_node (connective_of or) b l r = note_parts (mentioned_pair l r) (defined_guarded l r) refl
note_node (connective_of implies) b l r = note_parts (mentioned_pair l r) (defined_guarded l r) refl
note_node meaning.unknown b l r = note_parts set_none set_none refl

-- of ⊥
pub note_none : empty_note ≡ note_of (constant bottom)
unfolding identifiers divides well_defined
note_none = note_parts (sym set_none) (sym set_none) refl

-- of a node of a table
pub note_step : (t : Rows) (n : ℕ) → 1 ≤ n
    → note_of (tree_of t n) ≡ note_by (shape_of (operator_of t n)) (condition_of (operator_numbered (operator_of t n))) (left_of t n)
    (note_of (tree_of t (operand_node n (left_of t n)))) (note_of (tree_of t (operand_node n (right_of t n))))
unfolding shape_of
note_step t n h =
    let x = operand_node n (left_of t n) in
    let y = operand_node n (right_of t n) in
    ap note_of (tree_step t n h) ∙ note_node (operator_numbered (operator_of t n)) (left_of t n) (tree_of t x) (tree_of t y)

-- What is written for an accepted table is in the row form: every number of its machines is in range, so every number of its sequents is, and every number
-- of their formulas. By recursion on the trees.
use Prim.Native.Nat.{ℕ, zero, suc, ◌≤◌}
use mathlib.Core.Path.{◌≡◌, refl}
use mathlib.Core.Bool.{Bool, true, false}
use mathlib.Core.List.{List, [], ◌∷◌, ◌++◌, flat_map}
use native.Mathlib.Omega.{arith}
use lib.Dec.{T}
use Rattle.std.specs.Prelude.{Ok, Err}
use Rattle.lists.specs.All.{All, all_nil, all_cons, In}
use Rattle.lists.specs.Choice.{pick}
use Rattle.lists.proofs.All.{all_head, all_tail, all_left, all_right, all_join, all_at, all_in, all_imp, all_map, all_flat}
use Rattle.sets.specs.Set.{Identifier}
use Rattle.number.specs.Number.{rest_of, Fits}
use Rattle.number.proofs.Form.{in_range_fits}
use Rattle.row.specs.declared.Row.{Row}
use Rattle.row.specs.Row.{greatest, width, Writable}
use Rattle.formula.specs.Tree.{Constant, literal, TRUE, FALSE, top, bottom, Unary, bool, negation, logicalNot, Binary, plus, minus, times, equal, less, at_most, iff}
use Rattle.formula.specs.Tree.{Division, quotient, remainder, Connective, and, or, implies, Tree, constant, identifier, after, unary, binary, division, connective}
use Rattle.formula.specs.WellDefined.{division_condition, well_defined}
use Rattle.formula.specs.AfterValues.{at_after}
use Rattle.formula.specs.Formula.{some_value, some_after_value}
use Rattle.table.specs.Rows.{Rows, row_of, operator_of, left_of, right_of}
use Rattle.machine.specs.Machine.{Action, unassigned, becomes_equal, becomes_such_that, Machine}
use Rattle.machine.specs.Operator.{Operator, literalOf, identifierOf, after_of, constant_of, unary_of, binary_of, division_of, connective_of, unknown, operator_numbered}
use Rattle.machine.specs.Described.{node, earlier, tree_to, tree_of, machine_of}
use Rattle.machine.proofs.Operator.{operator_passes}
use Rattle.sequent.specs.Entry.{Entry, written, primed, defined, moves, feasible, witnessed, natural, decreases, not_increased, unchanged, witness_root, variable, action_tree, witness_tree, formula}
use Rattle.sequent.specs.Numbers.{numbers_of}
use Rattle.sequent.specs.Sequent.{Sequent}
use Rattle.sequent.specs.Listed.{sequents}
use Rattle.rules.specs.Refusal.{refused}
use Rattle.rules.specs.Decoded.{decoded}
use Rattle.rules.specs.Verdict.{verdict as verdict_of}
use Rattle.rules.specs.Offence.{machine}
use Rattle.rules.proofs.Accepted.{accepted_none, none_obeys}
use Rattle.rules.proofs.Range.{Ranged, small_ranged, zero_ranged, RangedRows, framed_ranged, accepted_framed}
use Rattle.rules.proofs.Refused.{refused_number, refused_few}
use Rattle.rules.proofs.RangedSequents.{EntryRanged, RangedSequent, machine_ranged, sequents_ranged}
use Rattle.reply.specs.Row.{row}
use Rattle.reply.specs.Printed.{entry_row, identifiers_in, mentioned_row, sequent_rows}
use Rattle.reply.specs.Spelled.{spelled, unary_number, binary_number, division_number, connective_number, spell_tree, spell}
use Rattle.reply.specs.Replies.{entries}
use Rattle.reply.proofs.Mentioned.{goal_identifiers, different_few, lowest_few, highest_few}

abbrev W : Row → Type 0
W r = Writable greatest width r

-- a row whose tag fits its columns and whose numbers are in range
row_writable : (tag a b c : ℕ) → tag ≤ greatest → Fits 4 tag → Ranged a → Ranged b → Ranged c → W (row tag a b c)
row_writable tag a b c small fits ra rb rc =
    let fit : (n : ℕ) → Ranged n → Fits width n = λ n r. in_range_fits greatest 10 n (omega arith) r in
    record { tag_range = small_ranged tag small; tag_fits = fits; a_range = ra; a_fits = fit a ra; b_range = rb; b_fits = fit b rb; c_range = rc; c_fits = fit c rc }

-- spelled rows
spelled_writable : (o b : ℕ) → o ≤ 41 → Ranged b → W (spelled o b)
unfolding rest_of
spelled_writable o b h r = row_writable 83 o b 0 (omega arith) refl (small_ranged o (omega arith)) r zero_ranged

unary_small : (o : Unary) → unary_number o ≤ 41
unary_small bool = omega arith
unary_small negation = omega arith
unary_small logicalNot = omega arith

binary_small : (o : Binary) → binary_number o ≤ 41
binary_small plus = omega arith
binary_small minus = omega arith
binary_small times = omega arith
binary_small equal = omega arith
binary_small less = omega arith
binary_small at_most = omega arith
binary_small iff = omega arith

division_small : (o : Division) → division_number o ≤ 41
division_small quotient = omega arith
division_small remainder = omega arith

connective_small : (o : Connective) → connective_number o ≤ 41
connective_small and = omega arith
connective_small or = omega arith
connective_small implies = omega arith

-- every row of a tree's spelling is writable
abbrev TreeWritable : Tree → Type 0
TreeWritable t = All W (spell_tree t)

leaf_writable : (o b : ℕ) → o ≤ 41 → Ranged b → All W (spelled o b ∷ [])
leaf_writable o b h r = all_cons (spelled_writable o b h r) all_nil

one_writable : (o : ℕ) {rs : List Row} → o ≤ 41 → All W rs → All W (spelled o 0 ∷ rs)
one_writable o h k = all_cons (spelled_writable o 0 h zero_ranged) k

two_writable : (o : ℕ) {rs ss : List Row} → o ≤ 41 → All W rs → All W ss → All W (spelled o 0 ∷ (rs ++ ss))
two_writable o h k l = one_writable o h (all_join k l)

-- the constants that operators stand for are no literals, whose value is in column b
abbrev constant_only : Constant → Bool
constant_only (literal w) = false
constant_only TRUE = true
constant_only FALSE = true
constant_only top = true
constant_only bottom = true

abbrev no_literal : Operator → Bool
no_literal literalOf = true
no_literal identifierOf = true
no_literal after_of = true
no_literal (constant_of c) = constant_only c
no_literal (unary_of o) = true
no_literal (binary_of o) = true
no_literal (division_of o) = true
no_literal (connective_of o) = true
no_literal unknown = true

constant_writable : (c : Constant) → T (constant_only c) → TreeWritable (constant c)
unfolding spell_tree
constant_writable (literal w) h = absurd h
constant_writable TRUE h = leaf_writable 4 0 (omega arith) zero_ranged
constant_writable FALSE h = leaf_writable 5 0 (omega arith) zero_ranged
constant_writable top h = leaf_writable 30 0 (omega arith) zero_ranged
constant_writable bottom h = leaf_writable 31 0 (omega arith) zero_ranged

node_writable : (o : Operator) (b : ℕ) (l r : Tree) → T (no_literal o) → Ranged b → TreeWritable l → TreeWritable r → TreeWritable (node o b l r)
unfolding spell_tree
node_writable literalOf b l r k h hl hr = leaf_writable 1 b (omega arith) h
node_writable identifierOf b l r k h hl hr = leaf_writable 2 b (omega arith) h
node_writable after_of b l r k h hl hr = leaf_writable 3 b (omega arith) h
node_writable (constant_of c) b l r k h hl hr = constant_writable c k
node_writable (unary_of o) b l r k h hl hr = one_writable (unary_number o) (unary_small o) hl
node_writable (binary_of o) b l r k h hl hr = two_writable (binary_number o) (binary_small o) hl hr
node_writable (division_of o) b l r k h hl hr = two_writable (division_number o) (division_small o) hl hr
node_writable (connective_of o) b l r k h hl hr = two_writable (connective_number o) (connective_small o) hl hr
node_writable unknown b l r k h hl hr = constant_writable bottom tt

-- the trees of a table, of which column b is in range
module _ (t : Rows) (ranged : RangedRows t) where
  operand_writable : (b : Bool) (u : Tree) → TreeWritable u → TreeWritable (pick b u (constant bottom))
  operand_writable true u h = h
  operand_writable false u h = constant_writable bottom tt

  tree_writable : (d n : ℕ) → TreeWritable (tree_to t d n)
  unfolding tree_to
  tree_writable zero n = constant_writable bottom tt
  tree_writable (suc d) n =
      node_writable (operator_numbered (operator_of t n)) (left_of t n) _ _ (operator_passes no_literal tt tt (operator_of t n)) (ranged.b (row_of t 20 n))
      (operand_writable (earlier n (left_of t n)) _ (tree_writable d (left_of t n))) (operand_writable (earlier n (right_of t n)) _ (tree_writable d (right_of t n)))

-- well-definedness and after values keep it
two_left : {r : Row} (t u : Tree) → All W (r ∷ (spell_tree t ++ spell_tree u)) → TreeWritable t
two_left t u h = all_left (spell_tree t) (spell_tree u) (all_tail h)

two_right : {r : Row} (t u : Tree) → All W (r ∷ (spell_tree t ++ spell_tree u)) → TreeWritable u
two_right t u h = all_right (spell_tree t) (all_tail h)

condition_writable : (o : Division) (t u : Tree) → TreeWritable t → TreeWritable u → TreeWritable (division_condition o t u)
unfolding spell_tree
condition_writable quotient t u h k = one_writable 32 (omega arith) (two_writable 20 (omega arith) k (leaf_writable 1 0 (omega arith) zero_ranged))
condition_writable remainder t u h k =
    let z = leaf_writable 1 0 (omega arith) zero_ranged in two_writable 33 (omega arith) (two_writable 22 (omega arith) z h) (two_writable 21 (omega arith) z k)

defined_writable : (t : Tree) → TreeWritable t → TreeWritable (well_defined t)
unfolding spell_tree well_defined
defined_writable (constant c) h = constant_writable top tt
defined_writable (identifier x) h = constant_writable top tt
defined_writable (after x) h = constant_writable top tt
defined_writable (unary o t) h = defined_writable t (all_tail h)
defined_writable (binary o t u) h = two_writable 33 (omega arith) (defined_writable t (two_left t u h)) (defined_writable u (two_right t u h))
defined_writable (division o t u) h =
    two_writable 33 (omega arith) (two_writable 33 (omega arith) (defined_writable t (two_left t u h)) (defined_writable u (two_right t u h)))
    (condition_writable o t u (two_left t u h) (two_right t u h))
defined_writable (connective and t u) h =
    two_writable 33 (omega arith) (defined_writable t (two_left t u h)) (two_writable 35 (omega arith) (two_left t u h) (defined_writable u (two_right t u h)))
defined_writable (connective implies t u) h =
    two_writable 33 (omega arith) (defined_writable t (two_left t u h)) (two_writable 35 (omega arith) (two_left t u h) (defined_writable u (two_right t u h)))
defined_writable (connective or t u) h =
    two_writable 33 (omega arith) (defined_writable t (two_left t u h)) (two_writable 34 (omega arith) (two_left t u h) (defined_writable u (two_right t u h)))

after_writable : (v : ℕ → Bool) (t : Tree) → TreeWritable t → TreeWritable (at_after v t)
unfolding spell_tree at_after
after_writable v (constant c) h = h
after_writable v (identifier x) h = go (v x)
  where
    go : (b : Bool) → TreeWritable (pick b (after x) (identifier x))
    go true = leaf_writable 3 x (omega arith) (all_head h).b_range
    go false = h
after_writable v (after x) h = h
after_writable v (unary o t) h = one_writable (unary_number o) (unary_small o) (after_writable v t (all_tail h))
after_writable v (binary o t u) h =
    two_writable (binary_number o) (binary_small o) (after_writable v t (two_left t u h)) (after_writable v u (two_right t u h))
after_writable v (division o t u) h =
    two_writable (division_number o) (division_small o) (after_writable v t (two_left t u h)) (after_writable v u (two_right t u h))
after_writable v (connective o t u) h =
    two_writable (connective_number o) (connective_small o) (after_writable v t (two_left t u h)) (after_writable v u (two_right t u h))

-- the entries of a sequent, rows 81 and 82
entry_writable : (tag : ℕ) → tag ≤ greatest → Fits 4 tag → (h : Entry) → EntryRanged h → W (entry_row tag h)
entry_writable tag small fits h r = row_writable tag _ _ _ small fits (small_ranged _ (omega (arith, form_small h))) r.0 r.1
  where
    form_small : (h : Entry) → (numbers_of h).form ≤ 10
    form_small (written r) = omega arith
    form_small (primed r) = omega arith
    form_small (defined r) = omega arith
    form_small (moves e x) = omega arith
    form_small (feasible e x) = omega arith
    form_small (witnessed e x) = omega arith
    form_small (natural r) = omega arith
    form_small (decreases r) = omega arith
    form_small (not_increased r) = omega arith
    form_small (unchanged x) = omega arith

-- row 84, of identifiers that are in 1 to 64
mentioned_writable : (xs : List ℕ) → All Identifier xs → W (mentioned_row xs)
unfolding rest_of
mentioned_writable xs h =
    row_writable 84 _ _ _ (omega arith) refl (small_ranged _ (omega (arith, different_few xs h))) (small_ranged _ (omega (arith, lowest_few xs h)))
    (small_ranged _ (omega (arith, highest_few xs h)))

sequent_writable : (m : Machine) (s : Sequent) → RangedSequent s → All Identifier (identifiers_in (spell (formula m s.goal))) → All W (sequent_rows m s)
unfolding sequent_rows rest_of
sequent_writable m s r named =
    all_cons (row_writable 80 s.kind s.event s.item (omega arith) refl (small_ranged s.kind (omega (arith, r.kind))) r.event r.item)
    (all_cons (mentioned_writable _ named)
    (all_join (all_map (entry_row 81) (all_imp (entry_writable 81 (omega arith) refl) r.hypotheses))
    (all_cons (entry_writable 82 (omega arith) refl s.goal r.goal) all_nil)))

-- rows 83 of an entry, of a machine whose trees are spelled in range
module _ (m : Machine) (trees : (n : ℕ) → TreeWritable (m.tree n)) where
  action_writable : (a : Action) (x : ℕ) → Ranged x → TreeWritable (action_tree m a x)
  unfolding spell_tree
  action_writable unassigned x h = two_writable 20 (omega arith) (leaf_writable 3 x (omega arith) h) (leaf_writable 2 x (omega arith) h)
  action_writable (becomes_equal r) x h = two_writable 20 (omega arith) (leaf_writable 3 x (omega arith) h) (trees r)
  action_writable (becomes_such_that r) x h = trees r

  formula_writable : (h : Entry) → EntryRanged h → All W (spell (formula m h))
  unfolding spell spell_tree
  formula_writable (written r) k = trees r
  formula_writable (primed r) k = after_writable (variable m) (m.tree r) (trees r)
  formula_writable (defined r) k = defined_writable (m.tree r) (trees r)
  formula_writable (moves e x) k = action_writable (m.action e x) x k.1
  formula_writable (feasible e x) k = all_cons (spelled_writable 41 x (omega arith) k.1) (action_writable (m.action e x) x k.1)
  formula_writable (witnessed e x) k = go (variable m x)
    where
      go : (b : Bool) → All W (spell (pick b (some_after_value x (witness_tree m e x)) (some_value x (witness_tree m e x))))
      go true = all_cons (spelled_writable 41 x (omega arith) k.1) (trees (witness_root (m.witnesses e) x))
      go false = all_cons (spelled_writable 40 x (omega arith) k.1) (trees (witness_root (m.witnesses e) x))
  formula_writable (natural r) k = two_writable 22 (omega arith) (leaf_writable 1 0 (omega arith) zero_ranged) (trees r)
  formula_writable (decreases r) k = two_writable 21 (omega arith) (after_writable (variable m) (m.tree r) (trees r)) (trees r)
  formula_writable (not_increased r) k = two_writable 22 (omega arith) (after_writable (variable m) (m.tree r) (trees r)) (trees r)
  formula_writable (unchanged x) k = action_writable unassigned x k.0

module _ (bytes : List ℕ) (n : ℕ) (v : verdict_of bytes ≡ Ok n) where
  rows_ranged : RangedRows (decoded bytes)
  rows_ranged = framed_ranged bytes (accepted_framed bytes (accepted_none bytes n v).0)

  trees_writable : (n : ℕ) → TreeWritable ((machine bytes).tree n)
  unfolding machine_of tree_of
  trees_writable n = tree_writable (decoded bytes) rows_ranged n n

  listed_ranged : {s : Sequent} → In s (sequents (machine bytes)) → RangedSequent s
  listed_ranged i = sequents_ranged (machine bytes) (machine_ranged (decoded bytes) rows_ranged) i

  -- every row of every listed sequent
  pub sequent_rows_writable : {s : Sequent} → In s (sequents (machine bytes)) → All (Writable greatest width) (sequent_rows (machine bytes) s)
  sequent_rows_writable {s} i = sequent_writable (machine bytes) s (listed_ranged i) (goal_identifiers (decoded bytes) (none_obeys bytes (accepted_none bytes n v).0) i)

  -- every row of every spelled entry of it
  pub spelled_rows_writable : {s : Sequent} → In s (sequents (machine bytes)) → {h : Entry} → In h (entries s)
      → All (Writable greatest width) (spell (formula (machine bytes) h))
  spelled_rows_writable {s} i {h} j =
      let r = listed_ranged i in
      formula_writable (machine bytes) trees_writable h (all_at (all_join r.hypotheses (all_cons r.goal all_nil)) j)

  -- every row that the program prints
  pub list_rows_writable : All (Writable greatest width) (flat_map (sequent_rows (machine bytes)) (sequents (machine bytes)))
  list_rows_writable = all_flat (sequent_rows (machine bytes)) (all_in (sequents (machine bytes)) (λ s i. sequent_rows_writable i))

-- the row of a refusal
pub refusal_row_writable : (bytes : List ℕ) (c r : ℕ) → verdict_of bytes ≡ Err (refused c r) → Writable greatest width (row 89 c r 0)
unfolding rest_of
refusal_row_writable bytes c r v =
    row_writable 89 c r 0 (omega arith) refl (small_ranged c (omega (arith, (refused_number bytes c r v).1))) (small_ranged r (omega (arith, refused_few bytes c r v)))
    zero_ranged

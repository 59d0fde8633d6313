-- How the machines of a table stand to its rows: members of the lists by their rows, the row that an action comes from, and the tree of a node from the
-- trees of its operands, by recursion on the depth.
use Prim.Native.Nat.{ℕ, zero, suc, ◌≤◌, ◌<◌}
use mathlib.Core.Path.{◌≡◌, refl, sym, ap, ap₂, ◌∙◌, subst}
use mathlib.Core.Bool.{Bool, true, false, true≢false, ◌||◌}
use native.Mathlib.Omega.{arith}
use lib.Dec.{T, ltb, eqb, ltb→lt, eqb→eq}
use borrow.Author.Tests.{ltb-true, ltb-false}
use Rattle.lists.specs.All.{In}
use Rattle.lists.proofs.Distinct.{Distinct, Ascending, pairwise_keep, numbers_rise}
use Rattle.lists.specs.Choice.{pick}
use Rattle.lists.specs.Below.{first, numbers}
use Rattle.lists.proofs.First.{Least, first_least}
use Rattle.lists.proofs.Below.{numbers_in, in_numbers, keep_in, in_keep}
use Rattle.table.specs.Rows.{Rows, tagged, section, count, named, kind_of, operator_of, left_of, right_of, is_action}
use Rattle.table.specs.Names.{is_variable_of}
use Rattle.table.specs.Lookups.{operand_node}
use Rattle.table.proofs.Sections.{section_row, section_distinct, named_bounds, bounds_named}
use Rattle.formula.specs.Tree.{bottom, Tree, constant}
use Rattle.formula.proofs.Truth.{and_split, test_true, true_test}
use Rattle.machine.specs.Machine.{Action, unassigned, becomes_equal, becomes_such_that}
use Rattle.machine.specs.Operator.{Operator, literalOf, identifierOf, after_of, constant_of, unary_of, binary_of, division_of, connective_of}
use Rattle.machine.specs.Operator.{unknown, operator_numbered}
use Rattle.machine.specs.Described.{node, earlier, tree_to, tree_of, sets, action_of, belonging, variables_of}

-- the action that stands in the first row that sets a variable, if there is one: by whether it is there and whether it is a 51
pub action_by_row : (t : Rows) (e x i : ℕ) → i ≡ first (sets t e x) t.size 0 → (b c : Bool) → ltb i t.size ≡ b → tagged t 51 i ≡ c
    → action_of t e x ≡ pick b (pick c (becomes_equal (t.c i)) (becomes_such_that (t.c i))) unassigned
unfolding action_of
action_by_row t e x i found b c p q =
    ap (λ i. pick (ltb i t.size) (pick (tagged t 51 i) (becomes_equal (t.c i)) (becomes_such_that (t.c i))) unassigned) (sym found)
    ∙ ap₂ (λ b c. pick b (pick c (becomes_equal (t.c i)) (becomes_such_that (t.c i))) unassigned) p q

-- how many trees of operands a node has
abbrev pub operands_of : Operator → ℕ
operands_of literalOf = 0
operands_of identifierOf = 0
operands_of after_of = 0
operands_of (constant_of c) = 0
operands_of (unary_of o) = 1
operands_of (binary_of o) = 2
operands_of (division_of o) = 2
operands_of (connective_of o) = 2
operands_of unknown = 0

earlier_bounds : (n m : ℕ) → T (earlier n m) → (1 ≤ m) × (m < n)
earlier_bounds n m h = let s = and_split (ltb 0 m) (ltb m n) h in (ltb→lt 0 m s.0, ltb→lt m n s.1)

-- an operand has a smaller number
pub operand_falls : (n m : ℕ) → 1 ≤ n → operand_node n m < n
operand_falls n m h = go (earlier n m) (earlier_bounds n m)
  where
    go : (b : Bool) → (T b → (1 ≤ m) × (m < n)) → pick b m 0 < n
    go true f = (f tt).1
    go false f = h

module _ (t : Rows) where
  -- events and identifiers are the numbers that name one
  pub event_named : (e : ℕ) → In e (numbers (count t 40) 1) → T (named t 40 e)
  event_named e i = let r = in_numbers (count t 40) 1 e i in bounds_named t 40 e r.0 (omega (arith, r.1))

  pub named_event : (e : ℕ) → T (named t 40 e) → In e (numbers (count t 40) 1)
  named_event e h = let b = named_bounds t 40 e h in numbers_in (count t 40) 1 e b.0 (omega (arith, b.1))

  pub variable_named : (own x : ℕ) → In x (variables_of t own) → T (named t 10 x) × T (is_variable_of own (kind_of t x))
  unfolding variables_of
  variable_named own x i =
      let k = in_keep (λ x. is_variable_of own (kind_of t x)) (numbers (count t 10) 1) i in
      let r = in_numbers (count t 10) 1 x k.0 in
      (bounds_named t 10 x r.0 (omega (arith, r.1)), k.1)

  pub named_variable_lem : (own x : ℕ) → T (named t 10 x) → T (is_variable_of own (kind_of t x)) → In x (variables_of t own)
  unfolding variables_of
  named_variable_lem own x n k =
      let b = named_bounds t 10 x n in
      keep_in (λ x. is_variable_of own (kind_of t x)) (numbers_in (count t 10) 1 x b.0 (omega (arith, b.1))) k

  pub variables_rise : (own : ℕ) → Ascending (variables_of t own)
  unfolding variables_of
  variables_rise own = pairwise_keep (λ x. is_variable_of own (kind_of t x)) (numbers_rise (count t 10) 1)

  -- the rows of a section that belong to an event
  pub belonging_row : (k e i : ℕ) → In i (belonging t k e) → (i < t.size) × (t.tag i ≡ k) × (t.a i ≡ e)
  unfolding belonging
  belonging_row k e i h =
      let b = in_keep (λ i. eqb (t.a i) e) (section t k) h in
      let r = section_row t k i b.0 in
      (r.0, r.1, eqb→eq (t.a i) e b.1)

  pub belonging_distinct : (k e : ℕ) → Distinct (belonging t k e)
  unfolding belonging
  belonging_distinct k e = pairwise_keep (λ i. eqb (t.a i) e) (section_distinct t k)

  -- the action of an event for a variable comes from a row that sets it, or there is no such row
  pub record SetBy (k e x i : ℕ) : Type 0 where
    pub inside : i < t.size
    pub tag_is : t.tag i ≡ k
    pub event_is : t.a i ≡ e
    pub variable_is : t.b i ≡ x

  pub action_row_lem : (e x : ℕ) (P : Action → Type 0) → ((i : ℕ) → SetBy 51 e x i → P (becomes_equal (t.c i)))
      → ((i : ℕ) → SetBy 52 e x i → P (becomes_such_that (t.c i))) → (((i : ℕ) → i < t.size → T (sets t e x i) → ⊥) → P unassigned) → P (action_of t e x)
  unfolding action_of
  action_row_lem e x P equal such none = within (ltb f t.size) refl
    where
      f : ℕ
      f = first (sets t e x) t.size 0

      least : Least (sets t e x) t.size 0 f
      least = first_least (sets t e x) t.size 0

      by : (k : ℕ) → f < t.size → T (sets t e x f) → t.tag f ≡ k → SetBy k e x f
      by k h s q =
          let target = and_split (eqb (t.a f) e) (eqb (t.b f) x) (and_split (is_action t f) _ s).1 in
          record { inside = h; tag_is = q; event_is = eqb→eq (t.a f) e target.0; variable_is = eqb→eq (t.b f) x target.1 }

      kind : (b : Bool) → tagged t 51 f ≡ b → f < t.size → T (sets t e x f) → P (pick b (becomes_equal (t.c f)) (becomes_such_that (t.c f)))
      kind true q h s = equal f (by 51 h s (eqb→eq (t.tag f) 51 (true_test _ q)))
      kind false q h s =
          such f (by 52 h s (eqb→eq (t.tag f) 52 (subst (λ b. T (b || tagged t 52 f)) q (and_split (is_action t f) _ s).0)))

      within : (b : Bool) → ltb f t.size ≡ b
          → P (pick b (pick (tagged t 51 f) (becomes_equal (t.c f)) (becomes_such_that (t.c f))) unassigned)
      within true q = let h = ltb-true f t.size q in kind (tagged t 51 f) refl h (true_test _ (least.passes (omega arith)))
      within false q = none (λ i h s. true≢false (sym (test_true _ s) ∙ least.before i (omega arith) (omega (arith, ltb-false f t.size q))))

  -- an operand's tree, as its node has it, to a depth
  abbrev operand_to : ℕ → ℕ → ℕ → Tree
  operand_to d n m = pick (earlier n m) (tree_to t d m) (constant bottom)

  either_tree : (b : Bool) (u v : Tree) → (T b → u ≡ v) → ◌≡◌ {A = Tree} (pick b u (constant bottom)) (pick b v (constant bottom))
  either_tree true u v f = f tt
  either_tree false u v f = refl

  -- any depth from the node's number on gives the same tree
  tree_depth : (d d' n : ℕ) → 1 ≤ n → n ≤ d → n ≤ d' → tree_to t d n ≡ tree_to t d' n
  unfolding tree_to
  tree_depth zero d' n l h h' = absurd (omega arith)
  tree_depth (suc d) zero n l h h' = absurd (omega arith)
  tree_depth (suc d) (suc d') n l h h' =
      let operand : (m : ℕ) → operand_to d n m ≡ operand_to d' n m = λ m.
      either_tree (earlier n m) (tree_to t d m) (tree_to t d' m)
      (λ e. let b = earlier_bounds n m e in tree_depth d d' m b.0 (omega (arith, b.1)) (omega (arith, b.1))) in
      ap₂ (node (operator_numbered (operator_of t n)) (left_of t n)) (operand (left_of t n)) (operand (right_of t n))

  -- it is the tree of the operand's node, of node 0 where the operand is no earlier one
  operand_tree : (d m : ℕ) → operand_to d (suc d) m ≡ tree_of t (operand_node (suc d) m)
  unfolding tree_of tree_to
  operand_tree d m = go (earlier (suc d) m) (earlier_bounds (suc d) m)
    where
      go : (b : Bool) → (T b → (1 ≤ m) × (m < suc d)) → ◌≡◌ {A = Tree} (pick b (tree_to t d m) (constant bottom)) (tree_of t (pick b m 0))
      go true f = tree_depth d m m (f tt).0 (omega (arith, (f tt).1)) (omega arith)
      go false f = refl

  -- the tree of a node, from the trees of its operands
  pub tree_step : (n : ℕ) → 1 ≤ n
      → tree_of t n ≡ node (operator_numbered (operator_of t n)) (left_of t n) (tree_of t (operand_node n (left_of t n))) (tree_of t (operand_node n (right_of t n)))
  unfolding tree_of tree_to
  tree_step zero l = absurd (omega arith)
  tree_step (suc d) l =
      let n = suc d in
      ap₂ (node (operator_numbered (operator_of t n)) (left_of t n)) (operand_tree d (left_of t n)) (operand_tree d (right_of t n))

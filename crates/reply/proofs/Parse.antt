-- A spelling has one reading: reading the rows of a formula gives the formula, whatever rows follow. By recursion on the tree; a bound of as many rows as
-- there are is enough, as each node is a row.
use Prim.Native.Nat.{ℕ, zero, suc, ◌-◌, ◌≤◌}
use mathlib.Core.Path.{◌≡◌, refl, sym, ap, ◌∙◌, subst}
use mathlib.Core.Bool.{Bool, true, false, ◌&&◌}
use mathlib.Core.List.{List, [], ◌∷◌, ◌++◌, map, append_assoc}
use mathlib.Core.Option.{Option, none, some}
use native.Mathlib.Omega.{arith}
use lib.Dec.{eqb, eqb→eq}
use lib.ListN.{length, length-append}
use Rattle.lists.specs.All.{All, all_nil, all_cons}
use Rattle.lists.specs.Choice.{pick}
use Rattle.row.specs.declared.Row.{Row}
use Rattle.formula.specs.Tree.{literal, TRUE, FALSE, top, bottom, Constant, Unary, bool, negation, logicalNot, Binary, plus, minus, times, equal, less, at_most, iff}
use Rattle.formula.specs.Tree.{Division, quotient, remainder, Connective, and, or, implies, Tree, constant, identifier, after, unary, binary, division, connective}
use Rattle.formula.specs.Evaluate.{Env}
use Rattle.formula.specs.Formula.{Formula, plain, some_value, some_after_value, Holds}
use Rattle.formula.proofs.Truth.{and_split, true_test}
use Rattle.machine.specs.Machine.{Machine}
use Rattle.machine.specs.Operator.{unknown, operator_numbered, unary_of, binary_of, division_of, connective_of}
use Rattle.sequent.specs.Entry.{Entry, formula}
use Rattle.sequent.specs.Sequent.{Sequent, Meets, Valid}
use Rattle.reply.specs.Spelled.{spelled, constant_row, unary_number, binary_number, division_number, connective_number, spell_tree, spell}
use Rattle.reply.specs.Parse.{made, parse_two, parse_node, parse_tree, parse_formula}

unary_numbered : (o : Unary) → operator_numbered (unary_number o) ≡ unary_of o
unfolding operator_numbered
unary_numbered bool = refl
unary_numbered negation = refl
unary_numbered logicalNot = refl

binary_numbered : (o : Binary) → operator_numbered (binary_number o) ≡ binary_of o
unfolding operator_numbered
binary_numbered plus = refl
binary_numbered minus = refl
binary_numbered times = refl
binary_numbered equal = refl
binary_numbered less = refl
binary_numbered at_most = refl
binary_numbered iff = refl

division_numbered : (o : Division) → operator_numbered (division_number o) ≡ division_of o
unfolding operator_numbered
division_numbered quotient = refl
division_numbered remainder = refl

connective_numbered : (o : Connective) → operator_numbered (connective_number o) ≡ connective_of o
unfolding operator_numbered
connective_numbered and = refl
connective_numbered or = refl
connective_numbered implies = refl

-- a row 83 is read by its operator
node_read : (o b most : ℕ) (rs : List Row) → 1 ≤ most → parse_tree most (spelled o b ∷ rs) ≡ parse_node (operator_numbered o) b (parse_tree (most - 1)) rs
unfolding parse_tree
node_read o b zero rs h = absurd (omega arith)
node_read o b (suc most) rs h = let e : suc most - 1 ≡ most = omega arith in rw e

constant_read : (c : Constant) (most : ℕ) (rest : List Row) → 1 ≤ most → parse_tree most (constant_row c ∷ rest) ≡ some (constant c, rest)
unfolding operator_numbered
constant_read (literal w) most rest h = node_read 1 w most rest h
constant_read TRUE most rest h = node_read 4 0 most rest h
constant_read FALSE most rest h = node_read 5 0 most rest h
constant_read top most rest h = node_read 30 0 most rest h
constant_read bottom most rest h = node_read 31 0 most rest h

-- a node of two operands, the second read from what the first leaves
two_read : (o most : ℕ) (f : Tree → Tree → Tree) (t u : Tree) (rest : List Row)
    → ((rs : List Row) → parse_node (operator_numbered o) 0 (parse_tree (most - 1)) rs ≡ parse_two f (parse_tree (most - 1)) (parse_tree (most - 1) rs)) → 1 ≤ most
    → parse_tree (most - 1) (spell_tree t ++ (spell_tree u ++ rest)) ≡ some (t, spell_tree u ++ rest) → parse_tree (most - 1) (spell_tree u ++ rest) ≡ some (u, rest)
    → parse_tree most (spelled o 0 ∷ ((spell_tree t ++ spell_tree u) ++ rest)) ≡ some (f t u, rest)
two_read o most f t u rest e l h k = node_read o 0 most _ l ∙ e _ ∙ rw (append_assoc, h, k)

read_tree_lem : (t : Tree) (most : ℕ) (rest : List Row) → length (spell_tree t) ≤ most → parse_tree most (spell_tree t ++ rest) ≡ some (t, rest)
unfolding spell_tree operator_numbered
read_tree_lem (constant c) most rest h = constant_read c most rest h
read_tree_lem (identifier x) most rest h = node_read 2 x most rest h
read_tree_lem (after x) most rest h = node_read 3 x most rest h
read_tree_lem (unary o t) most rest h =
    node_read (unary_number o) 0 most (spell_tree t ++ rest) (omega arith)
    ∙ ap (λ p. parse_node p 0 (parse_tree (most - 1)) (spell_tree t ++ rest)) (unary_numbered o)
    ∙ ap (made (unary o)) (read_tree_lem t (most - 1) rest (omega arith))
read_tree_lem (binary o t u) most rest h =
    let l = length-append (spell_tree t) (spell_tree u) in
    two_read (binary_number o) most (binary o) t u rest (λ rs. ap (λ p. parse_node p 0 (parse_tree (most - 1)) rs) (binary_numbered o)) (omega arith)
    (read_tree_lem t (most - 1) (spell_tree u ++ rest) (omega arith)) (read_tree_lem u (most - 1) rest (omega arith))
read_tree_lem (division o t u) most rest h =
    let l = length-append (spell_tree t) (spell_tree u) in
    two_read (division_number o) most (division o) t u rest (λ rs. ap (λ p. parse_node p 0 (parse_tree (most - 1)) rs) (division_numbered o)) (omega arith)
    (read_tree_lem t (most - 1) (spell_tree u ++ rest) (omega arith)) (read_tree_lem u (most - 1) rest (omega arith))
read_tree_lem (connective o t u) most rest h =
    let l = length-append (spell_tree t) (spell_tree u) in
    two_read (connective_number o) most (connective o) t u rest (λ rs. ap (λ p. parse_node p 0 (parse_tree (most - 1)) rs) (connective_numbered o)) (omega arith)
    (read_tree_lem t (most - 1) (spell_tree u ++ rest) (omega arith)) (read_tree_lem u (most - 1) rest (omega arith))

tree_read : (t : Tree) (rest : List Row) → parse_tree (length (spell_tree t ++ rest)) (spell_tree t ++ rest) ≡ some (t, rest)
tree_read t rest = read_tree_lem t (length (spell_tree t ++ rest)) rest (omega (arith, length-append (spell_tree t) rest))

never : {A : Type 0} (x : A) → ◌≡◌ {A = Option A} none (some x) → ⊥
never x e = let z : ◌≡◌ {A = ℕ} 0 1 = cc in omega arith

-- rows whose first names no operator, as 40 and 41 name none, are no tree; so whatever reads as a tree reads as a plain formula
no_tree : (most : ℕ) (r : Row) (rs : List Row) → operator_numbered r.a ≡ unknown → parse_tree most (r ∷ rs) ≡ none
unfolding parse_tree
no_tree zero r rs e = refl
no_tree (suc most) r rs e = rw e (go (eqb r.tag 83))
  where
    go : (b : Bool) → ◌≡◌ {A = Option (Tree × List Row)} (pick b none none) none
    go true = refl
    go false = refl

plain_read : (rs : List Row) (t : Tree) (rest : List Row) → parse_tree (length rs) rs ≡ some (t, rest) → parse_formula rs ≡ some (plain t, rest)
unfolding parse_formula parse_tree operator_numbered
plain_read [] t rest h = absurd (never (t, rest) h)
plain_read (r ∷ rs) t rest h = go (eqb r.tag 83 && eqb r.a 40) refl (eqb r.tag 83 && eqb r.a 41) refl
  where
    other : (n : ℕ) → operator_numbered n ≡ unknown → (eqb r.tag 83 && eqb r.a n) ≡ true → ⊥
    other n u e =
        let q : r.a ≡ n = eqb→eq r.a n (and_split (eqb r.tag 83) _ (true_test _ e)).1 in
        never (t, rest) (sym (no_tree (length (r ∷ rs)) r rs (ap operator_numbered q ∙ u)) ∙ h)

    go : (x : Bool) → (eqb r.tag 83 && eqb r.a 40) ≡ x → (y : Bool) → (eqb r.tag 83 && eqb r.a 41) ≡ y
        → ◌≡◌ {A = Option (Formula × List Row)}
        (pick x (made (some_value r.b) (parse_tree (length rs) rs))
        (pick y (made (some_after_value r.b) (parse_tree (length rs) rs)) (made plain (parse_tree (length (r ∷ rs)) (r ∷ rs)))))
        (some (plain t, rest))
    go true p y q = absurd (other 40 refl p)
    go false p true q = absurd (other 41 refl q)
    go false p false q = ap (made plain) h

-- the reader inverts the spelling, whatever rows follow
pub parse_spelled : (f : Formula) (rest : List Row) → parse_formula (spell f ++ rest) ≡ some (f, rest)
unfolding spell parse_formula
parse_spelled (plain t) rest = plain_read (spell_tree t ++ rest) t rest (tree_read t rest)
parse_spelled (some_value x t) rest = ap (made (some_value x)) (tree_read t rest)
parse_spelled (some_after_value x t) rest = ap (made (some_after_value x)) (tree_read t rest)

-- no spelling is the front of another, so spellings one after another fall apart in one way
pub spelled_prefix : (f g : Formula) (xs ys : List Row) → spell f ++ xs ≡ spell g ++ ys → (f ≡ g) × (xs ≡ ys)
spelled_prefix f g xs ys e =
    let q : ◌≡◌ {A = Option (Formula × List Row)} (some (f, xs)) (some (g, ys)) = sym (parse_spelled f xs) ∙ ap parse_formula e ∙ parse_spelled g ys in
    let p : ◌≡◌ {A = Formula × List Row} (f, xs) (g, ys) = cc in
    (ap (λ z. z.0) p, ap (λ z. z.1) p)

pub spelled_once : (f g : Formula) → spell f ≡ spell g → f ≡ g
spelled_once f g e = (spelled_prefix f g [] [] (ap (λ rs. rs ++ []) e)).0

-- two entries with the same rows 83 have the same formula, the one that `Valid` speaks of
pub entry_spelled_once : (m : Machine) (h g : Entry) → spell (formula m h) ≡ spell (formula m g) → formula m h ≡ formula m g
entry_spelled_once m h g e = spelled_once (formula m h) (formula m g) e

-- what a prover receives of a sequent, the rows 83 of its entries, decides whether it is valid
module _ (m : Machine) where
  abbrev pub spelled_entry : Entry → List Row
  spelled_entry h = spell (formula m h)

  same_holds : (ρ : Env m.type) (hs gs : List Entry) → map spelled_entry hs ≡ map spelled_entry gs → All (Meets m ρ) gs → All (Meets m ρ) hs
  same_holds ρ [] gs e k = all_nil
  same_holds ρ (h ∷ hs) [] e k = absurd (let z : ◌≡◌ {A = ℕ} 0 1 = cc in omega arith)
  same_holds ρ (h ∷ hs) (g ∷ gs) e (all_cons p ps) =
      let head : spelled_entry h ≡ spelled_entry g = cc in
      let tail : map spelled_entry hs ≡ map spelled_entry gs = cc in
      all_cons (subst (Holds ρ) (sym (entry_spelled_once m h g head)) p) (same_holds ρ hs gs tail ps)

  pub spelled_valid : (s t : Sequent) → map spelled_entry s.hypotheses ≡ map spelled_entry t.hypotheses → spelled_entry s.goal ≡ spelled_entry t.goal
      → Valid m s → Valid m t
  unfolding Valid
  spelled_valid s t e g v ρ h =
      subst (Holds ρ) (entry_spelled_once m s.goal t.goal g) (v ρ (same_holds ρ s.hypotheses t.hypotheses e h))

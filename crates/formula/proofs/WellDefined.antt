-- Reading in order gives the total value where the well-definedness formula is true, and nothing elsewhere: one equation, by
-- induction on the tree, in which each node only asks for the truth values of its parts' conditions.
use mathlib.Core.Path.{◌≡◌, refl, sym, ap, ap₂, ◌∙◌, subst}
use mathlib.Core.Bool.{Bool, true, false, not, ◌&&◌, ◌||◌}
use mathlib.Core.Option.{Option, none, some, map, some-injective, none-ne-some}
use Prim.Native.Nat.{ℕ}
use lib.Dec.{T}
use Rattle.lists.specs.Choice.{pick}
use Rattle.formula.specs.Values.{ValueType, AnyValue, number, truth, as_truth}
use Rattle.formula.specs.Tree.{Connective, and, or, implies, Division, quotient, remainder, Tree, constant, identifier, after, unary, binary}
use Rattle.formula.specs.Tree.{division, connective}
use Rattle.formula.specs.Evaluate.{Env, evaluate, read_tree, True, unary_value, binary_value, division_defined, division_value, total_division}
use Rattle.formula.specs.Evaluate.{read_division, connective_value, reads_right, read_connective, and_then}
use Rattle.formula.specs.WellDefined.{well_defined, division_condition}
use Rattle.formula.proofs.Truth.{test_true}

-- a value that is read where the test passes
abbrev read_where : Bool → AnyValue → Option AnyValue
read_where w v = pick w (some v) none

map_where : (f : AnyValue → AnyValue) (w : Bool) (v : AnyValue) → map f (read_where w v) ≡ read_where w (f v)
map_where f true v = refl
map_where f false v = refl

pair_where : (f : AnyValue → AnyValue → AnyValue) (a b : Bool) (v w : AnyValue) →
    and_then (read_where a v) (λ x. map (f x) (read_where b w)) ≡ read_where (a && b) (f v w)
pair_where f true b v w = map_where (f v) b w
pair_where f false b v w = refl

division_where : (o : Division) (a b : Bool) (v w : AnyValue) →
    and_then (read_where a v) (λ x. and_then (read_where b w) (read_division o x)) ≡ read_where (a && b && division_defined o v w) (total_division o v w)
division_where o true true v w = where_defined (division_defined o v w) (division_value o v w) _
  where
    where_defined : (d : Bool) (x y : AnyValue) → read_where d x ≡ read_where d (pick d x y)
    where_defined true x y = refl
    where_defined false x y = refl
division_where o true false v w = refl
division_where o false b v w = refl

-- what the left side's truth asks of the right side's condition
abbrev right_condition : Connective → Bool → Bool → Bool
right_condition and p w = not p || w
right_condition or p w = p || w
right_condition implies p w = not p || w

connective_where : (o : Connective) (a b : Bool) (v w : AnyValue) →
    and_then (read_where a v) (λ x. read_connective o x (read_where b w))
    ≡ read_where (a && right_condition o (as_truth v) b) (truth (connective_value o (as_truth v) (as_truth w)))
connective_where o true b v w = right o (as_truth v)
  where
    right : (o : Connective) (p : Bool) →
        pick (reads_right o p) (map (λ x. truth (connective_value o p (as_truth x))) (read_where b w)) (some (truth (connective_value o p false)))
        ≡ read_where (right_condition o p b) (truth (connective_value o p (as_truth w)))
    right and true = map_where (λ x. truth (as_truth x)) b w
    right and false = refl
    right or true = refl
    right or false = map_where (λ x. truth (as_truth x)) b w
    right implies true = map_where (λ x. truth (as_truth x)) b w
    right implies false = refl
connective_where o false b v w = refl

module _ {type : ℕ → ValueType} (ρ : Env type) where
  -- the truth of a tree's well-definedness formula
  abbrev defined : Tree → Bool
  defined t = as_truth (evaluate ρ (well_defined t))

  condition_defined : (o : Division) (t u : Tree) → as_truth (evaluate ρ (division_condition o t u)) ≡ division_defined o (evaluate ρ t) (evaluate ρ u)
  unfolding evaluate
  condition_defined quotient t u = refl
  condition_defined remainder t u = refl

  connective_defined : (o : Connective) (t u : Tree) → defined (connective o t u) ≡ (defined t && right_condition o (as_truth (evaluate ρ t)) (defined u))
  unfolding evaluate well_defined
  connective_defined and t u = refl
  connective_defined or t u = refl
  connective_defined implies t u = refl

  pub read_where_well_defined : (t : Tree) → read_tree ρ t ≡ pick (as_truth (evaluate ρ (well_defined t))) (some (evaluate ρ t)) none
  unfolding evaluate read_tree well_defined
  read_where_well_defined (constant c) = refl
  read_where_well_defined (identifier x) = refl
  read_where_well_defined (after x) = refl
  read_where_well_defined (unary o t) =
      ap (map (unary_value o)) (read_where_well_defined t) ∙ map_where (unary_value o) (defined t) (evaluate ρ t)
  read_where_well_defined (binary o t u) =
      ap₂ (λ r s. and_then r (λ v. map (binary_value o v) s)) (read_where_well_defined t) (read_where_well_defined u)
      ∙ pair_where (binary_value o) (defined t) (defined u) (evaluate ρ t) (evaluate ρ u)
  read_where_well_defined (division o t u) =
      ap₂ (λ r s. and_then r (λ v. and_then s (read_division o v))) (read_where_well_defined t) (read_where_well_defined u)
      ∙ division_where o (defined t) (defined u) (evaluate ρ t) (evaluate ρ u)
      ∙ ap (λ d. read_where (defined t && defined u && d) (total_division o (evaluate ρ t) (evaluate ρ u))) (sym (condition_defined o t u))
  read_where_well_defined (connective o t u) =
      ap₂ (λ r s. and_then r (λ v. read_connective o v s)) (read_where_well_defined t) (read_where_well_defined u)
      ∙ connective_where o (defined t) (defined u) (evaluate ρ t) (evaluate ρ u)
      ∙ ap (λ w. read_where w (evaluate ρ (connective o t u))) (sym (connective_defined o t u))

  -- where the well-definedness formula is true, a run reads the total value
  pub well_defined_reads : (t : Tree) → True ρ (well_defined t) → read_tree ρ t ≡ some (evaluate ρ t)
  well_defined_reads t h = read_where_well_defined t ∙ ap (λ w. read_where w (evaluate ρ t)) (test_true (defined t) h)

  -- whatever a run reads is the total value
  pub reads_total : (t : Tree) (v : AnyValue) → read_tree ρ t ≡ some v → evaluate ρ t ≡ v
  reads_total t v e = go (defined t) (sym (read_where_well_defined t) ∙ e)
    where
      go : (w : Bool) → read_where w (evaluate ρ t) ≡ some v → evaluate ρ t ≡ v
      go true e = some-injective (evaluate ρ t) v e
      go false e = absurd (none-ne-some v e)

  -- a run reads a value only where the well-definedness formula is true
  pub reads_well_defined : (t : Tree) (v : AnyValue) → read_tree ρ t ≡ some v → True ρ (well_defined t)
  reads_well_defined t v e = go (defined t) (sym (read_where_well_defined t) ∙ e)
    where
      go : (w : Bool) → read_where w (evaluate ρ t) ≡ some v → T w
      go true e = tt
      go false e = absurd (none-ne-some v e)

  -- a predicate is read as true exactly where its well-definedness formula and it are true
  pub true_reads : (t : Tree) → True ρ (well_defined t) → True ρ t → read_tree ρ t ≡ some (truth true)
  true_reads t d h = well_defined_reads t d ∙ ap {B = Option AnyValue} some (go (evaluate ρ t) h)
    where
      go : (v : AnyValue) → T (as_truth v) → v ≡ truth true
      go (number z) h = absurd h
      go (truth b) h = ap truth (test_true b h)

  pub reads_true : (t : Tree) → read_tree ρ t ≡ some (truth true) → True ρ t
  reads_true t e = subst (λ v. T (as_truth v)) (sym (reads_total t (truth true) e)) tt

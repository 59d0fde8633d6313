-- Check 9: what one row more does to the uses of every node. A row adds one where a column of it that is an operand, or its root, is the node.
use Prim.Native.Nat.{ℕ, zero, suc, ◌+◌, ◌*◌, ◌≤◌, ◌<◌, ◌^◌}
use mathlib.Core.Path.{◌≡◌, refl, sym, ◌∙◌}
use mathlib.Core.Bool.{Bool, true, false, ◌&&◌}
use mathlib.Core.List.{List}
use native.Mathlib.Omega.{arith}
use native.Mathlib.Numerals.{add-one}
use native.Mathlib.Decide.{ℕ_discrete}
use borrow.Author.Tests.{eq-eqb, ne_eqb, leb-true, leb-false}
use lib.Dec.{eqb, ltb, leb}
use lib.ListN.{length, get_or, length-set, get_or-eq_default}
use lib.Seq.{get_or-set_same, get_or-set_other}
use Rattle.lists.specs.Choice.{pick}
use Rattle.lists.specs.Below.{one_if}
use Rattle.table.specs.Names.{node_tag}
use Rattle.table.specs.Rows.{Rows, tagged}
use Rattle.table.specs.Lookups.{most_rows}
use Rattle.rules.specs.Sorts.{shape_of, operand_count}
use Rattle.rules.specs.Rules.{root_at, names_root, uses_at, uses_to}
use Rattle.rule_sorts.specs.Uses.{used_if, UsedTo}

one_at_most : (b : Bool) → one_if b ≤ 1
one_at_most true = omega arith
one_at_most false = omega arith

-- one use more, where a test passes
module _ (test : Bool) (n : ℕ) (uses : List ℕ) where
  pub used_size : length (used_if test n uses) ≡ length uses
  used_size = go test
    where
      go : (b : Bool) → length (used_if b n uses) ≡ length uses
      go true = length-set uses n (get_or uses n 0 + 1)
      go false = refl

  pub used_at : (m : ℕ) → m < length uses → get_or (used_if test n uses) m 0 ≡ get_or uses m 0 + one_if (test && eqb n m)
  used_at m h = go test (ℕ_discrete n m)
    where
      go : (b : Bool) → Dec (n ≡ m) → get_or (used_if b n uses) m 0 ≡ get_or uses m 0 + one_if (b && eqb n m)
      go false d = omega arith
      go true (yes e) = rw (eq-eqb n m e, e) (get_or-set_same uses m (get_or uses m 0 + 1) 0 h)
      go true (no f) = rw (ne_eqb n m f) (get_or-set_other uses n m (get_or uses n 0 + 1) 0 (λ e. f (sym e)) ∙ omega arith)

-- the counts fit a word, and past the list 0 is read
fit : (uses : List ℕ) → ((m : ℕ) → m < length uses → get_or uses m 0 < 2 ^ 63) → (m : ℕ) → get_or uses m 0 < 2 ^ 63
fit uses h m = go (leb (length uses) m) refl
  where
    go : (b : Bool) → leb (length uses) m ≡ b → get_or uses m 0 < 2 ^ 63
    go true e = rw (get_or-eq_default uses 0 {n = m} (leb-true (length uses) m e)) (omega arith)
    go false e = h m (leb-false (length uses) m e)

module _ (t : Rows) where
  -- no row uses a node more than twice
  at_most_two : (n i : ℕ) → uses_at t n i ≤ 2
  at_most_two n i = go (tagged t node_tag i) (ltb 0 (operand_count (shape_of (t.a i))) && eqb (t.b i) n) (ltb 1 (operand_count (shape_of (t.a i))) && eqb (t.c i) n) (names_root t i && eqb (root_at t i) n)
    where
      go : (b x y z : Bool) → pick b (one_if x + one_if y) (one_if z) ≤ 2
      go true x y z = omega (arith, one_at_most x, one_at_most y)
      go false x y z = omega (arith, one_at_most z)

  few_uses : (n i : ℕ) → uses_to t n i ≤ 2 * i
  unfolding uses_to
  few_uses n zero = omega arith
  few_uses n (suc i) = omega (arith, few_uses n i, at_most_two n i)

  uses_next : (n i : ℕ) → uses_to t n (i + 1) ≡ uses_to t n i + uses_at t n i
  unfolding uses_to
  uses_next n i = rw add-one

  pub used_none : (uses : List ℕ) → length uses ≡ most_rows + 1 → ((n : ℕ) → get_or uses n 0 ≡ 0) → UsedTo t 0 uses
  unfolding uses_to
  used_none uses size zeros = record { size = size; counts = λ n h. zeros n }

  module _ (i : ℕ) (small : i < 2 ^ 61) (uses : List ℕ) (used : UsedTo t i uses) where
    pub used_fit : (n : ℕ) → get_or uses n 0 < 2 ^ 63
    used_fit = fit uses (λ m h. omega (arith, used.counts m (omega (arith, used.size)), few_uses m i))

    inside : (n : ℕ) → n ≤ most_rows → n < length uses
    inside n h = omega (arith, used.size)

    -- the operands of a node
    module _ (node : t.tag i ≡ node_tag) where
      abbrev operands : ℕ
      operands = operand_count (shape_of (t.a i))

      abbrev left_used : List ℕ
      left_used = used_if (ltb 0 operands) (t.b i) uses

      pub left_fit : (n : ℕ) → get_or left_used n 0 < 2 ^ 63
      left_fit = fit left_used (λ m h. let l : m < length uses = omega (arith, used_size (ltb 0 operands) (t.b i) uses) in
          omega (arith, used_at (ltb 0 operands) (t.b i) uses m l, one_at_most (ltb 0 operands && eqb (t.b i) m), used.counts m (omega (arith, used.size)), few_uses m i))

      uses_node : (n : ℕ) → uses_at t n i ≡ one_if (ltb 0 operands && eqb (t.b i) n) + one_if (ltb 1 operands && eqb (t.c i) n)
      uses_node n = rw (eq-eqb (t.tag i) node_tag node, uses_at)

      pub node_used : UsedTo t (i + 1) (used_if (ltb 1 operands) (t.c i) left_used)
      node_used = record {
        size = used_size (ltb 1 operands) (t.c i) left_used ∙ used_size (ltb 0 operands) (t.b i) uses ∙ used.size;
        counts = λ n h.
            let l : n < length left_used = omega (arith, used_size (ltb 0 operands) (t.b i) uses, inside n h) in
            used_at (ltb 1 operands) (t.c i) left_used n l
            ∙ omega (arith, used_at (ltb 0 operands) (t.b i) uses n (inside n h), used.counts n h, uses_next n i, uses_node n);
      }

    -- the root of another row
    pub root_used : (t.tag i ≡ node_tag → ⊥) → UsedTo t (i + 1) (used_if (names_root t i) (root_at t i) uses)
    root_used other = record {
      size = used_size (names_root t i) (root_at t i) uses ∙ used.size;
      counts = λ n h.
          let root : uses_at t n i ≡ one_if (names_root t i && eqb (root_at t i) n) = rw (ne_eqb (t.tag i) node_tag other, uses_at) in
          used_at (names_root t i) (root_at t i) uses n (inside n h) ∙ omega (arith, used.counts n h, uses_next n i, root);
    }

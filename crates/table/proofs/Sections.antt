-- Where tags never fall, the rows of a tag stand together: from `start` on, `count` many. For the rows of lower tags are those below a boundary, and so
-- are the rows of tags up to this one. Hence numbers from 1 to the count name exactly the rows of their section.
use Prim.Native.Nat.{ℕ, zero, suc, ◌+◌, ◌≤◌, ◌<◌}
use mathlib.Core.Path.{◌≡◌, sym, subst}
use mathlib.Core.Bool.{Bool, true, false, ◌&&◌}
use mathlib.Core.Logic.{◌⊎◌, inl, inr}
use native.Mathlib.Omega.{arith}
use native.Mathlib.Nat.{eq-or-lt_of_le}
use native.Mathlib.Decide.{ℕ_discrete, dec_lt}
use borrow.Author.Tests.{lt-ltb, le-ltb, eq-eqb, ne_eqb}
use lib.Dec.{T, ltb, leb, eqb, ltb→lt, lt→ltb, leb→le, le→leb, eqb→eq, eqb_refl}
use Rattle.lists.specs.All.{In}
use Rattle.lists.proofs.Distinct.{Distinct, pairwise_keep, numbers_distinct}
use Rattle.lists.specs.Below.{one_if, numbers}
use Rattle.lists.proofs.Below.{count_boundary, count_at_most, count_sum, numbers_in, in_numbers, keep_in, in_keep}
use Rattle.table.specs.Rows.{Rising, Rows, tagged, section, count, start, named, row_of, number_in}

module _ (t : Rows) where
  -- the rows of a section
  pub section_row : (k i : ℕ) → In i (section t k) → (i < t.size) × (t.tag i ≡ k)
  unfolding section
  section_row k i h =
      let r = in_keep (tagged t k) (numbers t.size 0) h in
      (omega (arith, (in_numbers t.size 0 i r.0).1), eqb→eq (t.tag i) k r.1)

  pub row_section : (k i : ℕ) → i < t.size → t.tag i ≡ k → In i (section t k)
  unfolding section
  row_section k i h e = keep_in (tagged t k) (numbers_in t.size 0 i (omega arith) (omega arith)) (subst (λ x. T (eqb (t.tag i) x)) e (eqb_refl (t.tag i)))

  pub section_distinct : (k : ℕ) → Distinct (section t k)
  unfolding section
  section_distinct k = pairwise_keep (tagged t k) (numbers_distinct t.size 0)

  pub named_bounds : (k n : ℕ) → T (named t k n) → (1 ≤ n) × (n ≤ count t k)
  named_bounds k n h = go (leb 1 n) (leb→le 1 n) h
    where
      go : (b : Bool) → (T b → 1 ≤ n) → T (b && leb n (count t k)) → (1 ≤ n) × (n ≤ count t k)
      go true f h = (f tt, leb→le n (count t k) h)
      go false f h = absurd h

  pub bounds_named : (k n : ℕ) → 1 ≤ n → n ≤ count t k → T (named t k n)
  bounds_named k n l h = go (leb 1 n) (le→leb 1 n l)
    where
      go : (b : Bool) → T b → T (b && leb n (count t k))
      go true f = le→leb n (count t k) h
      go false f = absurd f

  -- it is enough to compare neighbours
  pub neighbours_rising : ((i : ℕ) → suc i < t.size → t.tag i ≤ t.tag (suc i)) → Rising t
  neighbours_rising step i zero l h = let e : i ≡ 0 = omega arith in subst (λ x. t.tag x ≤ t.tag 0) (sym e) (omega arith)
  neighbours_rising step i (suc j) l h = go (neighbours_rising step i j) (eq-or-lt_of_le l)
    where
      go : (i ≤ j → j < t.size → t.tag i ≤ t.tag j) → (i ≡ suc j) ⊎ (i < suc j) → t.tag i ≤ t.tag (suc j)
      go ih (inl e) = subst (λ x. t.tag x ≤ t.tag (suc j)) (sym e) (omega arith)
      go ih (inr m) = omega (arith, ih (omega arith) (omega arith), step j h)

  abbrev lower : ℕ → ℕ → Bool
  lower k i = ltb (t.tag i) k

  below_parts : (k x : ℕ) → one_if (ltb x (suc k)) ≡ one_if (ltb x k) + one_if (eqb x k)
  below_parts k x = go (dec_lt x k) (ℕ_discrete x k)
    where
      go : Dec (x < k) → Dec (x ≡ k) → one_if (ltb x (suc k)) ≡ one_if (ltb x k) + one_if (eqb x k)
      go (yes h) d = rw (lt-ltb x (suc k) (omega arith), lt-ltb x k h, ne_eqb x k (omega arith))
      go (no f) (yes e) = rw (lt-ltb x (suc k) (omega arith), le-ltb x k (omega arith), eq-eqb x k e)
      go (no f) (no g) = rw (le-ltb x (suc k) (omega arith), le-ltb x k (omega arith), ne_eqb x k g)

  start_next : (k : ℕ) → start t (suc k) ≡ start t k + count t k
  unfolding start count
  start_next k = count_sum (lower k) (tagged t k) (lower (suc k)) (λ i. below_parts k (t.tag i)) t.size

  module _ (rising : Rising t) where
    -- a row's tag is lower than k exactly where the row is below the start of k
    start_boundary : (k i : ℕ) → i < t.size → (t.tag i < k → i < start t k) × (i < start t k → t.tag i < k)
    unfolding start
    start_boundary k i h =
        let b = count_boundary (lower k) t.size
        (λ i j l m p. lt→ltb (t.tag i) k (omega (arith, rising i j (omega arith) m, ltb→lt (t.tag j) k p))) i h in
        (λ l. b.0 (lt→ltb (t.tag i) k l), λ l. ltb→lt (t.tag i) k (b.1 l))

    start_at_most : (k : ℕ) → start t k ≤ t.size
    unfolding start
    start_at_most k = count_at_most (lower k) t.size

    -- the rows of a tag: from its start on, as many as it has
    pub tagged_place : (k i : ℕ) → i < t.size → t.tag i ≡ k → (start t k ≤ i) × (i < start t k + count t k)
    tagged_place k i h e =
        let f : i < start t k → ⊥ = λ u. let v : t.tag i < k = (start_boundary k i h).1 u in omega arith in
        (omega arith, omega (arith, (start_boundary (suc k) i h).0 (omega arith), start_next k))

    pub place_tagged : (k i : ℕ) → start t k ≤ i → i < start t k + count t k → (i < t.size) × (t.tag i ≡ k)
    place_tagged k i l m =
        let h : i < t.size = omega (arith, start_next k, start_at_most (suc k)) in
        let f : t.tag i < k → ⊥ = λ u. let v : i < start t k = (start_boundary k i h).0 u in omega arith in
        (h, omega (arith, (start_boundary (suc k) i h).1 (omega (arith, start_next k))))

    -- a number that names something is the number of its row
    pub named_row : (k n : ℕ) → T (named t k n) → (row_of t k n < t.size) × (t.tag (row_of t k n) ≡ k)
    named_row k n h =
        let b = named_bounds k n h in
        place_tagged k (row_of t k n) (omega (arith, b.0)) (omega (arith, b.0, b.1))

    pub number_of_row : (k n : ℕ) → T (named t k n) → number_in t k (row_of t k n) ≡ n
    number_of_row k n h = omega (arith, (named_bounds k n h).0)

    -- a row of a section has a number that names it
    pub row_named : (k i : ℕ) → i < t.size → t.tag i ≡ k → T (named t k (number_in t k i))
    row_named k i h e =
        let p = tagged_place k i h e in
        bounds_named k (number_in t k i) (omega (arith, p.0)) (omega (arith, p.0, p.1))

    pub row_of_number : (k i : ℕ) → i < t.size → t.tag i ≡ k → row_of t k (number_in t k i) ≡ i
    row_of_number k i h e = omega (arith, (tagged_place k i h e).0)

-- A table that meets every rule keeps its machines' roots and targets apart, and its identifiers and events rise. Roots are images of distinct rows, and a
-- root is named by one row (check 9); the rows of different parts have different tags. Targets differ by check 11; identifiers and events are numbered.
use Prim.Native.Nat.{ℕ, suc, ◌≤◌, ◌<◌}
use mathlib.Core.Path.{◌≡◌, refl, sym, ap, ◌∙◌}
use mathlib.Core.List.{List, [], ◌∷◌, ◌++◌, map, map-map, flat_map}
use mathlib.Core.Logic.{⊎_elim}
use native.Mathlib.Omega.{arith}
use lib.Dec.{T}
use Rattle.lists.specs.All.{In}
use Rattle.lists.specs.Below.{numbers}
use Rattle.lists.proofs.Distinct.{Distinct, pairwise_join, pairwise_imp, pairwise_flat, distinct_map, numbers_rise, rising_distinct}
use Rattle.lists.proofs.All.{in_nil, in_unmap, in_either, in_unflat}
use Rattle.table.specs.Rows.{Rows, section, count}
use Rattle.table.proofs.Sections.{section_row, section_distinct}
use Rattle.machine.specs.Machine.{Witness}
use Rattle.machine.specs.Described.{action_of, belonging, machine_of}
use Rattle.machine.proofs.Described.{variables_rise, belonging_row, belonging_distinct, SetBy, action_row_lem}
use Rattle.sequent.proofs.Exact.{in_one}
use Rattle.sequent.specs.Order.{action_roots, action_roots_of}
use Rattle.sequent.proofs.Ordered.{action_roots_distinct, own_either, Separate}
use Rattle.rules.specs.Rules.{root_at, names_root}
use Rattle.rules.proofs.Obeys.{Obeys}
use Rattle.rules.proofs.References.{root_tag, root_of, names_root_lem, root_at_lem}
use Rattle.rules.proofs.Twice.{witness_once}
use Rattle.rules.proofs.Uses.{root_once}

-- the row i has a tag from lo to below hi and names the root r
record RootRow (t : Rows) (lo hi r i : ℕ) : Type 0 where
  inside : i < t.size
  low : lo ≤ t.tag i
  high : t.tag i < hi
  names : T (names_root t i)
  root : root_at t i ≡ r

-- distinct roots, each named by a row with a tag from lo to below hi
record Roots (t : Rows) (lo hi : ℕ) (rs : List ℕ) : Type 0 where
  apart : Distinct rs
  rows : (r : ℕ) → In r rs → (i : ℕ) × RootRow t lo hi r i

module _ (t : Rows) (ok : Obeys t) where
  root_row : {lo hi r : ℕ} (k i : ℕ) → T (root_tag k) → (lo ≤ k) × (k < hi) → i < t.size → t.tag i ≡ k → r ≡ root_of t k i → RootRow t lo hi r i
  root_row k i tag bounds h e p = record {
    inside = h;
    low = omega (arith, bounds.0);
    high = omega (arith, bounds.1);
    names = names_root_lem t k i e tag;
    root = root_at_lem t k i e ∙ sym p;
  }

  same_row : {lo hi lo' hi' r q i j : ℕ} → RootRow t lo hi r i → RootRow t lo' hi' q j → r ≡ q → i ≡ j
  same_row {i} {j} h k e = root_once t ok i j h.inside k.inside h.names k.names (h.root ∙ e ∙ sym k.root)

  -- roots of lower tags, then roots of higher tags
  roots_join : {lo mid hi : ℕ} {rs qs : List ℕ} → (lo ≤ mid) × (mid ≤ hi) → Roots t lo mid rs → Roots t mid hi qs → Roots t lo hi (rs ++ qs)
  roots_join {lo} {mid} {hi} {rs} {qs} between lower higher = record {
    apart = pairwise_join lower.apart higher.apart (λ r q i j e. across (lower.rows r i).1 (higher.rows q j).1 e);
    rows = λ r i. ⊎_elim (λ j. left (lower.rows r j)) (λ j. right (higher.rows r j)) (in_either rs i);
  }
    where
      across : {r q i j : ℕ} → RootRow t lo mid r i → RootRow t mid hi q j → r ≡ q → ⊥
      across h k e = omega (arith, h.high, k.low, ap t.tag (same_row h k e))

      left : {r : ℕ} → (i : ℕ) × RootRow t lo mid r i → (i : ℕ) × RootRow t lo hi r i
      left (i, h) = (i, record { inside = h.inside; low = h.low; high = omega (arith, h.high, between.1); names = h.names; root = h.root })

      right : {r : ℕ} → (i : ℕ) × RootRow t mid hi r i → (i : ℕ) × RootRow t lo hi r i
      right (i, h) = (i, record { inside = h.inside; low = omega (arith, h.low, between.0); high = h.high; names = h.names; root = h.root })

  -- the roots that distinct rows of one tag name
  roots_of_rows : {lo hi : ℕ} (k : ℕ) {is : List ℕ} → T (root_tag k) → (lo ≤ k) × (k < hi) → Distinct is
      → ((i : ℕ) → In i is → (i < t.size) × (t.tag i ≡ k)) → Roots t lo hi (map (root_of t k) is)
  roots_of_rows {lo} {hi} k {is} tag bounds d row = record {
    apart = distinct_map (root_of t k) d (λ i j p q e. same_row (at i p refl) (at j q refl) e);
    rows = λ r m. let (i, j, p) = in_unmap (root_of t k) is m in (i, at i j p);
  }
    where
      at : {r : ℕ} (i : ℕ) → In i is → r ≡ root_of t k i → RootRow t lo hi r i
      at i m p = root_row k i tag bounds (row i m).0 (row i m).1 p

  section_roots : {lo hi : ℕ} (k : ℕ) → T (root_tag k) → (lo ≤ k) × (k < hi) → Roots t lo hi (map (root_of t k) (section t k))
  section_roots k tag bounds = roots_of_rows k tag bounds (section_distinct t k) (λ i m. section_row t k i m)

  belonging_roots : {lo hi : ℕ} (k e : ℕ) → T (root_tag k) → (lo ≤ k) × (k < hi) → Roots t lo hi (map (root_of t k) (belonging t k e))
  belonging_roots k e tag bounds = roots_of_rows k tag bounds (belonging_distinct t k e) (λ i m. let r = belonging_row t k e i m in (r.0, r.1))

  -- the row of an action holds its variable, so that different variables have different rows
  abbrev ActionRow : ℕ → ℕ → Type 0
  ActionRow x r = (i : ℕ) × RootRow t 51 60 r i × (t.b i ≡ x)

  set_by : {e x r : ℕ} (k i : ℕ) → T (root_tag k) → (51 ≤ k) × (k < 60) → SetBy t k e x i → In r (root_of t k i ∷ []) → ActionRow x r
  set_by k i tag bounds s m = (i, root_row k i tag bounds s.inside s.tag_is (in_one m), s.variable_is)

  action_root : (e x r : ℕ) → In r (action_roots (action_of t e x)) → ActionRow x r
  action_root e x r =
      action_row_lem t e x (λ a. In r (action_roots a) → ActionRow x r) (λ i s. set_by 51 i tt (omega arith) s) (λ i s. set_by 52 i tt (omega arith) s)
      (λ none m. absurd (in_nil m))

  action_roots_lem : (e : ℕ) {xs : List ℕ} → Distinct xs → Roots t 51 60 (flat_map (λ x. action_roots (action_of t e x)) xs)
  action_roots_lem e {xs} d = record {
    apart = pairwise_flat (λ x. action_roots (action_of t e x)) (λ x m. action_roots_distinct (action_of t e x))
        (pairwise_imp d (λ x y m n different r q i j same. apart_by_variable different (action_root e x r i) (action_root e y q j) same));
    rows = λ r m. let (x, n, i) = in_unflat (λ x. action_roots (action_of t e x)) xs m in let (row, h, p) = action_root e x r i in (row, h);
  }
    where
      apart_by_variable : {x y r q : ℕ} → ¬ (x ≡ y) → ActionRow x r → ActionRow y q → r ≡ q → ⊥
      apart_by_variable different (i, h, p) (j, k, s) same = different (sym p ∙ ap t.b (same_row h k same) ∙ s)

pub obeys_separate : (t : Rows) → Obeys t → Separate (machine_of t)
unfolding machine_of numbers
obeys_separate t ok = record {
  formula_roots = formula_roots_lem.apart;
  event_roots = λ e. (event_roots_lem e).apart;
  targets = targets_apart;
  abstract_variables = variables_rise t 2;
  concrete_variables = variables_rise t 3;
  events = numbers_rise (suc (count t 40)) 0;
}
  where
    formula_roots_lem : Roots t 30 71 ((map t.a (section t 30) ++ (map t.a (section t 31) ++ map t.a (section t 32))) ++ map t.a (section t 70))
    formula_roots_lem =
        roots_join t ok {mid = 70} (omega arith)
        (roots_join t ok {mid = 31} (omega arith) (section_roots t ok 30 tt (omega arith))
        (roots_join t ok {mid = 32} (omega arith) (section_roots t ok 31 tt (omega arith)) (section_roots t ok 32 tt (omega arith))))
        (section_roots t ok 70 tt (omega arith))

    witness : ℕ → Witness
    witness i = record { target = t.b i; root = t.c i }

    event_roots_lem : (e : ℕ)
        → Roots t 50 61 (map t.b (belonging t 50 e) ++ (action_roots_of (machine_of t) e ++ map (λ w. w.root) (map witness (belonging t 60 e))))
    event_roots_lem e =
        roots_join t ok {mid = 51} (omega arith) (belonging_roots t ok 50 e tt (omega arith))
        (roots_join t ok {mid = 60} (omega arith)
        (action_roots_lem t ok e (own_either Distinct (rising_distinct (variables_rise t 3)) (rising_distinct (variables_rise t 2)) ((machine_of t).role e)))
        (rw map-map (belonging_roots t ok 60 e tt (omega arith))))

    targets_apart : (e : ℕ) → Distinct (map (λ w. w.target) (map witness (belonging t 60 e)))
    targets_apart e = rw map-map (distinct_map t.b (belonging_distinct t 60 e) one)
      where
        one : (i j : ℕ) → In i (belonging t 60 e) → In j (belonging t 60 e) → t.b i ≡ t.b j → i ≡ j
        one i j m n same =
            let p = belonging_row t 60 e i m in
            let q = belonging_row t 60 e j n in
            witness_once t ok i j p.0 q.0 p.1 q.1 (p.2 ∙ sym q.2) same

-- What check 9 gives: two rows that name one root are one row. Two rows would use the root twice, and the root is a node by check 7, so check 9 speaks of it.
use Prim.Native.Nat.{ℕ, zero, suc, ◌+◌, ◌≤◌, ◌<◌}
use mathlib.Core.Path.{◌≡◌, refl, sym, ap, subst}
use mathlib.Core.Bool.{not, ◌&&◌}
use mathlib.Core.Logic.{⊎_elim}
use native.Mathlib.Omega.{arith}
use native.Mathlib.Nat.{eq-or-lt_of_le}
use lib.Dec.{T, ltb, eqb, eqb_refl, eqb→eq, ltb→lt}
use borrow.Author.Tests.{ne_eqb}
use Rattle.lists.proofs.Below.{one_where}
use Rattle.formula.proofs.Truth.{and_split, and_join, rule_met}
use Rattle.table.specs.Rows.{Rows, tagged, named, row_of, number_in}
use Rattle.table.proofs.Sections.{named_row, number_of_row}
use Rattle.rules.specs.Rules.{root_at, names_root, uses_at, uses_to, use_offends}
use Rattle.rules.proofs.Obeys.{Obeys}
use Rattle.rules.proofs.References.{root_row_lem}
use Rattle.rules.proofs.Tags.{tagged_test, tags_rising}

module _ (t : Rows) where
  -- the uses at one row, and at two, are among the uses at all
  uses_one : (n m i : ℕ) → i < m → uses_at t n i ≤ uses_to t n m
  unfolding uses_to
  uses_one n zero i h = absurd (omega arith)
  uses_one n (suc m) i h =
      ⊎_elim (λ (e : i ≡ m). omega (arith, ap (uses_at t n) e)) (λ (l : i < m). omega (arith, uses_one n m i l)) (eq-or-lt_of_le (omega arith))

  uses_two : (n m i j : ℕ) → i < j → j < m → uses_at t n i + uses_at t n j ≤ uses_to t n m
  unfolding uses_to
  uses_two n zero i j l h = absurd (omega arith)
  uses_two n (suc m) i j l h =
      ⊎_elim (λ (e : j ≡ m). omega (arith, ap (uses_at t n) e, uses_one n m i (omega arith))) (λ (k : j < m). omega (arith, uses_two n m i j l k))
      (eq-or-lt_of_le (omega arith))

  -- a row that names a root uses it once
  root_use : (i : ℕ) → T (names_root t i) → uses_at t (root_at t i) i ≡ 1
  root_use i r =
      let above : 20 < t.tag i = ltb→lt 20 (t.tag i) (and_split (ltb 20 (t.tag i)) (not (tagged t 40 i)) r).0 in
      let same = eqb (root_at t i) (root_at t i) in
      rw (ne_eqb (t.tag i) 20 (omega arith), uses_at) (one_where (names_root t i && same) (and_join (names_root t i) same r (eqb_refl (root_at t i))))

  module _ (ok : Obeys t) where
    -- "Each node has one use, as an operand or a root."
    node_use : (n : ℕ) → T (named t 20 n) → uses_to t n t.size ≡ 1
    unfolding use_offends
    node_use n h =
        let i = row_of t 20 n in
        let r = named_row t (tags_rising t ok) 20 n h in
        let uses = uses_to t (number_in t 20 i) t.size in
        subst (λ n. uses_to t n t.size ≡ 1) (number_of_row t (tags_rising t ok) 20 n h)
        (eqb→eq uses 1 (rule_met (tagged t 20 i) (eqb uses 1) (ok.uses i r.0) (tagged_test t 20 i r.1)))

    root_named : (i : ℕ) → i < t.size → T (names_root t i) → T (named t 20 (root_at t i))
    unfolding root_at
    root_named i h r = (root_row_lem t ok (t.tag i) i h refl r).1

    no_second : (i j : ℕ) → i < j → j < t.size → T (names_root t i) → T (names_root t j) → root_at t i ≡ root_at t j → ⊥
    no_second i j l h p q e =
        let n = root_at t i in
        let second : uses_at t n j ≡ 1 = subst (λ n. uses_at t n j ≡ 1) (sym e) (root_use j q) in
        omega (arith, root_use i p, second, uses_two n t.size i j l h, node_use n (root_named i (omega arith) p))

    pub root_once : (i j : ℕ) → i < t.size → j < t.size → T (names_root t i) → T (names_root t j) → root_at t i ≡ root_at t j → i ≡ j
    root_once i j h g p q e =
        let notBefore : i < j → ⊥ = λ l. no_second i j l g p q e in
        let notAfter : j < i → ⊥ = λ l. no_second j i l h q p (sym e) in
        omega arith

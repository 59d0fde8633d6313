-- Acceptance: a table is accepted iff nothing in it offends, and then with the count of its sequents; it is refused with a number and a row iff that
-- is the least check with an offender and its first row. The verdict's own search finds one or the other, and they exclude each other.
use Prim.Native.Nat.{ℕ, suc, ◌≤◌, ◌<◌}
use mathlib.Core.Path.{◌≡◌, refl, ap, sym, ◌∙◌, subst}
use mathlib.Core.Bool.{Bool, true, false, true≢false}
use mathlib.Core.List.{List}
use mathlib.Core.Logic.{◌⊎◌, inl, inr}
use native.Mathlib.Omega.{arith}
use native.Mathlib.Numerals.{add-one}
use borrow.Author.Tests.{ltb-true, ltb-false, lt-ltb}
use lib.Dec.{ltb}
use Rattle.std.specs.Prelude.{Ok, Err}
use Rattle.lists.specs.Below.{first}
use Rattle.lists.proofs.First.{Least, first_least, least_at_most}
use Rattle.table.specs.Rows.{Rows}
use Rattle.rules.specs.Refusal.{refused}
use Rattle.rules.specs.Decoded.{framed, row_count, line_of, not_row, decoded}
use Rattle.rules.specs.Rules.{offends, missing}
use Rattle.rules.specs.Verdict.{first_row, first_check, judge, verdict}
use Rattle.rules.specs.Offence.{Offence, frame, column, row, lack, FirstOffence, NoOffence, sequent_count}
use Rattle.rules.proofs.Cases.{judge_row, judge_missing, judge_accepted, verdict_frame, verdict_column, verdict_judge}
use Rattle.rules.proofs.Obeys.{Obeys, passes_obeys}

both_ways : {b : Bool} → b ≡ true → b ≡ false → ⊥
both_ways p q = true≢false (sym p ∙ q)

module _ (bytes : List ℕ) where
  -- one or the other
  abbrev Found : Type 0
  Found = ((c : ℕ) × (r : ℕ) × FirstOffence bytes c r × (verdict bytes ≡ Err (refused c r))) ⊎ (NoOffence bytes × (verdict bytes ≡ Ok (sequent_count bytes)))

  -- an offence of the check c' at the row r' comes no earlier than the check c at the row r
  abbrev NotBefore : ℕ → ℕ → ℕ → ℕ → Type 0
  NotBefore c r c' r' = (c < c') ⊎ ((c ≡ c') × (r ≤ r'))

  first_frame : framed bytes ≡ false → FirstOffence bytes 1 0
  first_frame f = record { offence = frame f; least = only }
    where
      only : (c r : ℕ) → Offence bytes c r → NotBefore 1 0 c r
      only c r (frame g) = inr (refl, omega arith)
      only c r (column i h e) = inl (omega arith)
      only c r (row k i low high h e) = inl (omega arith)
      only c r (lack e) = inl (omega arith)

  module _ (f : framed bytes ≡ true) where
    first_column : (k : ℕ) → Least (λ i. not_row (line_of bytes i)) (row_count bytes) 0 k → k < row_count bytes → FirstOffence bytes 2 (suc k)
    first_column k l h = record { offence = column k h (l.passes (omega arith)); least = only }
      where
        only : (c r : ℕ) → Offence bytes c r → NotBefore 2 (suc k) c r
        only c r (frame g) = absurd (both_ways f g)
        only c r (column i g e) = inr (refl, omega (arith, least_at_most l i (omega arith) e))
        only c r (row check i low high g e) = inl (omega arith)
        only c r (lack e) = inl (omega arith)

    module _ (rows : (i : ℕ) → i < row_count bytes → not_row (line_of bytes i) ≡ false) where
      abbrev t : Rows
      t = decoded bytes

      first_row_lem : (check k : ℕ) → Least (λ c. ltb (first_row t c) t.size) 9 3 check → check < 12 → Least (offends t check) t.size 0 k → k < t.size
          → FirstOffence bytes check (suc k)
      first_row_lem check k lc hc l h = record { offence = row check k lc.from (omega arith) h (l.passes (omega arith)); least = only }
        where
          -- a row that offends against the check c makes c's first row one of the table
          some : (c i : ℕ) → i < t.size → offends t c i ≡ true → ltb (first_row t c) t.size ≡ true
          some c i g e = lt-ltb (first_row t c) t.size (omega (arith, least_at_most (first_least (offends t c) t.size 0) i (omega arith) e))

          split : (c i : ℕ) → check ≤ c → i < t.size → offends t c i ≡ true → (x : Bool) → ltb check c ≡ x → NotBefore check (suc k) c (suc i)
          split c i le g e true q = inl (ltb-true check c q)
          split c i le g e false q =
              let same : check ≡ c = omega (arith, ltb-false check c q) in
              inr (same, omega (arith, least_at_most l i (omega arith) (subst (λ x. offends t x i ≡ true) (sym same) e)))

          only : (c r : ℕ) → Offence bytes c r → NotBefore check (suc k) c r
          only c r (frame g) = absurd (both_ways f g)
          only c r (column i g e) = absurd (both_ways e (rows i g))
          only c r (row check' i low high g e) = split check' i (least_at_most lc check' low (some check' i g e)) g e (ltb check check') refl
          only c r (lack e) = inl (omega arith)

      module _ (none : (check i : ℕ) → 3 ≤ check → check ≤ 11 → i < t.size → offends t check i ≡ false) where
        first_lack : missing t ≡ true → FirstOffence bytes 12 0
        first_lack m = record { offence = lack m; least = only }
          where
            only : (c r : ℕ) → Offence bytes c r → NotBefore 12 0 c r
            only c r (frame g) = absurd (both_ways f g)
            only c r (column i g e) = absurd (both_ways e (rows i g))
            only c r (row check i low high g e) = absurd (both_ways e (none check i low high g))
            only c r (lack e) = inr (refl, omega arith)

        no_offence : missing t ≡ false → NoOffence bytes
        no_offence m c r (frame g) = both_ways f g
        no_offence m c r (column i g e) = both_ways e (rows i g)
        no_offence m c r (row check i low high g e) = both_ways e (none check i low high g)
        no_offence m c r (lack e) = both_ways e m

  -- the verdict's search
  judged : (f : framed bytes ≡ true) → (rows : (i : ℕ) → i < row_count bytes → not_row (line_of bytes i) ≡ false) → verdict bytes ≡ judge (decoded bytes) → Found
  unfolding first_check
  judged f rows e = go (ltb check 12) refl (missing t') refl
    where
      t' : Rows
      t' = decoded bytes

      check : ℕ
      check = first_check t'

      lc : Least (λ c. ltb (first_row t' c) t'.size) 9 3 check
      lc = first_least (λ c. ltb (first_row t' c) t'.size) 9 3

      of_row_of : (c : ℕ) → Least (offends t' c) t'.size 0 (first_row t' c)
      of_row_of c = first_least (offends t' c) t'.size 0

      none : 12 ≤ check → (c i : ℕ) → 3 ≤ c → c ≤ 11 → i < t'.size → offends t' c i ≡ false
      none h c i low high g = (of_row_of c).before i (omega arith) (omega (arith, ltb-false (first_row t' c) t'.size (lc.before c low (omega arith))))

      go : (x : Bool) → ltb check 12 ≡ x → (y : Bool) → missing t' ≡ y → Found
      go true p y q =
          let h : check < 12 = ltb-true check 12 p in
          let k : first_row t' check < t'.size = ltb-true (first_row t' check) t'.size (lc.passes (omega arith)) in
          inl (check, suc (first_row t' check), first_row_lem f rows check (first_row t' check) lc h (of_row_of check) k, e ∙ judge_row t' h ∙ ap (λ r. Err (refused check r)) (add-one (first_row t' check)))
      go false p true q = let h = ltb-false check 12 p in inl (12, 0, first_lack f rows (none h) q, e ∙ judge_missing t' h q)
      go false p false q = let h = ltb-false check 12 p in inr (no_offence f rows (none h) q, e ∙ judge_accepted t' h q)

  found : Found
  found = go (framed bytes) refl (ltb k n) refl
    where
      n : ℕ
      n = row_count bytes

      k : ℕ
      k = first (λ i. not_row (line_of bytes i)) n 0

      lk : Least (λ i. not_row (line_of bytes i)) n 0 k
      lk = first_least (λ i. not_row (line_of bytes i)) n 0

      go : (x : Bool) → framed bytes ≡ x → (y : Bool) → ltb k n ≡ y → Found
      go false f y q = inl (1, 0, first_frame f, verdict_frame bytes f)
      go true f true q = let h = ltb-true k n q in inl (2, suc k, first_column f k lk h, verdict_column bytes f h ∙ ap (λ r. Err (refused 2 r)) (add-one k))
      go true f false q = let h = ltb-false k n q in judged f (λ i g. lk.before i (omega arith) (omega (arith, h))) (verdict_judge bytes f h)

  -- two first offences are one
  one_first : (c r c' r' : ℕ) → FirstOffence bytes c r → FirstOffence bytes c' r' → (c ≡ c') × (r ≡ r')
  one_first c r c' r' h g = go (h.least c' r' g.offence) (g.least c r h.offence)
    where
      go : NotBefore c r c' r' → NotBefore c' r' c r → (c ≡ c') × (r ≡ r')
      go (inl a) (inl b) = absurd (omega arith)
      go (inl a) (inr b) = absurd (omega (arith, b.0))
      go (inr a) (inl b) = absurd (omega (arith, a.0))
      go (inr a) (inr b) = (a.0, omega (arith, a.1, b.1))

  differ : (c r n : ℕ) → Err (refused c r) ≡ Ok n → ⊥
  differ c r n e = let z : ◌≡◌ {A = ℕ} 0 1 = cc in omega arith

  -- refused iff that is the least check with an offender, at its first row; so no number is returned in another case
  pub refused_first : (c r : ℕ) → verdict bytes ≡ Err (refused c r) → FirstOffence bytes c r
  refused_first c r v = go found
    where
      go : Found → FirstOffence bytes c r
      go (inl h) =
          let same : refused h.0 h.1 ≡ refused c r = (let q : Err (refused h.0 h.1) ≡ Err (refused c r) = sym h.3 ∙ v in cc) in
          let ec : h.0 ≡ c = ap (λ x. x.number) same in
          let er : h.1 ≡ r = ap (λ x. x.row) same in
          subst (λ x. FirstOffence bytes x r) ec (subst (λ y. FirstOffence bytes h.0 y) er h.2)
      go (inr h) = absurd (differ c r (sequent_count bytes) (sym v ∙ h.1))

  pub first_refused : (c r : ℕ) → FirstOffence bytes c r → verdict bytes ≡ Err (refused c r)
  first_refused c r g = go found
    where
      go : Found → verdict bytes ≡ Err (refused c r)
      go (inl h) = let s = one_first h.0 h.1 c r h.2 g in h.3 ∙ ap (λ x. Err (refused x h.1)) s.0 ∙ ap (λ r. Err (refused c r)) s.1
      go (inr h) = absurd (h.0 c r g.offence)

  -- accepted iff nothing offends, and then with the count of the list
  pub accepted_none : (n : ℕ) → verdict bytes ≡ Ok n → NoOffence bytes × (n ≡ (sequent_count bytes))
  accepted_none n v = go found
    where
      go : Found → NoOffence bytes × (n ≡ (sequent_count bytes))
      go (inl h) = absurd (differ h.0 h.1 n (sym h.3 ∙ v))
      go (inr h) = (h.0, let q : Ok n ≡ Ok (sequent_count bytes) = sym v ∙ h.1 in cc)

  pub none_accepted : NoOffence bytes → verdict bytes ≡ Ok (sequent_count bytes)
  none_accepted none = go found
    where
      go : Found → verdict bytes ≡ Ok (sequent_count bytes)
      go (inl h) = absurd (none h.0 h.1 h.2.offence)
      go (inr h) = h.1

  -- row by row
  pub none_obeys : NoOffence bytes → Obeys (decoded bytes)
  none_obeys none = passes_obeys (decoded bytes) (
    λ c i low high h. not_true (offends (decoded bytes) c i) (λ e. none c (suc i) (row c i low (omega arith) h e)),
    not_true (missing (decoded bytes)) (λ m. none 12 0 (lack m)),
  )
    where
      not_true : (b : Bool) → (b ≡ true → ⊥) → b ≡ false
      not_true true f = absurd (f refl)
      not_true false f = refl
